-- The searches for the rule nodes that a label meets, step by step: u is the set before the number n is tried, and v after it.
use Rattle.std.proofs.Common.{◌≡◌, ℕ, ◌+◌, ◌<◌, ◌≤◌, ◌⊎◌, ◌↔◌, Bool, true, false, List, length, get_or, take, min, ap, ◌∙◌, sym, inl, inr, ⊎_elim, arith}
use Rattle.std.proofs.lemmas.Bool.{cases_lt, both_ways}
use Rattle.std.proofs.lemmas.List.{get_or_default, get_or-take, length-take-le}
use Rattle.std.proofs.lemmas.Option.{slice_get-get_or, slice_get_within, get_or_from_slice_get}
use Rattle.rules.specs.declared.node.RuleNode.{RuleNode}
use Rattle.rules.specs.Rule.{any_of}
use Rattle.rules.specs.Embedding.{Meets}
use Rattle.rules.proofs.RuleLaws.{few_nodes}
use Rattle.runs.specs.Bits.{Has}

-- the rule nodes that every label meets
module _ (ns : List RuleNode) (x : ℕ) where
  pub any_none : (u : ℕ) → (Has u x → ⊥) → Has u x ↔ ((x < 0) × (any_of ns x ≡ true))
  any_none u h = (λ k. absurd (h k), λ k. let l : x < 0 = k.0 in let z : ⊥ = omega arith in absurd z)

  pub any_yes : (n m u v : ℕ) → (Has u x ↔ ((x < n) × (any_of ns x ≡ true))) → (Has v x ↔ (Has u x ⊎ ((x ≡ n) × (n < 64))))
      → n < 64 → any_of ns n ≡ true → m ≡ n + 1 → Has v x ↔ ((x < m) × (any_of ns x ≡ true))
  any_yes n m u v seen more low it e = (
    λ h. ⊎_elim
        (λ k. let l = (seen.0 k).0 in (omega arith, (seen.0 k).1))
        (λ k. let same : x ≡ n = k.0 in (omega arith, ap (λ (y : ℕ). any_of ns y) same ∙ it))
        (more.0 h),
    λ h. let b : x < m = h.0 in
        more.1 (⊎_elim (λ l. inl (seen.1 (l, h.1))) (λ l. let same : x ≡ n = omega arith in inr (same, low)) (cases_lt x n)),
  )

  pub any_no : (n m u : ℕ) → (Has u x ↔ ((x < n) × (any_of ns x ≡ true))) → any_of ns n ≡ false → m ≡ n + 1
      → Has u x ↔ ((x < m) × (any_of ns x ≡ true))
  any_no n m u seen it e = (
    λ h. let l = (seen.0 h).0 in (omega arith, (seen.0 h).1),
    λ h. let b : x < m = h.0 in
        ⊎_elim
        (λ l. seen.1 (l, h.1))
        (λ l. let same : x ≡ n = omega arith in absurd (both_ways _ (ap (λ (y : ℕ). any_of ns y) same ∙ it) h.1))
        (cases_lt x n),
  )

-- x is a rule node that every label meets, or it is below n and its label is the label t
unfoldable pub Named : {T : Type 0} → (T → T → Bool) → List RuleNode → List T → T → ℕ → ℕ → Type 0
Named same ns ls t n x = (x < length ns) × (any_of ns x ≡ true ⊎ ((x < n) × (same t (get_or ls x t) ≡ true)))

-- the rule nodes whose label is the label t, added to those that every label meets
module _ {T : Type 0} (same : T → T → Bool) (ns : List RuleNode) (ls : List T) (t : T) (x : ℕ) where
  pub named_none : (u : ℕ) → (Has u x ↔ ((x < length ns) × (any_of ns x ≡ true))) → Has u x ↔ Named same ns ls t 0 x
  unfolding Named
  named_none u any = (
    λ h. let k = any.0 h in (k.0, inl k.1),
    λ h. any.1 (h.0, ⊎_elim (λ k. k) (λ k. let l : x < 0 = k.0 in let z : ⊥ = omega arith in absurd z) h.1),
  )

  -- if n is not named, nothing is new
  still : (n u : ℕ) → (Has u x ↔ Named same ns ls t n x) → (n < length ns → same t (get_or ls n t) ≡ true → ⊥)
      → Has u x ↔ Named same ns ls t (n + 1) x
  unfolding Named
  still n u seen other = (
    λ h. let k = seen.0 h in (k.0, ⊎_elim (λ a. inl a) (λ b. let l : x < n = b.0 in inr (omega arith, b.1)) k.1),
    λ h. let m : x < length ns = h.0 in
        seen.1 (
          m,
          ⊎_elim
              (λ a. inl a)
              (λ b. let l : x < n + 1 = b.0 in
              ⊎_elim
              (λ below. inr (below, b.1))
              (λ above. let e : x ≡ n = omega arith in absurd (other (omega arith) (ap (λ (y : ℕ). same t (get_or ls y t)) (sym e) ∙ b.1)))
              (cases_lt x n))
              h.1,
        ),
  )

  module _ (w : T) (b : Bool) (n u : ℕ) (seen : Has u x ↔ Named same ns ls t n x) (read : w ≡ get_or ls n w) (tried : b ≡ same t w)
      (within : n < length ls) where
    found : same t (get_or ls n t) ≡ b
    found = ap (same t) (get_or_default ls n t w within ∙ sym read) ∙ sym tried

    pub named_no : b ≡ false → Has u x ↔ Named same ns ls t (n + 1) x
    named_no it = still n u seen (λ _ k. both_ways _ (found ∙ it) k)

    pub named_yes : (v : ℕ) → (Has v x ↔ (Has u x ⊎ ((x ≡ n) × (n < 64)))) → n < 64 → n < length ns → b ≡ true
        → Has v x ↔ Named same ns ls t (n + 1) x
    unfolding Named
    named_yes v more low few it = (
      λ h. ⊎_elim
          (λ g. let k = seen.0 g in (k.0, ⊎_elim (λ a. inl a) (λ b. let l : x < n = b.0 in inr (omega arith, b.1)) k.1))
          (λ g. let e : x ≡ n = g.0 in (omega arith, inr (omega arith, ap (λ (y : ℕ). same t (get_or ls y t)) e ∙ found ∙ it)))
          (more.0 h),
      λ h. let m : x < length ns = h.0 in
          more.1 (⊎_elim
          (λ a. inl (seen.1 (m, inl a)))
          (λ b. let l : x < n + 1 = b.0 in
          ⊎_elim (λ below. inl (seen.1 (m, inr (below, b.1)))) (λ above. let e : x ≡ n = omega arith in inr (e, low)) (cases_lt x n))
          h.1),
    )

-- once all labels are tried, as many as there are rule nodes
module _ {T : Type 0} (same : T → T → Bool) (ns : List RuleNode) (ls : List T) (t : T) (x : ℕ) where
  front : (k y : ℕ) → y < k → same t (get_or (take k ls) y t) ≡ same t (get_or ls y t)
  front k y l = ap (same t) (get_or-take k ls y t l)

  pub named_all : (k n u : ℕ) → (Has u x ↔ Named same ns (take k ls) t n x) → k ≡ min (length ns) (length ls) → length (take k ls) ≤ n → n ≤ length (take k ls)
      → Has u x ↔ ((x < length ns) × Meets same ns ls t x)
  unfolding Named
  named_all k n u seen few all within =
      let cut : length (take k ls) ≡ k = length-take-le k ls (omega arith) in
      let end : n ≡ k = omega arith in (
        λ h. let s = seen.0 h in (
          s.0,
          ⊎_elim (λ a. inl a) (λ b. let l : x < n = b.0 in inr (get_or ls x t, slice_get-get_or ls x t (omega arith), sym (front k x (omega arith)) ∙ b.1)) s.1,
        ),
        λ h. let m : x < length ns = h.0 in
            seen.1 (
              m,
              ⊎_elim
                  (λ a. inl a)
                  (λ b. let l = slice_get_within ls x b.0 b.1 in
                  let low : x < n = omega arith in
                  inr (low, front k x (omega arith) ∙ ap (same t) (get_or_from_slice_get ls x b.0 t b.1) ∙ b.2))
                  h.1,
            ),
      )

pub ruleset any_nodes = (any_none, any_yes, any_no, few_nodes)

pub ruleset named_nodes = (named_none, named_no, named_yes, named_all, few_nodes, length-take-le)
