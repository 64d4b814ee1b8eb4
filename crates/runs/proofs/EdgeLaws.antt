-- One rule node more in the search for unmet edges.
use Rattle.std.proofs.Common.{◌≡◌, ℕ, ◌+◌, ◌<◌, ◌≤◌, ◌⊎◌, ◌↔◌, List, length, sym, ap, ◌∙◌, subst, inl, inr, ⊎_elim, arith}
use Rattle.std.proofs.lemmas.Bool.{cases_lt, cases_eq}
use Rattle.rules.specs.declared.node.RuleNode.{RuleNode}
use Rattle.rules.specs.Rule.{parent_of, edge_of}
use Rattle.rules.proofs.RuleLaws.{few_nodes}
use Rattle.runs.specs.Bits.{bit, Has}
use Rattle.runs.specs.Edges.{asked, EdgesMet}

-- some rule node under x, numbered below n, is not in the set that its edge leads into
pub record Lacks (ns : List RuleNode) (child below n x : ℕ) : Type 0 where
  pub node : ℕ
  pub edge : 0 < node
  pub seen : node < n
  pub under : parent_of ns node ≡ x
  pub lacks : Has (asked (edge_of ns node) child below) node → ⊥

-- u before and v after the rule node n, which is the last one below m
module _ (ns : List RuleNode) (ch be x : ℕ) where
  more : (n m : ℕ) → n ≤ m → Lacks ns ch be n x → Lacks ns ch be m x
  more n m l k = let s = k.seen in record { node = k.node; edge = k.edge; seen = omega arith; under = k.under; lacks = k.lacks }

  -- but for n itself, those below m are below n
  fewer : (n m : ℕ) → m ≡ n + 1 → (k : Lacks ns ch be m x) → (k.node ≡ n → ⊥) → Lacks ns ch be n x
  fewer n m e k other =
      record {
        node = k.node;
        edge = k.edge;
        under = k.under;
        lacks = k.lacks;
        seen = ⊎_elim (λ l. l) (λ l. let s = k.seen in absurd (other (omega arith))) (cases_lt k.node n);
      }

  pub lacks_none : (u : ℕ) → (Has u x → ⊥) → Has u x ↔ Lacks ns ch be 0 x
  lacks_none u h = (λ k. absurd (h k), λ k. let l = k.seen in let z : ⊥ = omega arith in absurd z)

  -- the root has no edge
  pub lacks_root : (n u : ℕ) → (Has u x ↔ Lacks ns ch be n x) → n ≡ 0 → Has u x ↔ Lacks ns ch be (n + 1) x
  lacks_root n u seen z = (
    λ h. more n (n + 1) (omega arith) (seen.0 h),
    λ k. seen.1 (fewer n (n + 1) (omega arith) k (λ same. let p = k.edge in omega arith)),
  )

  pub lacks_met : (n u : ℕ) → (Has u x ↔ Lacks ns ch be n x) → Has (asked (edge_of ns n) ch be) n → Has u x ↔ Lacks ns ch be (n + 1) x
  lacks_met n u seen h = (
    λ k. more n (n + 1) (omega arith) (seen.0 k),
    λ k. seen.1 (fewer n (n + 1) (omega arith) k (λ same.
        let P : ℕ → Type 0 = λ y. Has (asked (edge_of ns y) ch be) y in
        k.lacks (subst P (sym same) h))),
  )

  pub lacks_more : (n u v p : ℕ) → (Has u x ↔ Lacks ns ch be n x) → (Has v x ↔ (Has u x ⊎ ((x ≡ p) × (p < 64))))
      → p ≡ parent_of ns n → parent_of ns n < n → n < length ns → length ns ≤ 64 → 0 < n → (Has (asked (edge_of ns n) ch be) n → ⊥)
      → Has v x ↔ Lacks ns ch be (n + 1) x
  lacks_more n u v p seen w is low within few pos lacks = (
    λ h. ⊎_elim
        (λ g. more n (n + 1) (omega arith) (seen.0 g))
        (λ g. record { node = n; edge = pos; seen = omega arith; under = sym is ∙ sym g.0; lacks = lacks })
        (w.0 h),
    λ k. w.1 (⊎_elim
        (λ same. inr (sym k.under ∙ ap (λ (y : ℕ). parent_of ns y) same ∙ sym is, omega arith))
        (λ other. inl (seen.1 (fewer n (n + 1) (omega arith) k other)))
        (cases_eq k.node n)),
  )

-- once all rule nodes are seen
pub edges_all : (ns : List RuleNode) (ch be n u r x : ℕ) → (Has r x ↔ ((x < length ns) × (x < 64) × (Has u x → ⊥)))
    → (Has u x ↔ Lacks ns ch be n x) → length ns ≤ n → n ≤ length ns → length ns ≤ 64 → Has r x ↔ EdgesMet ns ch be x
edges_all ns ch be n u r x rest inv a b few = (
  λ h. let k = rest.0 h in (
    k.0,
    λ y pos l p. ⊎_elim (λ e. e)
        (λ none. absurd (k.2 (inv.1 (record { node = y; edge = pos; seen = omega arith; under = p; lacks = none }))))
        (cases_eq (bit (asked (edge_of ns y) ch be) y) 1),
  ),
  λ h. rest.1 (
    h.0,
    (let l : x < length ns = h.0 in omega arith),
    λ g. let k = inv.0 g in let s = k.seen in k.lacks (h.1 k.node k.edge (omega arith) k.under),
  ),
)

pub ruleset lacking = (lacks_none, lacks_root, lacks_met, lacks_more, edges_all, few_nodes)
