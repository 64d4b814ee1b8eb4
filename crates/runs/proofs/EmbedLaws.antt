-- A rule occurs at v just where its part from rule node 0 down fits.
use Rattle.std.proofs.Common.{◌≡◌, ℕ, zero, suc, ◌+◌, ◌-◌, ◌<◌, ◌≤◌, List, length, sym, refl, ◌∙◌, subst, ⊎_elim, arith}
use Rattle.std.proofs.lemmas.Bool.{cases_lt}
use Rattle.rules.specs.declared.node.RuleNode.{RuleNode}
use Rattle.rules.specs.Rule.{parent_of, edge_of, Ordered}
use Rattle.rules.specs.Embedding.{Across, Embedding}
use Rattle.rules.proofs.Selects.{put, put_here, put_else}
use Rattle.runs.specs.Stands.{Fits}

module _ (rule : List RuleNode) (ordered : Ordered rule) (some : 0 < length rule) (C M : ℕ → ℕ → Type 0) (v : ℕ) where
  abbrev up : ℕ → ℕ
  up x = parent_of rule x

  -- from an embedding, from the highest rule node down
  fits_down : (φ : ℕ → ℕ) → Embedding rule C M v φ → (k x : ℕ) → length rule ≤ x + k → x < length rule → Fits rule C M x (φ x)
  fits_down φ e zero x h l = let z : ⊥ = omega arith in absurd z
  fits_down φ e (suc k) x h l =
      Fits.fits φ l (e.tests x l)
      (λ y a b q. let P : ℕ → Type 0 = λ z. Across C (edge_of rule y) (φ z) (φ y) in subst P q (e.edges y a b))
      (λ y a b q. let o : parent_of rule y < y = ordered y a b in fits_down φ e k y (omega arith) b)

  pub embeds_fits : (φ : ℕ → ℕ) → Embedding rule C M v φ → Fits rule C M 0 v
  embeds_fits φ e =
      let P : ℕ → Type 0 = λ z. Fits rule C M 0 z in
      subst P e.root (fits_down φ e (length rule) 0 (omega arith) some)

  -- a mapping of the rule nodes below n
  pub record MappedBelow (n : ℕ) (φ : ℕ → ℕ) : Type 0 where
    pub root : φ 0 ≡ v
    pub parts : (x : ℕ) → x < n → Fits rule C M x (φ x)
    pub edges : (x : ℕ) → 0 < x → x < n → Across C (edge_of rule x) (φ (up x)) (φ x)

  -- what the part from p down gives for a rule node under p
  next : (p u y : ℕ) → Fits rule C M p u → 0 < y → y < length rule → up y ≡ p → (d : ℕ) × Across C (edge_of rule y) u d × Fits rule C M y d
  next p u y (Fits.fits φ l m near sub) a b q = (φ y, near y a b q, sub y a b q)

  extend : (n : ℕ) (φ : ℕ → ℕ) → 0 < n → n < length rule → MappedBelow n φ → (ψ : ℕ → ℕ) × MappedBelow (n + 1) ψ
  extend n φ a b h =
      let o : parent_of rule n < n = ordered n a b in
      let r = next (up n) (φ (up n)) n (h.parts (up n) o) a b refl in
      let c = r.0 in (
        put φ n c,
        record {
          root = put_else φ n c 0 a ∙ h.root;
          parts = λ x l. ⊎_elim
              (λ k. let P : ℕ → Type 0 = λ z. Fits rule C M x z in subst P (sym (put_else φ n c x k)) (h.parts x k))
              (λ k. let e : n ≡ x = omega arith in
              let P : ℕ → Type 0 = λ z. Fits rule C M z (put φ n c z) in
              let Q : ℕ → Type 0 = λ z. Fits rule C M n z in
              subst P e (subst Q (sym (put_here φ n c)) r.2))
              (cases_lt x n);
          edges = λ x p l. ⊎_elim
              (λ k. let q : parent_of rule x < n = let w : parent_of rule x < x = ordered x p (omega arith) in omega arith in
              let P : ℕ → Type 0 = λ z. Across C (edge_of rule x) z (put φ n c x) in
              let Q : ℕ → Type 0 = λ z. Across C (edge_of rule x) (φ (up x)) z in
              subst P (sym (put_else φ n c (up x) q)) (subst Q (sym (put_else φ n c x k)) (h.edges x p k)))
              (λ k. let e : n ≡ x = omega arith in
              let R : ℕ → Type 0 = λ z. Across C (edge_of rule z) (put φ n c (up z)) (put φ n c z) in
              let P : ℕ → Type 0 = λ z. Across C (edge_of rule n) z (put φ n c n) in
              let Q : ℕ → Type 0 = λ z. Across C (edge_of rule n) (φ (up n)) z in
              subst R e (subst P (sym (put_else φ n c (up n) o)) (subst Q (sym (put_here φ n c)) r.1)))
              (cases_lt x n);
        },
      )

  mapped_up : Fits rule C M 0 v → (n : ℕ) → suc n ≤ length rule → (φ : ℕ → ℕ) × MappedBelow (suc n) φ
  mapped_up f zero h = (
    λ x. v,
    record {
      root = refl;
      parts = λ x l. let e : 0 ≡ x = omega arith in let P : ℕ → Type 0 = λ z. Fits rule C M z v in subst P e f;
      edges = λ x a l. let z : ⊥ = omega arith in absurd z;
    },
  )
  mapped_up f (suc n) h =
      let r = mapped_up f n (omega arith) in
      let s = extend (suc n) r.0 (omega arith) (omega arith) r.1 in
      let e : suc n + 1 ≡ suc (suc n) = omega arith in
      let P : ℕ → Type 0 = λ k. MappedBelow k s.0 in
      (s.0, subst P e s.1)

  meets_of : (x u : ℕ) → Fits rule C M x u → M x u
  meets_of x u (Fits.fits φ l m near sub) = m

  pub fits_embeds : Fits rule C M 0 v → (φ : ℕ → ℕ) × Embedding rule C M v φ
  fits_embeds f =
      let r = mapped_up f (length rule - 1) (omega arith) in
      let e : suc (length rule - 1) ≡ length rule = omega arith in
      let P : ℕ → Type 0 = λ k. MappedBelow k r.0 in
      let h = subst P e r.1 in
      (r.0, record { root = h.root; tests = λ x l. meets_of x (r.0 x) (h.parts x l); edges = h.edges })
