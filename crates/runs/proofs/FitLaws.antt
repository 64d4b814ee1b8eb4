-- Where parts of a rule fit.
use Rattle.std.proofs.Common.{◌≡◌, ℕ, ◌<◌, ◌⊎◌, ◌↔◌, List, length, inl, inr, ⊎_elim, arith}
use Rattle.std.proofs.lemmas.Bool.{cases_lt, cases_eq}
use Rattle.rules.specs.declared.node.Edge.{Edge}
use Rattle.rules.specs.declared.node.Edge.TheVariants as edge
use Rattle.rules.specs.declared.node.RuleNode.{RuleNode}
use Rattle.rules.specs.Rule.{parent_of, edge_of}
use Rattle.rules.specs.Embedding.{Below, direct, deeper, Across}
use Rattle.runs.specs.declared.levels.Level.{Level}
use Rattle.runs.specs.Bits.{Has}
use Rattle.runs.specs.Edges.{asked}
use Rattle.runs.specs.LevelCalls.{Found}
use Rattle.runs.specs.Stands.{Fits}

-- a choice for each y for which H holds, where H can be decided
module _ (H : ℕ → Type 0) (P : ℕ → ℕ → Type 0) (f : (y : ℕ) → H y → (d : ℕ) × P y d) where
  pick : (y : ℕ) → H y ⊎ (H y → ⊥) → ℕ
  pick y (inl h) = (f y h).0
  pick y (inr h) = 0

  picked : (y : ℕ) (s : H y ⊎ (H y → ⊥)) → H y → P y (pick y s)
  unfolding pick
  picked y (inl h) k = (f y h).1
  picked y (inr h) k = absurd (h k)

-- below nodes with Q, where Q's nodes have the same children
module _ (C C' : ℕ → ℕ → Type 0) (Q : ℕ → Type 0) (down : (u v : ℕ) → Q u → C u v → Q v × C' u v) where
  pub below_moves : {u v : ℕ} → Q u → Below C u v → Q v × Below C' u v
  below_moves {u} {v} q (direct k) = let d = down u v q k in (d.0, direct d.1)
  below_moves {u} q (deeper {w = w} k b) =
      let d = down u w q k in
      let r = below_moves d.0 b in
      (r.0, deeper d.1 r.1)

  pub across_moves : (e : Edge) (u v : ℕ) → Q u → Across C e u v → Q v × Across C' e u v
  across_moves edge.Child u v q a = down u v q a
  across_moves edge.Descendant u v q a = below_moves q a

-- what fits at such nodes fits there too where they meet the same tests
module _ (rule : List RuleNode) (C C' M M' : ℕ → ℕ → Type 0) (Q : ℕ → Type 0)
    (down : (u v : ℕ) → Q u → C u v → Q v × C' u v) (tests : (x v : ℕ) → Q v → M x v → M' x v) where
  pub fits_moves : {x v : ℕ} → Q v → Fits rule C M x v → Fits rule C' M' x v
  fits_moves {x} {v} q (Fits.fits φ l m near sub) =
      Fits.fits φ l (tests x v q m)
      (λ y a b e. (across_moves C C' Q down (edge_of rule y) v (φ y) q (near y a b e)).1)
      (λ y a b e. fits_moves (across_moves C C' Q down (edge_of rule y) v (φ y) q (near y a b e)).0 (sub y a b e))

-- the word that closing a node makes has the rule nodes that fit at it
module _ (rule : List RuleNode) (C M : ℕ → ℕ → Type 0) (v : ℕ) (l : Level) (w : ℕ) (found : Found rule l w)
    (met : (x : ℕ) → Has l.met x ↔ M x v)
    (child : (y : ℕ) → Has l.child y ↔ ((d : ℕ) × C v d × Fits rule C M y d))
    (below : (y : ℕ) → Has l.below y ↔ ((d : ℕ) × Below C v d × Fits rule C M y d)) where
  abbrev Hangs : ℕ → ℕ → Type 0
  Hangs x y = (0 < y) × (y < length rule) × (parent_of rule y ≡ x)

  hangs? : (x y : ℕ) → Hangs x y ⊎ (Hangs x y → ⊥)
  hangs? x y =
      ⊎_elim
      (λ a. ⊎_elim
      (λ b. ⊎_elim (λ e. inl (a, b, e)) (λ n. inr (λ h. n h.2)) (cases_eq (parent_of rule y) x))
      (λ b. inr (λ h. let z : ⊥ = omega (arith, h.1) in z))
      (cases_lt y (length rule)))
      (λ a. inr (λ h. let z : ⊥ = omega (arith, h.0) in z))
      (cases_lt 0 y)

  where_to : (e : Edge) (y : ℕ) → Has (asked e l.child l.below) y → (d : ℕ) × (Across C e v d × Fits rule C M y d)
  where_to edge.Child y h = let r = (child y).0 h in (r.0, (r.1, r.2))
  where_to edge.Descendant y h = let r = (below y).0 h in (r.0, (r.1, r.2))

  back : (e : Edge) (y d : ℕ) → Across C e v d → Fits rule C M y d → Has (asked e l.child l.below) y
  back edge.Child y d a f = (child y).1 (d, a, f)
  back edge.Descendant y d a f = (below y).1 (d, a, f)

  pub found_fits : (x : ℕ) → Has w x → Fits rule C M x v
  found_fits x h =
      let k = (found x).0 h in
      let P : ℕ → ℕ → Type 0 = λ y d. Across C (edge_of rule y) v d × Fits rule C M y d in
      let f : (y : ℕ) → Hangs x y → (d : ℕ) × P y d = λ y g. where_to (edge_of rule y) y (k.1.1 y g.0 g.1 g.2) in
      Fits.fits (λ y. pick (Hangs x) P f y (hangs? x y)) k.1.0 ((met x).0 k.0)
      (λ y a b e. (picked (Hangs x) P f y (hangs? x y) (a, b, e)).0)
      (λ y a b e. (picked (Hangs x) P f y (hangs? x y) (a, b, e)).1)

  pub fits_found : (x : ℕ) → Fits rule C M x v → Has w x
  fits_found x (Fits.fits φ lt m near sub) =
      (found x).1 ((met x).1 m, (lt, λ y a b e. back (edge_of rule y) y (φ y) (near y a b e) (sub y a b e)))
