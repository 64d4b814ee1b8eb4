-- Which nodes the events of a source close, and that a parent opens before its children.
use Rattle.std.proofs.Common.{◌≡◌, ℕ, zero, suc, ◌+◌, ◌<◌, ◌≤◌, ◌⊎◌, ◌↔◌, List, [], ◌∷◌, length, Some, Option, refl, ap, inl, inr, ⊎_elim, arith}
use Rattle.std.specs.List.{slice_get}
use Rattle.std.proofs.lemmas.Bool.{cases_lt}
use Rattle.std.proofs.lemmas.Option.{none-some}
use Rattle.rules.specs.Embedding.{ParentsFirst}
use Rattle.runs.specs.Picks.{In, Once}
use Rattle.sources.specs.declared.event.Event.{Event}
use Rattle.sources.specs.declared.event.Event.TheVariants.{Open, Close}
use Rattle.sources.specs.Events.{ClosedFrom}
use Rattle.sources.specs.Nodes.{innermost, outer, nodes_from, closing_order_from, nodes, closing_order}
use Rattle.selection.specs.Selection.{Accepts}

first_in : (p : List ℕ) (u : ℕ) → innermost p ≡ Some u → In u p
first_in [] u e = none-some u e
first_in (v ∷ p) u e = inl (let z : u ≡ v = cc in z)

outer_in : (p : List ℕ) (u : ℕ) → In u (outer p) → In u p
outer_in [] u i = i
outer_in (v ∷ p) u i = inr i

module _ {L : Type 0} where
  -- one of those still open, or of those to come
  abbrev Comes : ℕ → List ℕ → List (Event L) → ℕ → Type 0
  Comes n p es v = In v p ⊎ ((n ≤ v) × (v < n + length (nodes_from n p es)))

  -- what is closed was open, or comes
  closed_comes : (n : ℕ) (p : List ℕ) (es : List (Event L)) → Accepts n p es → (v : ℕ)
      → In v (closing_order_from n p es) → Comes n p es v
  closed_comes n p [] b v i = absurd i
  closed_comes n p (Open l ∷ es) b v i =
      ⊎_elim
      (λ (k : In v (n ∷ p)). ⊎_elim (λ (e : v ≡ n). inr (omega arith, omega arith)) (λ (j : In v p). inl j) k)
      (λ (k : (suc n ≤ v) × (v < suc n + length (nodes_from (suc n) (n ∷ p) es))). inr (omega arith, omega arith))
      (closed_comes (suc n) (n ∷ p) es b.2 v i)
  closed_comes n [] (Close ∷ es) b v i = absurd b
  closed_comes n (u ∷ p) (Close ∷ es) b v (inl e) = inl (inl e)
  closed_comes n (u ∷ p) (Close ∷ es) b v (inr i) = ⊎_elim (λ (k : In v p). inl (inr k)) (λ k. inr k) (closed_comes n p es b v i)

  -- the first that comes is open after its opening
  later : (n : ℕ) (p : List ℕ) (es : List (Event L)) (v : ℕ)
      → ((n ≤ v) × (v < n + suc (length (nodes_from (suc n) (n ∷ p) es)))) → Comes (suc n) (n ∷ p) es v
  later n p es v k =
      ⊎_elim (λ (y : n < v). inr (omega arith, omega arith)) (λ (y : v ≤ n). let e : v ≡ n = omega arith in inl (inl e)) (cases_lt n v)

  comes_closed : (n : ℕ) (p : List ℕ) (es : List (Event L)) → ClosedFrom (length p) es → Accepts n p es → (v : ℕ)
      → Comes n p es v → In v (closing_order_from n p es)
  comes_closed n [] [] c b v (inl i) = absurd i
  comes_closed n [] [] c b v (inr k) = absurd (omega arith)
  comes_closed n (u ∷ p) [] c b v k = absurd c
  comes_closed n [] (Open l ∷ es) c b v (inl i) = absurd i
  comes_closed n (u ∷ p) (Open l ∷ es) c b v (inl i) = comes_closed (suc n) (n ∷ u ∷ p) es c b.2 v (inl (inr i))
  comes_closed n [] (Open l ∷ es) c b v (inr k) = comes_closed (suc n) (n ∷ []) es c b.2 v (later n [] es v k)
  comes_closed n (u ∷ p) (Open l ∷ es) c b v (inr k) = comes_closed (suc n) (n ∷ u ∷ p) es c b.2 v (later n (u ∷ p) es v k)
  comes_closed n [] (Close ∷ es) c b v k = absurd b
  comes_closed n (u ∷ p) (Close ∷ es) c b v (inl (inl e)) = inl e
  comes_closed n (u ∷ p) (Close ∷ es) c b v (inl (inr i)) = inr (comes_closed n p es c b v (inl i))
  comes_closed n (u ∷ p) (Close ∷ es) c b v (inr k) = inr (comes_closed n p es c b v (inr k))

  once_from : (n : ℕ) (p : List ℕ) (es : List (Event L)) → Accepts n p es → Once p → ((v : ℕ) → In v p → v < n)
      → Once (closing_order_from n p es)
  once_from n p [] b o h = tt
  once_from n p (Open l ∷ es) b o h =
      once_from (suc n) (n ∷ p) es b.2 ((λ i. let z : n < n = h n i in omega arith), o)
      (λ v i. ⊎_elim (λ (e : v ≡ n). omega arith) (λ (j : In v p). let z : v < n = h v j in omega arith) i)
  once_from n [] (Close ∷ es) b o h = absurd b
  once_from n (u ∷ p) (Close ∷ es) b o h = (
    λ i. ⊎_elim (λ (k : In u p). o.0 k)
        (λ (k : (n ≤ u) × (u < n + length (nodes_from n p es))). let z : u < n = h u (inl refl) in omega arith)
        (closed_comes n p es b u i),
    once_from n p es b o.1 (λ v i. h v (inr i)),
  )

  -- what is closed is a node
  pub closed_is_node : (es : List (Event L)) → Accepts 0 [] es → (v : ℕ) → In v (closing_order es) → v < length (nodes es)
  closed_is_node es b v i =
      ⊎_elim (λ k. absurd k) (λ (k : (0 ≤ v) × (v < 0 + length (nodes es))). omega arith) (closed_comes 0 [] es b v i)

  -- where all openings are closed, exactly the nodes are
  pub all_closed : (es : List (Event L)) → ClosedFrom 0 es → Accepts 0 [] es → (v : ℕ) → In v (closing_order es) ↔ (v < length (nodes es))
  all_closed es c b v = (closed_is_node es b v, λ (h : v < length (nodes es)). comes_closed 0 [] es c b v (inr (omega arith, omega arith)))

  -- no node is closed twice
  pub once_closed : (es : List (Event L)) → Accepts 0 [] es → Once (closing_order es)
  once_closed es b = once_from 0 [] es b tt (λ v i. absurd i)

  -- a parent is open before, or opens before its child
  pub before_child : (n : ℕ) (p : List ℕ) (es : List (Event L)) (i u : ℕ) (l : L) → slice_get (nodes_from n p es) i ≡ Some (Some u, l)
      → In u p ⊎ ((n ≤ u) × (u < n + i))
  before_child n p [] i u l e = absurd (none-some (Some u, l) e)
  before_child n p (Open k ∷ es) zero u l e =
      inl (first_in p u (ap (λ (z : Option ℕ × L). z.0) (let q : ◌≡◌ {A = Option ℕ × L} (innermost p, k) (Some u, l) = cc in q)))
  before_child n p (Open k ∷ es) (suc i) u l e =
      ⊎_elim
      (λ (j : In u (n ∷ p)). ⊎_elim (λ (q : u ≡ n). inr (omega arith, omega arith)) (λ (h : In u p). inl h) j)
      (λ (j : (suc n ≤ u) × (u < suc n + i)). inr (omega arith, omega arith))
      (before_child (suc n) (n ∷ p) es i u l e)
  before_child n p (Close ∷ es) i u l e =
      ⊎_elim (λ (j : In u (outer p)). inl (outer_in p u j)) (λ j. inr j) (before_child n (outer p) es i u l e)

  pub parents_first : (es : List (Event L)) → ParentsFirst (nodes es)
  parents_first es v u l e =
      ⊎_elim (λ j. absurd j) (λ (j : (0 ≤ u) × (u < 0 + v)). omega arith) (before_child 0 [] es v u l e)
