-- The nodes of a listing, one event after another, and where each closes.
use Rattle.std.proofs.Common.{◌≡◌, ℕ, suc, ◌+◌, List, [], ◌∷◌, ◌++◌, length, Option, refl, ap, ◌∙◌, arith}
use Rattle.sources.specs.declared.event.Event.{Event}
use Rattle.sources.specs.declared.event.Event.TheVariants.{Open, Close}
use Rattle.sources.specs.Nodes.{innermost, outer, nodes_from, closing_order_from, path_from, nodes, closing_order, open_after}

module _ {L : Type 0} where
  -- one opening more: the nodes are counted on
  nodes_open : (n : ℕ) (p : List ℕ) (es : List (Event L)) (l : L)
      → nodes_from n p (es ++ Open l ∷ []) ≡ nodes_from n p es ++ (innermost (path_from n p es), l) ∷ []
  nodes_open n p [] l = refl
  nodes_open n p (Open k ∷ es) l = ap (λ (ns : List (Option ℕ × L)). (innermost p, k) ∷ ns) (nodes_open (suc n) (n ∷ p) es l)
  nodes_open n p (Close ∷ es) l = nodes_open n (outer p) es l

  path_open : (n : ℕ) (p : List ℕ) (es : List (Event L)) (l : L)
      → path_from n p (es ++ Open l ∷ []) ≡ (n + length (nodes_from n p es)) ∷ path_from n p es
  path_open n p [] l = ap (λ (k : ℕ). k ∷ p) (omega arith)
  path_open n p (Open k ∷ es) l =
      path_open (suc n) (n ∷ p) es l ∙ ap (λ (m : ℕ). m ∷ path_from (suc n) (n ∷ p) es) (omega arith)
  path_open n p (Close ∷ es) l = path_open n (outer p) es l

  order_open : (n : ℕ) (p : List ℕ) (es : List (Event L)) (l : L) → closing_order_from n p (es ++ Open l ∷ []) ≡ closing_order_from n p es
  order_open n p [] l = refl
  order_open n p (Open k ∷ es) l = order_open (suc n) (n ∷ p) es l
  order_open n [] (Close ∷ es) l = order_open n [] es l
  order_open n (v ∷ p) (Close ∷ es) l = ap (λ (vs : List ℕ). v ∷ vs) (order_open n p es l)

  -- one closing more
  nodes_close : (n : ℕ) (p : List ℕ) (es : List (Event L)) → nodes_from n p (es ++ Close ∷ []) ≡ nodes_from n p es
  nodes_close n p [] = refl
  nodes_close n p (Open k ∷ es) = ap (λ (ns : List (Option ℕ × L)). (innermost p, k) ∷ ns) (nodes_close (suc n) (n ∷ p) es)
  nodes_close n p (Close ∷ es) = nodes_close n (outer p) es

  path_close : (n : ℕ) (p : List ℕ) (es : List (Event L)) (v : ℕ) (vs : List ℕ) → path_from n p es ≡ v ∷ vs → path_from n p (es ++ Close ∷ []) ≡ vs
  path_close n p [] v vs e = ap outer e
  path_close n p (Open k ∷ es) v vs e = path_close (suc n) (n ∷ p) es v vs e
  path_close n p (Close ∷ es) v vs e = path_close n (outer p) es v vs e

  order_close : (n : ℕ) (p : List ℕ) (es : List (Event L)) (v : ℕ) (vs : List ℕ) → path_from n p es ≡ v ∷ vs
      → closing_order_from n p (es ++ Close ∷ []) ≡ closing_order_from n p es ++ v ∷ []
  order_close n [] [] v vs e = let z : ◌≡◌ {A = ℕ} 0 1 = cc in absurd (omega arith)
  order_close n (u ∷ p) [] v vs e = let z : u ≡ v = cc in ap (λ (k : ℕ). k ∷ []) z
  order_close n p (Open k ∷ es) v vs e = order_close (suc n) (n ∷ p) es v vs e
  order_close n [] (Close ∷ es) v vs e = order_close n [] es v vs e
  order_close n (u ∷ p) (Close ∷ es) v vs e = ap (λ (ws : List ℕ). u ∷ ws) (order_close n p es v vs e)

  -- more events after some
  nodes_append : (n : ℕ) (p : List ℕ) (es fs : List (Event L))
      → nodes_from n p (es ++ fs) ≡ nodes_from n p es ++ nodes_from (n + length (nodes_from n p es)) (path_from n p es) fs
  nodes_append n p [] fs = ap (λ (k : ℕ). nodes_from k p fs) (omega arith)
  nodes_append n p (Open k ∷ es) fs =
      ap (λ (ns : List (Option ℕ × L)). (innermost p, k) ∷ ns)
      (nodes_append (suc n) (n ∷ p) es fs
      ∙ ap (λ (m : ℕ). nodes_from (suc n) (n ∷ p) es ++ nodes_from m (path_from (suc n) (n ∷ p) es) fs) (omega arith))
  nodes_append n p (Close ∷ es) fs = nodes_append n (outer p) es fs

  pub nodes_after : (es fs : List (Event L)) → nodes (es ++ fs) ≡ nodes es ++ nodes_from (length (nodes es)) (open_after es) fs
  nodes_after es fs =
      nodes_append 0 [] es fs ∙ ap (λ (m : ℕ). nodes es ++ nodes_from m (open_after es) fs) (omega arith)

  -- of a new listing
  pub record Opened (es : List (Event L)) (l : L) : Type 0 where
    pub nodes_are : nodes (es ++ Open l ∷ []) ≡ nodes es ++ (innermost (open_after es), l) ∷ []
    pub open_are : open_after (es ++ Open l ∷ []) ≡ length (nodes es) ∷ open_after es
    pub order_is : closing_order (es ++ Open l ∷ []) ≡ closing_order es

  pub opened : (es : List (Event L)) (l : L) → Opened es l
  opened es l = record {
    nodes_are = nodes_open 0 [] es l;
    open_are = path_open 0 [] es l ∙ ap (λ (k : ℕ). k ∷ open_after es) (omega arith);
    order_is = order_open 0 [] es l;
  }

  pub record Closed (es : List (Event L)) (v : ℕ) (vs : List ℕ) : Type 0 where
    pub nodes_are : nodes (es ++ Close ∷ []) ≡ nodes es
    pub open_are : open_after (es ++ Close ∷ []) ≡ vs
    pub order_is : closing_order (es ++ Close ∷ []) ≡ closing_order es ++ v ∷ []

  pub closed : (es : List (Event L)) (v : ℕ) (vs : List ℕ) → open_after es ≡ v ∷ vs → Closed es v vs
  closed es v vs e = record {
    nodes_are = nodes_close 0 [] es;
    open_are = path_close 0 [] es v vs e;
    order_is = order_close 0 [] es v vs e;
  }
