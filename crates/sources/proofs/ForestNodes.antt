-- The nodes by the events of trees are the trees' nodes, and they close in the order in which those end.
use Rattle.std.proofs.Common.{◌≡◌, ℕ, suc, ◌+◌, List, [], ◌∷◌, ◌++◌, Some, None, sym, ap, ◌∙◌, arith}
use Rattle.std.proofs.lemmas.List.{append_assoc, append-nil}
use Rattle.sources.specs.declared.event.Event.{Event}
use Rattle.sources.specs.declared.event.Event.TheVariants.{Close}
use Rattle.sources.specs.Forest.{Forest, events_of, size, nodes_of, post_order}
use Rattle.sources.specs.Forest.Forest.{none, tree}
use Rattle.sources.specs.Nodes.{innermost, nodes_from, closing_order_from, nodes, closing_order}

module _ {L : Type 0} where
  -- the trees come first, and the path is then as before
  trees_first : (trees : Forest L) (n : ℕ) (path : List ℕ) (es : List (Event L)) →
      nodes_from n path (events_of trees ++ es) ≡ nodes_of (innermost path) n trees ++ nodes_from (n + size trees) path es
  trees_first none n path es = let e : n ≡ n + 0 = omega arith in ap (λ k. nodes_from k path es) e
  trees_first (tree l inside behind) n path es =
      let m = suc n + size inside in
      let others = nodes_of (innermost path) m behind in
      let apart = append_assoc (events_of inside) (Close ∷ events_of behind) es in
      let within = trees_first inside (suc n) (n ∷ path) (Close ∷ (events_of behind ++ es)) in
      let after = trees_first behind m path es in
      let count : m + size behind ≡ n + suc (size inside + size behind) = omega arith in
      let others_first = after ∙ ap (λ k. others ++ nodes_from k path es) count in
      let regroup = append_assoc (nodes_of (Some n) (suc n) inside) others (nodes_from (n + suc (size inside + size behind)) path es) in
      ap (λ x. (innermost path, l) ∷ x)
      (ap (λ x. nodes_from (suc n) (n ∷ path) x) apart ∙ within ∙ ap (λ x. nodes_of (Some n) (suc n) inside ++ x) others_first ∙ sym regroup)

  pub forest_nodes : (trees : Forest L) → nodes (events_of trees) ≡ nodes_of None 0 trees
  forest_nodes trees = ap nodes (sym (append-nil (events_of trees))) ∙ trees_first trees 0 [] [] ∙ append-nil (nodes_of None 0 trees)

  -- the nodes of the trees close first, and the path is then as before
  order_first : (trees : Forest L) (n : ℕ) (path : List ℕ) (es : List (Event L)) →
      closing_order_from n path (events_of trees ++ es) ≡ post_order n trees ++ closing_order_from (n + size trees) path es
  order_first none n path es = let e : n ≡ n + 0 = omega arith in ap (λ k. closing_order_from k path es) e
  order_first (tree l inside behind) n path es =
      let m = suc n + size inside in
      let others = post_order m behind in
      let apart = append_assoc (events_of inside) (Close ∷ events_of behind) es in
      let within = order_first inside (suc n) (n ∷ path) (Close ∷ (events_of behind ++ es)) in
      let after = order_first behind m path es in
      let count : m + size behind ≡ n + suc (size inside + size behind) = omega arith in
      let others_first = after ∙ ap (λ k. others ++ closing_order_from k path es) count in
      let regroup = append_assoc (post_order (suc n) inside) (n ∷ others) (closing_order_from (n + suc (size inside + size behind)) path es) in
      ap (λ x. closing_order_from (suc n) (n ∷ path) x) apart ∙ within ∙ ap (λ x. post_order (suc n) inside ++ (n ∷ x)) others_first ∙ sym regroup

  pub forest_order : (trees : Forest L) → closing_order (events_of trees) ≡ post_order 0 trees
  forest_order trees = ap closing_order (sym (append-nil (events_of trees))) ∙ order_first trees 0 [] [] ∙ append-nil (post_order 0 trees)
