-- Labelled trees, the events that tell them, their nodes, and the order in which these end.
use Rattle.std.specs.Prelude.{ℕ, suc, ◌+◌, List, [], ◌∷◌, ◌++◌, Some, Option}
use Rattle.sources.specs.declared.event.Event.{Event}
use Rattle.sources.specs.declared.event.Event.TheVariants.{Open, Close}

-- Trees in order: the first one's label, the trees in it, and those behind it
pub data Forest (L : Type 0) : Type 0 where
  none : Forest L
  tree : L → Forest L → Forest L → Forest L

-- A node opens, then come the events of the trees in it, and it closes.
abbrev pub events_of : {L : Type 0} → Forest L → List (Event L)
events_of none = []
events_of (tree l inside behind) = Open l ∷ events_of inside ++ (Close ∷ events_of behind)

-- how many nodes the trees have
abbrev pub size : {L : Type 0} → Forest L → ℕ
size none = 0
size (tree l inside behind) = suc (size inside + size behind)

-- The nodes of trees that stand in `above`, by their parents and labels: a node, which has the number n, then the nodes in it, and
-- then those behind it
abbrev pub nodes_of : {L : Type 0} → Option ℕ → ℕ → Forest L → List (Option ℕ × L)
nodes_of above n none = []
nodes_of above n (tree l inside behind) = (above, l) ∷ nodes_of (Some n) (suc n) inside ++ nodes_of above (suc n + size inside) behind

-- The nodes of trees by their numbers, in the order in which they end: the nodes in a node, which has the number n, then the node, and then
-- those behind it
abbrev pub post_order : {L : Type 0} → ℕ → Forest L → List ℕ
post_order n none = []
post_order n (tree l inside behind) = post_order (suc n) inside ++ (n ∷ post_order (suc n + size inside) behind)
