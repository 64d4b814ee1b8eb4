-- The nodes of a listing, by its events.
use Rattle.std.specs.Prelude.{ℕ, suc, List, [], ◌∷◌, Some, None, Option}
use Rattle.sources.specs.declared.event.Event.{Event}
use Rattle.sources.specs.declared.event.Event.TheVariants.{Open, Close}

-- Nodes are numbered from 0 in order of opening. An open path holds the numbers of the nodes still open, the last opened first.
abbrev pub innermost : List ℕ → Option ℕ
innermost [] = None
innermost (v ∷ vs) = Some v

-- the path without the node that a closing ends; with an empty path it ends a node that was opened before
abbrev pub outer : List ℕ → List ℕ
outer [] = []
outer (v ∷ vs) = vs

-- the parents and the labels of the nodes from number n on, where the nodes of the path are still open
abbrev pub nodes_from : {L : Type 0} → ℕ → List ℕ → List (Event L) → List (Option ℕ × L)
nodes_from n path [] = []
nodes_from n path (Open l ∷ es) = (innermost path, l) ∷ nodes_from (suc n) (n ∷ path) es
nodes_from n path (Close ∷ es) = nodes_from n (outer path) es

-- the nodes in the order in which they are closed
abbrev pub closing_order_from : {L : Type 0} → ℕ → List ℕ → List (Event L) → List ℕ
closing_order_from n path [] = []
closing_order_from n path (Open l ∷ es) = closing_order_from (suc n) (n ∷ path) es
closing_order_from n [] (Close ∷ es) = closing_order_from n [] es
closing_order_from n (v ∷ vs) (Close ∷ es) = v ∷ closing_order_from n vs es

-- the nodes that are open after the events, the last opened first
abbrev pub path_from : {L : Type 0} → ℕ → List ℕ → List (Event L) → List ℕ
path_from n path [] = path
path_from n path (Open l ∷ es) = path_from (suc n) (n ∷ path) es
path_from n path (Close ∷ es) = path_from n (outer path) es

-- all nodes of a source
abbrev pub nodes : {L : Type 0} → List (Event L) → List (Option ℕ × L)
nodes es = nodes_from 0 [] es

abbrev pub closing_order : {L : Type 0} → List (Event L) → List ℕ
closing_order es = closing_order_from 0 [] es

abbrev pub open_after : {L : Type 0} → List (Event L) → List ℕ
open_after es = path_from 0 [] es
