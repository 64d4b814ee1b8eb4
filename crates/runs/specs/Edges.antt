-- Which rule nodes have all their edges met.
use Rattle.std.specs.Prelude.{◌≡◌, ℕ, ◌<◌, List, length}
use Rattle.rules.specs.declared.node.Edge.{Edge}
use Rattle.rules.specs.declared.node.Edge.TheVariants.{Child, Descendant}
use Rattle.rules.specs.declared.node.RuleNode.{RuleNode}
use Rattle.rules.specs.Rule.{parent_of, edge_of}
use Rattle.runs.specs.Bits.{Has}

-- the set that an edge of this kind leads into
abbrev pub asked : Edge → ℕ → ℕ → ℕ
asked Child child below = child
asked Descendant child below = below

-- x is a rule node, and each rule node under it is in the set that its edge leads into
abbrev pub EdgesMet : List RuleNode → ℕ → ℕ → ℕ → Type 0
EdgesMet rule child below x =
    (x < length rule) × ((y : ℕ) → 0 < y → y < length rule → parent_of rule y ≡ x → Has (asked (edge_of rule y) child below) y)
