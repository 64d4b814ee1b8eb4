-- A rule as the list of its rule nodes.
use Rattle.std.specs.Prelude.{◌≡◌, ℕ, ◌<◌, Bool, true, false, List, length, slice_index_or}
use Rattle.rules.specs.declared.node.Edge.{Edge}
use Rattle.rules.specs.declared.node.Edge.TheVariants.{Child, Descendant}
use Rattle.rules.specs.declared.node.RuleNode.{RuleNode}

-- what is read past the end of the list
abbrev pub blank : RuleNode
blank = record { parent = 0; edge = Child; any = false }

-- a root that every label meets
abbrev pub any_node : RuleNode
any_node = record { parent = 0; edge = Child; any = true }

abbrev pub parent_of : List RuleNode → ℕ → ℕ
parent_of rule x = (slice_index_or rule x blank).parent

abbrev pub edge_of : List RuleNode → ℕ → Edge
edge_of rule x = (slice_index_or rule x blank).edge

abbrev pub any_of : List RuleNode → ℕ → Bool
any_of rule x = (slice_index_or rule x blank).any

-- as a test, since an invariant has to be a fact that has one proof
abbrev pub is_child : Edge → Bool
is_child Child = true
is_child Descendant = false

-- node 0 has the parent 0 and a child edge
abbrev pub Rooted : List RuleNode → Type 0
Rooted rule = (parent_of rule 0 ≡ 0) × (is_child (edge_of rule 0) ≡ true)

-- each parent is numbered below its child
abbrev pub Ordered : List RuleNode → Type 0
Ordered rule = (x : ℕ) → 0 < x → x < length rule → parent_of rule x < x
