-- What it means that a rule occurs at a node.
use Rattle.std.specs.Prelude.{◌≡◌, ℕ, ◌<◌, Bool, true, ◌⊎◌, List, length, Some, Option}
use Rattle.std.specs.List.{slice_get}
use Rattle.rules.specs.Rule.{parent_of, edge_of, any_of}
use Rattle.rules.specs.declared.node.Edge.{Edge}
use Rattle.rules.specs.declared.node.Edge.TheVariants.{Child as child, Descendant as descendant}
use Rattle.rules.specs.declared.node.RuleNode.{RuleNode}

-- a proper descendant: a child, or below a child
pub data Below {A : Type 0} (Child : A → A → Type 0) : A → A → Type 0 where
  direct : {u v : A} → Child u v → Below Child u v
  deeper : {u w v : A} → Child u w → Below Child w v → Below Child u v

-- what an edge of a rule demands of the images of its ends
abbrev pub Across : (ℕ → ℕ → Type 0) → Edge → ℕ → ℕ → Type 0
Across Child child u v = Child u v
Across Child descendant u v = Below Child u v

-- φ maps the rule nodes to nodes: the root to v, each to a node that meets its test, along a child edge to a child and
-- along a descendant edge to a proper descendant. Several rule nodes may share an image.
pub record Embedding (rule : List RuleNode) (Child Meets : ℕ → ℕ → Type 0) (v : ℕ) (φ : ℕ → ℕ) : Type 0 where
  pub root : φ 0 ≡ v
  pub tests : (x : ℕ) → x < length rule → Meets x (φ x)
  pub edges : (x : ℕ) → 0 < x → x < length rule → Across Child (edge_of rule x) (φ (parent_of rule x)) (φ x)

-- the rule occurs at v
abbrev pub Occurs : List RuleNode → (ℕ → ℕ → Type 0) → (ℕ → ℕ → Type 0) → ℕ → Type 0
Occurs rule Child Meets v = (φ : ℕ → ℕ) × Embedding rule Child Meets v φ

-- The nodes of a listing by their numbers: each node's parent, which a root lacks, and its label, or what it carries in its place.
abbrev pub Nodes : Type 0 → Type 0
Nodes L = List (Option ℕ × L)

abbrev pub ChildIn : {L : Type 0} → Nodes L → ℕ → ℕ → Type 0
ChildIn {L} nodes u v = (l : L) × (slice_get nodes v ≡ Some (Some u, l))

-- The label l meets the test of rule node x: the test is any, or l is equal to the entry x of the list of labels. Beyond
-- the list no label does.
abbrev pub Meets : {L : Type 0} → (L → L → Bool) → List RuleNode → List L → L → ℕ → Type 0
Meets {L} same rule labels l x = (any_of rule x ≡ true) ⊎ ((w : L) × (slice_get labels x ≡ Some w) × (same l w ≡ true))

-- v is a node, and its label meets the test of rule node x
abbrev pub MeetsIn : {L : Type 0} → (L → ℕ → Type 0) → Nodes L → ℕ → ℕ → Type 0
MeetsIn {L} meets nodes x v = (p : Option ℕ) × (l : L) × (slice_get nodes v ≡ Some (p, l)) × meets l x

abbrev pub OccursIn : {L : Type 0} → (L → L → Bool) → List RuleNode → List L → Nodes L → ℕ → Type 0
OccursIn same rule labels nodes v = Occurs rule (ChildIn nodes) (MeetsIn (Meets same rule labels) nodes) v

-- a parent is numbered before its children
abbrev pub ParentsFirst : {L : Type 0} → Nodes L → Type 0
ParentsFirst {L} nodes = (v u : ℕ) (l : L) → slice_get nodes v ≡ Some (Some u, l) → u < v
