-- Which state of the reference model a run stands for.
use Rattle.std.specs.Prelude.{◌≡◌, ℕ, ◌<◌, ◌⊎◌, ◌↔◌, List, [], ◌∷◌, length, Some, Option}
use Rattle.std.specs.List.{slice_get}
use Rattle.rules.specs.declared.node.RuleNode.{RuleNode}
use Rattle.rules.specs.Rule.{parent_of, edge_of}
use Rattle.rules.specs.Embedding.{Below, Across, ParentsFirst}
use Rattle.runs.specs.declared.levels.Level.{Level}
use Rattle.runs.specs.declared.levels.Levels.{Levels}
use Rattle.runs.specs.Bits.{Has}
use Rattle.runs.specs.Words.{Words, words}
use Rattle.runs.specs.Picks.{In}
use Rattle.runs.specs.Model.{Model, innermost, KeptChild, MeetsAt}

-- The part of a rule from rule node x down fits at v: v meets the test of x, and each rule node under x fits at a node that
-- its edge leads to. φ says where.
pub data Fits (rule : List RuleNode) (Child Meets : ℕ → ℕ → Type 0) : ℕ → ℕ → Type 0 where
  fits : {x v : ℕ} (φ : ℕ → ℕ) → x < length rule → Meets x v
      → ((y : ℕ) → 0 < y → y < length rule → parent_of rule y ≡ x → Across Child (edge_of rule y) v (φ y))
      → ((y : ℕ) → 0 < y → y < length rule → parent_of rule y ≡ x → Fits rule Child Meets y (φ y))
      → Fits rule Child Meets x v

-- At a run's own calls each node carries the set of the rule nodes whose tests its label meets.
abbrev pub SetModel : Type 0
SetModel = Model ℕ

abbrev pub FitsAt : List RuleNode → SetModel → ℕ → ℕ → Type 0
FitsAt rule m x v = Fits rule (KeptChild m) (MeetsAt Has m) x v

-- d is a child of u that was not dropped and is no longer open
abbrev pub ClosedChild : SetModel → ℕ → ℕ → Type 0
ClosedChild m u d = KeptChild m u d × (In d m.path → ⊥)

-- y fits at d or below it
abbrev pub FitsWithin : List RuleNode → SetModel → ℕ → ℕ → Type 0
FitsWithin rule m y d = FitsAt rule m y d ⊎ ((c : ℕ) × Below (KeptChild m) d c × FitsAt rule m y c)

-- A level stands for the open node v: its words hold the rule nodes whose tests v meets, those that fit at a closed child of
-- v, and those that fit at or below a closed child of v.
pub record LevelStands (rule : List RuleNode) (m : SetModel) (v : ℕ) (l : Level) : Type 0 where
  pub number : l.number ≡ v
  pub met : (p : Option ℕ) × (slice_get m.nodes v ≡ Some (p, l.met))
  pub child : (y : ℕ) → Has l.child y ↔ ((d : ℕ) × ClosedChild m v d × FitsAt rule m y d)
  pub below : (y : ℕ) → Has l.below y ↔ ((d : ℕ) × ClosedChild m v d × FitsWithin rule m y d)

-- each open node has its level
abbrev pub LevelsStand : List RuleNode → SetModel → List ℕ → List Level → Type 0
LevelsStand rule m [] [] = Unit {0}
LevelsStand rule m [] (l ∷ ls) = ⊥
LevelsStand rule m (v ∷ vs) [] = ⊥
LevelsStand rule m (v ∷ vs) (l ∷ ls) = LevelStands rule m v l × LevelsStand rule m vs ls

-- each open node is a child of the next, the outermost is a root, and none was dropped
abbrev pub Chain : {A : Type 0} → Model A → List ℕ → Type 0
Chain m [] = Unit {0}
Chain {A} m (v ∷ vs) = ((a : A) × (slice_get m.nodes v ≡ Some (innermost vs, a))) × (In v m.dropped → ⊥) × Chain m vs

-- The state s, as lists, stands for the model m. Each parent is numbered below its child, and what was dropped is a node. The
-- state keeps neither the closed nodes nor the numbers handed out, so that m may have any.
pub record Shows (rule : List RuleNode) (s : Words) (m : SetModel) : Type 0 where
  pub opened : s.opened ≡ length m.nodes
  pub waiting : s.waiting ≡ m.waiting
  pub levels : LevelsStand rule m m.path s.stack
  pub chain : Chain m m.path
  pub parents : ParentsFirst m.nodes
  pub inside : (d : ℕ) → In d m.dropped → d < length m.nodes

abbrev pub Stands : List RuleNode → Levels → SetModel → Type 0
Stands rule s m = Shows rule (words s) m
