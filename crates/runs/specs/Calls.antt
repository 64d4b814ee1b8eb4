-- What the calls of a run do, by the states of the reference model that it stands for.
use Rattle.std.specs.Prelude.{◌≡◌, ℕ, ◌≤◌, Bool, List, ◌++◌, length, take, drop}
use Rattle.rules.specs.declared.node.RuleNode.{RuleNode}
use Rattle.rules.specs.RuleNodes.{rule_nodes}
use Rattle.rules.specs.Embedding.{Meets}
use Rattle.runs.specs.declared.call.Call.{Call}
use Rattle.runs.specs.declared.call.Call.TheVariants.{Open, Take}
use Rattle.runs.specs.declared.levels.Levels.{Levels}
use Rattle.runs.specs.declared.run.Run.{Run}
use Rattle.runs.specs.Bits.{Has, SetOf}
use Rattle.runs.specs.Answers.{Told, taken}
use Rattle.runs.specs.Model.{Does}
use Rattle.runs.specs.Stands.{SetModel, Stands}

abbrev pub rule_nodes_of : Run → List RuleNode
rule_nodes_of run = rule_nodes run.rule.now

abbrev pub StandsFor : Run → SetModel → Type 0
StandsFor run m = Stands (rule_nodes_of run) run.state m

-- n is what f tells of every state that the run stands for
abbrev pub Tells : Run → (SetModel → ℕ) → ℕ → Type 0
Tells run f n = (m : SetModel) → StandsFor run m → n ≡ f m

-- A call. Whatever state of the model s stands for, the answer tells what the model says, and s' stands for the model's next state.
pub record Moves (rule : List RuleNode) (s : Levels) (c : Call ℕ) (t : Told) (s' : Levels) : Type 0 where
  pub model : (m : SetModel) → Stands rule s m → (m' : SetModel) × Does rule Has m c t m' × Stands rule s' m'

-- the opening of a node whose label meets the tests of the rule nodes `meets`: the node carries them as a set
pub record MovesOpen (rule : List RuleNode) (s : Levels) (meets : ℕ → Type 0) (t : Told) (s' : Levels) : Type 0 where
  pub set : ℕ
  pub members : SetOf rule meets set
  pub moves : Moves rule s (Open set) t s'

-- a taking into the list xs, which is ys after it: its front is filled, and its rest is as before
pub record MovesTake (rule : List RuleNode) (s : Levels) (xs : List ℕ) (n : ℕ) (ys : List ℕ) (s' : Levels) : Type 0 where
  pub moves : Moves rule s (Take (length xs)) (taken n) s'
  pub fits : n ≤ length xs
  pub list : (m : SetModel) → Stands rule s m → ys ≡ take n m.waiting ++ drop n xs

-- a call of a run, which keeps its rule
pub record Steps (run : Run) (c : Call ℕ) (t : Told) (run' : Run) : Type 0 where
  pub rule : run'.rule.now ≡ run.rule.now
  pub moves : Moves (rule_nodes_of run) run.state c t run'.state

-- the opening of a node with this label, lent this list of labels; the run keeps its rule
pub record Opening {L : Type 0} (same : L → L → Bool) (run : Run) (labels : List L) (label : L) (t : Told) (run' : Run) : Type 0 where
  pub rule : run'.rule.now ≡ run.rule.now
  pub moves : MovesOpen (rule_nodes_of run) run.state (Meets same (rule_nodes_of run) labels label) t run'.state

-- a taking of a run into the list xs, which is ys after it; the run keeps its rule
pub record Taking (run : Run) (xs : List ℕ) (n : ℕ) (ys : List ℕ) (run' : Run) : Type 0 where
  pub rule : run'.rule.now ≡ run.rule.now
  pub moves : MovesTake (rule_nodes_of run) run.state xs n ys run'.state
