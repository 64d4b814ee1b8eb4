-- One call of a journal, for the contract of the function that makes it.
use Rattle.std.specs.Prelude.{◌≡◌, ℕ, ◌<◌, min, Bool, List, ◌++◌, length}
use Rattle.rules.specs.declared.rule.Rule.{Rule}
use Rattle.rules.specs.RuleNodes.{rule_nodes}
use Rattle.runs.specs.declared.call.Call.{Call}
use Rattle.runs.specs.declared.call.Call.TheVariants.{Take}
use Rattle.runs.specs.declared.call.Answer.{Answer}
use Rattle.runs.specs.declared.run.Run.{Run}
use Rattle.runs.specs.Answers.{told, count_taken}
use Rattle.runs.specs.Model.{Model, Does}
use Rattle.runs.specs.Journal.{Filled, meets, StandsAt}

module _ {L : Type 0} (same : L → L → Bool) (rule : Rule) (labels : List L) where
  -- The call was made: state is the model's next state, for which the run stands, and hands are the numbers that it moved, at the
  -- front of the list.
  pub record Made (m : Model L) (c : Call L) (a : Answer) (numbers numbers' : List ℕ) (run : Run) : Type 0 where
    pub state : Model L
    pub does : Does (rule_nodes rule) (meets same rule labels) m c (told a) state
    pub stands : StandsAt same rule labels run state
    pub hands : List ℕ
    pub handed : state.handed ≡ m.handed ++ hands
    pub count : count_taken (told a) ≡ length hands
    pub filled : Filled numbers hands numbers'

  -- a taking that moves more numbers than the list has entries, and is not made
  pub record Unmade (m : Model L) (c : Call L) (numbers numbers' : List ℕ) (run run' : Run) : Type 0 where
    pub size : ℕ
    pub taking : c ≡ Take size
    pub short : length numbers < min (length m.waiting) size
    pub list : numbers' ≡ numbers
    pub run_same : run' ≡ run
