-- Laws of the reference model.
use Rattle.std.specs.Prelude.{◌≡◌, ℕ, Bool, List}
use Rattle.rules.specs.declared.node.RuleNode.{RuleNode}
use Rattle.rules.specs.declared.rule.Rule.{Rule}
use Rattle.rules.specs.RuleNodes.{rule_nodes}
use Rattle.runs.specs.declared.call.Call.{Call}
use Rattle.runs.specs.Bits.{Has}
use Rattle.runs.specs.Answers.{Told}
use Rattle.runs.specs.Model.{Model, empty, Does, Plays, Selected}
use Rattle.runs.specs.Stands.{SetModel}
use Rattle.runs.specs.Journal.{meets}

-- After any calls, each opening with a set of rule nodes of its own, what is handed out and what waits is what is selected.
abbrev pub ReachedSelected : Type 0
ReachedSelected =
    (rule : Rule) (calls : List (Call ℕ)) (ts : List Told) (m : SetModel)
    → Plays (rule_nodes rule) Has empty calls ts m → Selected (rule_nodes rule) Has m

-- In no state has a call two answers or two next states, and in each state that any calls lead to from the empty one it has an answer and
-- a next state.
pub record OneAnswer {A : Type 0} (rule : List RuleNode) (meets : A → ℕ → Type 0) : Type 0 where
  pub one : (m m₁ m₂ : Model A) (c : Call A) (t₁ t₂ : Told) → Does rule meets m c t₁ m₁ → Does rule meets m c t₂ m₂ → (t₁ ≡ t₂) × (m₁ ≡ m₂)
  pub some : (calls : List (Call A)) (ts : List Told) (m : Model A) → Plays rule meets empty calls ts m
      → (c : Call A) → (t : Told) × (m' : Model A) × Does rule meets m c t m'

-- That of every rule: where an opening brings a label, with any list of labels for the tests, and where it brings a set of rule nodes
pub record CallsAnswered {L : Type 0} (same : L → L → Bool) : Type 0 where
  pub by_labels : (rule : Rule) (labels : List L) → OneAnswer (rule_nodes rule) (meets same rule labels)
  pub by_sets : (rule : Rule) → OneAnswer (rule_nodes rule) Has
