-- Journals of calls, made on a new run with one list of labels.
use Rattle.std.specs.Prelude.{◌≡◌, ℕ, ◌+◌, ◌<◌, ◌≤◌, min, Bool, List, [], ◌∷◌, ◌++◌, length, take, drop, map, Some, None, Option}
use Rattle.std.specs.List.{slice_get}
use Rattle.rules.specs.declared.node.RuleNode.{RuleNode}
use Rattle.rules.specs.declared.rule.Rule.{Rule}
use Rattle.rules.specs.RuleNodes.{rule_nodes}
use Rattle.rules.specs.Embedding.{Nodes, Meets}
use Rattle.runs.specs.declared.call.Call.{Call}
use Rattle.runs.specs.declared.call.Call.TheVariants.{Take}
use Rattle.runs.specs.declared.call.Answer.{Answer}
use Rattle.runs.specs.declared.run.Run.{Run}
use Rattle.runs.specs.Bits.{SetOf}
use Rattle.runs.specs.Answers.{Told, told}
use Rattle.runs.specs.Model.{Model, empty, Plays, Selected}
use Rattle.runs.specs.Stands.{SetModel, Stands}

-- The same nodes twice: in the first list they carry labels, in the second the sets of the rule nodes whose tests those labels
-- meet.
abbrev pub SetsOf : {L : Type 0} → List RuleNode → (L → ℕ → Type 0) → Nodes L → Nodes ℕ → Type 0
SetsOf rule meets [] [] = Unit {0}
SetsOf rule meets [] (s ∷ ss) = ⊥
SetsOf rule meets (n ∷ ns) [] = ⊥
SetsOf rule meets (n ∷ ns) (s ∷ ss) = (s.0 ≡ n.0) × SetOf rule (meets n.1) s.1 × SetsOf rule meets ns ss

-- the state t is the state m with sets in place of labels
pub record Carried {L : Type 0} (rule : List RuleNode) (meets : L → ℕ → Type 0) (m : Model L) (t : SetModel) : Type 0 where
  pub nodes : SetsOf rule meets m.nodes t.nodes
  pub path : t.path ≡ m.path
  pub dropped : t.dropped ≡ m.dropped
  pub closed : t.closed ≡ m.closed
  pub waiting : t.waiting ≡ m.waiting
  pub handed : t.handed ≡ m.handed

-- xs stand at the front of the list, whose rest is as before
pub record Filled {X : Type 0} (before xs after : List X) : Type 0 where
  pub fits : length xs ≤ length before
  pub list : after ≡ xs ++ drop (length xs) before

module _ {L : Type 0} (same : L → L → Bool) (rule : Rule) (labels : List L) where
  abbrev pub meets : L → ℕ → Type 0
  meets = Meets same (rule_nodes rule) labels

  -- the run is of this rule, and its state stands for a state whose nodes carry labels
  pub record StandsAt (run : Run) (m : Model L) : Type 0 where
    pub rule_is : run.rule.now ≡ rule
    pub sets : SetModel
    pub stands : Stands (rule_nodes rule) run.state sets
    pub carried : Carried (rule_nodes rule) meets m sets

  -- What the reference model, fed the calls alone, says of the first k of them, whose answers are the first k of ts. The numbers
  -- that it has handed out by then stand at the front of those handed out in the end. With those that wait by then behind them
  -- they are what is selected after k calls.
  pub record After (calls : List (Call L)) (ts : List Told) (m : Model L) (k : ℕ) : Type 0 where
    pub state : Model L
    pub plays : Plays (rule_nodes rule) meets empty (take k calls) (take k ts) state
    pub later : List ℕ
    pub handed : m.handed ≡ state.handed ++ later
    pub selected : Selected (rule_nodes rule) meets state

  -- The reference model comes to the state m with these answers, and to no other with others.
  pub record Recorded (calls : List (Call L)) (ts : List Told) (m : Model L) : Type 0 where
    pub plays : Plays (rule_nodes rule) meets empty calls ts m
    pub only : (ts' : List Told) (m' : Model L) → Plays (rule_nodes rule) meets empty calls ts' m' → (ts' ≡ ts) × (m' ≡ m)
    pub after : (k : ℕ) → k ≤ length calls → After calls ts m k

  -- All calls were made, and each has its answer. The answers and the numbers handed out stand at the front of the two lists.
  pub record Replayed (calls : List (Call L)) (answers answers' : List Answer) (numbers numbers' : List ℕ)
      (run : Run) (count : ℕ) : Type 0 where
    pub given : List Answer
    pub state : Model L
    pub all : length given ≡ length calls
    pub recorded : Recorded calls (map told given) state
    pub stands : StandsAt run state
    pub handed : count ≡ length state.handed
    pub given_first : Filled answers given answers'
    pub handed_first : Filled numbers state.handed numbers'

  -- The list for the answers is too short, and nothing was done; or call k is a taking whose numbers do not fit behind those
  -- handed out before it, and the calls before it were made.
  pub data Unfinished (calls : List (Call L)) (answers answers' : List Answer) (numbers numbers' : List ℕ) : Option (ℕ × ℕ) → Type 0 where
    few_answers : length answers < length calls → answers' ≡ answers → numbers' ≡ numbers
        → Unfinished calls answers answers' numbers numbers' None
    few_numbers : (k n : ℕ) (given : List Answer) (state : Model L)
        → length calls ≤ length answers
        → slice_get calls k ≡ Some (Take n)
        → length given ≡ k
        → Recorded (take k calls) (map told given) state
        → length numbers < length state.handed + min (length state.waiting) n
        → Filled answers given answers' → Filled numbers state.handed numbers'
        → Unfinished calls answers answers' numbers numbers' (Some (k, length state.handed))
