-- One event of a selection, for the contracts of its private functions.
use Rattle.std.specs.Prelude.{◌≡◌, ℕ, ◌<◌, min, Bool, true, List, [], ◌∷◌, ◌++◌, length, Some, None, Ok, Err, Option, Result}
use Rattle.rules.specs.declared.node.RuleNode.{RuleNode}
use Rattle.rules.specs.declared.rule.Rule.{Rule}
use Rattle.rules.specs.RuleNodes.{rule_nodes}
use Rattle.runs.specs.declared.call.Call.{Call}
use Rattle.runs.specs.declared.call.Call.TheVariants as call
use Rattle.runs.specs.declared.run.Run.{Run}
use Rattle.runs.specs.Answers.{opened, closed, refused}
use Rattle.runs.specs.Refusals as run
use Rattle.runs.specs.declared.refusal.Refusal.{Refusal as RunRefusal}
use Rattle.runs.specs.Model.{Model, taking, Does}
use Rattle.runs.specs.Journal.{Filled, meets, StandsAt}
use Rattle.sources.specs.declared.event.Event.{Event}
use Rattle.sources.specs.declared.event.Event.TheVariants.{Open, Close}
use Rattle.sources.specs.Events.{rest}
use Rattle.selection.specs.declared.refusal.Refusal.{Refusal}
use Rattle.selection.specs.declared.refusal.Refusal.TheVariants.{Run as by_run, ListFull}
use Rattle.selection.specs.declared.refusal.Cause.{Cause}
use Rattle.selection.specs.declared.refusal.Cause.TheVariants.{Fault, Refused}

-- the call that an event makes
abbrev pub call_of : {A : Type 0} → Event A → Call A
call_of (Open a) = call.Open a
call_of Close = call.Close

-- The reference model is fed an event, with so much room for numbers; after a closing that is accepted it hands out what waits and fits.
pub data Fed {A : Type 0} (rule : List RuleNode) (meets : A → ℕ → Type 0) (m : Model A) (room : ℕ) : Event A → Result ℕ Refusal → Model A → Type 0 where
  opens : {a : A} {k : ℕ} {m' : Model A} → Does rule meets m (call.Open a) (opened k) m' → Fed rule meets m room (Open a) (Ok 0) m'
  closes : {b : Bool} {m' : Model A} → Does rule meets m call.Close (closed b) m' → (b ≡ true → 0 < room)
      → Fed rule meets m room Close (Ok (min (length m'.waiting) room)) (taking m' room)
  refuses : {e : Event A} {k : RunRefusal} {m' : Model A} → Does rule meets m (call_of e) (refused (run.number k)) m'
      → Fed rule meets m room e (Err (by_run k)) m'
  full : {m' : Model A} → Does rule meets m call.Close (closed true) m' → room ≡ 0 → Fed rule meets m room Close (Err ListFull) m'

module _ {L : Type 0} (same : L → L → Bool) (labels : List L) where
  -- the run stands for the model's next state, and what was handed out stands at the front of the list
  pub record Feeding (rule : Rule) (m : Model L) (e : Event L) (before : List ℕ) (r : Result ℕ Refusal) (after : List ℕ) (run' : Run) : Type 0 where
    pub state : Model L
    pub fed : Fed (rule_nodes rule) (meets same rule labels) m (length before) e r state
    pub hands : List ℕ
    pub handed : state.handed ≡ m.handed ++ hands
    pub filled : Filled before hands after
    pub stands : StandsAt same rule labels run' state

  -- A run is fed an event: so it is with every state that the run stands for.
  pub data Feeds (run : Run) (e : Event L) (before : List ℕ) (r : Result ℕ Refusal) (after : List ℕ) (run' : Run) : Type 0 where
    feeds : ((rule : Rule) (m : Model L) → StandsAt same rule labels run m → Feeding rule m e before r after run') → Feeds run e before r after run'

  -- A run is fed the first of the events, or hears the ending of the source.
  pub data Advances {F : Type 0} (run : Run) (es : List (Event L)) (end : Option F) (before : List ℕ) :
      Result (Option ℕ) (Cause F) → List ℕ → Run → Type 0 where
    finished : es ≡ [] → end ≡ None → Advances run es end before (Ok None) before run
    faulted : (f : F) → es ≡ [] → end ≡ Some f → Advances run es end before (Err (Fault f)) before run
    fed : {after : List ℕ} {run' : Run} (e : Event L) (n : ℕ) → es ≡ e ∷ rest es → Feeds run e before (Ok n) after run'
        → Advances run es end before (Ok (Some n)) after run'
    stopped : {after : List ℕ} {run' : Run} (e : Event L) (k : Refusal) → es ≡ e ∷ rest es → Feeds run e before (Err k) after run'
        → Advances run es end before (Err (Refused k)) after run'
