-- A run is fed an event.
use Rattle.std.proofs.Common.{◌≡◌, ℕ, ◌<◌, min, Bool, true, List, [], ◌++◌, length, take, Some, None, Ok, Err, Option, Result, sym, ap, ◌∙◌, subst, append-nil}
use Rattle.rules.specs.declared.rule.Rule.{Rule}
use Rattle.rules.specs.RuleNodes.{rule_nodes}
use Rattle.runs.specs.declared.call.Call.TheVariants as call
use Rattle.runs.specs.declared.refusal.Refusal.{Refusal as RunRefusal}
use Rattle.runs.specs.declared.run.Run.{Run}
use Rattle.runs.specs.Answers.{told_by, opened, closed}
use Rattle.runs.specs.Model.{Model, taking, Does}
use Rattle.runs.specs.Calls.{Opening, Steps, Taking}
use Rattle.runs.specs.Journal.{meets, StandsAt}
use Rattle.runs.proofs.LabelledCalls.{played_open, played_close, taken_count, taken_stands, taken_filled}
use Rattle.runs.proofs.MadeCallLaws.{open_hands, close_hands, filled_none}
use Rattle.sources.specs.declared.event.Event.{Event}
use Rattle.sources.specs.declared.event.Event.TheVariants.{Open, Close}
use Rattle.selection.specs.declared.refusal.Refusal.{Refusal}
use Rattle.selection.specs.declared.refusal.Refusal.TheVariants.{Run as by_run, ListFull}
use Rattle.sources.specs.Events.{answer}
use Rattle.sources.proofs.Answered.{from_some, from_none, from_err}
use Rattle.selection.specs.declared.refusal.Cause.{Cause}
use Rattle.selection.specs.declared.refusal.Cause.TheVariants.{Fault, Refused}
use Rattle.selection.specs.Feeding.{Fed, Feeds, Advances}
use Rattle.selection.specs.Feeding.Feeds.{feeds}

module _ {L : Type 0} (same : L → L → Bool) (labels : List L) (run run' : Run) (e : Event L) (numbers : List ℕ) where
  -- nothing is handed out
  still : (r : Result ℕ Refusal)
      → ((rule : Rule) (m : Model L) → StandsAt same rule labels run m
      → (m' : Model L) × Fed (rule_nodes rule) (meets same rule labels) m (length numbers) e r m' × (m'.handed ≡ m.handed) × StandsAt same rule labels run' m')
      → Feeds same labels run e numbers r numbers run'
  still r fed = feeds (λ rule m at. let f = fed rule m at in record {
    state = f.0;
    fed = f.1;
    hands = [];
    handed = f.2 ∙ sym (append-nil m.handed);
    filled = filled_none numbers;
    stands = f.3;
  })

  pub fed_open : (l : L) (r : Result ℕ RunRefusal) (k : ℕ) → e ≡ Open l → Opening same run labels l (told_by opened r) run' → r ≡ Ok k
      → Feeds same labels run e numbers (Ok 0) numbers run'
  fed_open l r k is o ok = still (Ok 0) (λ rule m at.
      let p = played_open same rule labels m run run' at l (told_by opened r) o in
      let D : Result ℕ RunRefusal → Type 0 = λ q. Does (rule_nodes rule) (meets same rule labels) m (call.Open l) (told_by opened q) p.state in
      let F : Event L → Type 0 = λ x. Fed (rule_nodes rule) (meets same rule labels) m (length numbers) x (Ok 0) p.state in
      (p.state, subst F (sym is) (Fed.opens (subst D ok p.does)), open_hands same rule labels m l p.state (told_by opened r) p.does, p.stands))

  pub unfed_open : (l : L) (r : Result ℕ RunRefusal) (k : RunRefusal) (x : Refusal) → e ≡ Open l → Opening same run labels l (told_by opened r) run' → r ≡ Err k → x ≡ by_run k
      → Feeds same labels run e numbers (Err x) numbers run'
  unfed_open l r k x is o bad by = still (Err x) (λ rule m at.
      let p = played_open same rule labels m run run' at l (told_by opened r) o in
      let D : Result ℕ RunRefusal → Type 0 = λ q. Does (rule_nodes rule) (meets same rule labels) m (call.Open l) (told_by opened q) p.state in
      let F : Event L → Refusal → Type 0 = λ y z. Fed (rule_nodes rule) (meets same rule labels) m (length numbers) y (Err z) p.state in
      (p.state, subst (λ y. F y x) (sym is) (subst (λ z. F (Open l) z) (sym by) (Fed.refuses (subst D bad p.does))), open_hands same rule labels m l p.state (told_by opened r) p.does, p.stands))

  pub unfed_close : (r : Result Bool RunRefusal) (k : RunRefusal) (x : Refusal) → e ≡ Close → Steps run call.Close (told_by closed r) run' → r ≡ Err k → x ≡ by_run k
      → Feeds same labels run e numbers (Err x) numbers run'
  unfed_close r k x is o bad by = still (Err x) (λ rule m at.
      let p = played_close same rule labels m run run' at (told_by closed r) o in
      let D : Result Bool RunRefusal → Type 0 = λ q. Does (rule_nodes rule) (meets same rule labels) m call.Close (told_by closed q) p.state in
      let F : Event L → Refusal → Type 0 = λ y z. Fed (rule_nodes rule) (meets same rule labels) m (length numbers) y (Err z) p.state in
      (p.state, subst (λ y. F y x) (sym is) (subst (λ z. F Close z) (sym by) (Fed.refuses (subst D bad p.does))), close_hands same rule labels m p.state (told_by closed r) p.does, p.stands))

  pub full_close : (r : Result Bool RunRefusal) (selected : Bool) → e ≡ Close → Steps run call.Close (told_by closed r) run' → r ≡ Ok selected → selected ≡ true → length numbers ≡ 0
      → Feeds same labels run e numbers (Err ListFull) numbers run'
  full_close r selected is o ok chosen full = still (Err ListFull) (λ rule m at.
      let p = played_close same rule labels m run run' at (told_by closed r) o in
      let D : Result Bool RunRefusal → Type 0 = λ q. Does (rule_nodes rule) (meets same rule labels) m call.Close (told_by closed q) p.state in
      let F : Event L → Type 0 = λ y. Fed (rule_nodes rule) (meets same rule labels) m (length numbers) y (Err ListFull) p.state in
      (p.state, subst F (sym is) (Fed.full (subst D (ok ∙ ap Ok chosen) p.does) full), close_hands same rule labels m p.state (told_by closed r) p.does, p.stands))

  -- a closing, and then a taking
  pub fed_close : (r : Result Bool RunRefusal) (selected : Bool) (run₁ : Run) (n : ℕ) (after : List ℕ)
      → e ≡ Close → Steps run call.Close (told_by closed r) run₁ → r ≡ Ok selected → (selected ≡ true → 0 < length numbers)
      → Taking run₁ numbers n after run' → Feeds same labels run e numbers (Ok n) after run'
  fed_close r selected run₁ n after is o ok room t = feeds (λ rule m at.
      let p = played_close same rule labels m run run₁ at (told_by closed r) o in
      let D : Result Bool RunRefusal → Type 0 = λ q. Does (rule_nodes rule) (meets same rule labels) m call.Close (told_by closed q) p.state in
      let m' : Model L = taking p.state (length numbers) in
      let F : Event L → ℕ → Type 0 = λ y i. Fed (rule_nodes rule) (meets same rule labels) m (length numbers) y (Ok i) m' in
      let count : n ≡ min (length p.state.waiting) (length numbers) = taken_count same rule labels p.state run₁ run' p.stands numbers after n t in
      record {
        state = m';
        fed = subst (λ y. F y n) (sym is) (subst (λ i. F Close i) (sym count) (Fed.closes (subst D ok p.does) room));
        hands = take (length numbers) p.state.waiting;
        handed = ap (λ (hs : List ℕ). hs ++ take (length numbers) p.state.waiting) (close_hands same rule labels m p.state (told_by closed r) p.does);
        filled = taken_filled same rule labels p.state run₁ run' p.stands numbers after n t;
        stands = taken_stands same rule labels p.state run₁ run' p.stands numbers after n t;
      })

-- A step of a selection, by what next answered
module _ {L F : Type 0} (same : L → L → Bool) (labels : List L) (run : Run) (es : List (Event L)) (end : Option F) (numbers : List ℕ) where
  pub step_done : answer es end ≡ Ok None → Advances same labels run es end numbers (Ok None) numbers run
  step_done h = let p = from_none es end h in Advances.finished p.0 p.1

  pub step_fault : (f : F) (x : Cause F) → answer es end ≡ Err f → x ≡ Fault f → Advances same labels run es end numbers (Err x) numbers run
  step_fault f x h by = let p = from_err es end f h in rw by (Advances.faulted f p.0 p.1)

  pub step_fed : {after : List ℕ} {run' : Run} (e : Event L) (r : Result ℕ Refusal) (n : ℕ) → answer es end ≡ Ok (Some e)
      → Feeds same labels run e numbers r after run' → r ≡ Ok n → Advances same labels run es end numbers (Ok (Some n)) after run'
  step_fed {after} {run'} e r n h f ok =
      Advances.fed e n (from_some es end e h) (let P : Result ℕ Refusal → Type 0 = λ q. Feeds same labels run e numbers q after run' in subst P ok f)

  pub step_refused : {after : List ℕ} {run' : Run} (e : Event L) (r : Result ℕ Refusal) (k : Refusal) → answer es end ≡ Ok (Some e)
      → Feeds same labels run e numbers r after run' → r ≡ Err k → Advances same labels run es end numbers (Err (Refused k)) after run'
  step_refused {after} {run'} e r k h f bad =
      Advances.stopped e k (from_some es end e h) (let P : Result ℕ Refusal → Type 0 = λ q. Feeds same labels run e numbers q after run' in subst P bad f)

pub ruleset step_laws = (step_done, step_fault, step_fed, step_refused)
