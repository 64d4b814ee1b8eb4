-- One call of a journal, on the run and on the reference model with labels.
use Rattle.std.proofs.Common.{◌≡◌, ℕ, ◌≤◌, min, Bool, List, [], ◌++◌, length, take, drop, Ok, Err, Result, sym, refl, ap, ap₂, ◌∙◌, subst, append-nil, arith}
use Rattle.std.proofs.lemmas.List.{length-take-le, drop_all}
use Rattle.rules.specs.declared.node.RuleNode.{RuleNode}
use Rattle.rules.specs.declared.rule.Rule.{Rule}
use Rattle.rules.specs.RuleNodes.{rule_nodes}
use Rattle.runs.specs.declared.refusal.Refusal.{Refusal}
use Rattle.runs.specs.declared.run.Run.{Run}
use Rattle.runs.specs.declared.call.Call.{Call}
use Rattle.runs.specs.declared.call.Call.TheVariants.{Open, Close, Drop, Take}
use Rattle.runs.specs.declared.call.Answer.{Answer}
use Rattle.runs.specs.declared.call.Answer.TheVariants.{Opened, Closed, Dropped, Taken, Refused}
use Rattle.runs.specs.Refusals.{number}
use Rattle.runs.specs.Answers.{Told, told, told_by, count_taken, opened, closed, dropped, taken, refused}
use Rattle.runs.specs.Model.{Model, Does, taking}
use Rattle.runs.specs.Stands.{SetModel, Stands}
use Rattle.runs.specs.Calls.{rule_nodes_of, Opening, Steps, Taking}
use Rattle.runs.specs.Journal.{Filled, meets, StandsAt}
use Rattle.runs.specs.MadeCall.{Made}
use Rattle.runs.proofs.LabelledCalls.{Played, played_open, played_close, played_drop, taken_count, taken_stands, hands_count, taken_filled}
use Rattle.runs.proofs.TakeSim.{taken_min}

-- an answer that tells of no taking moved nothing
still : (a : Answer) (t : Told) → told a ≡ t → ((n : ℕ) → taken n ≡ t → ⊥) → count_taken (told a) ≡ 0
still (Opened n) t e never = refl
still (Closed b) t e never = refl
still Dropped t e never = refl
still (Taken n) t e never = absurd (never n e)
still (Refused k) t e never = refl

not_opened : (n k : ℕ) → taken n ≡ opened k → ⊥
not_opened n k e = cc

not_closed : (n : ℕ) (b : Bool) → taken n ≡ closed b → ⊥
not_closed n b e = cc

not_dropped : (n : ℕ) → taken n ≡ dropped → ⊥
not_dropped n e = cc

not_refused : (n k : ℕ) → taken n ≡ refused k → ⊥
not_refused n k e = cc

pub untaken_open : (r : Result ℕ Refusal) (n : ℕ) → taken n ≡ told_by opened r → ⊥
untaken_open (Ok k) n e = not_opened n k e
untaken_open (Err k) n e = not_refused n (number k) e

pub untaken_close : (r : Result Bool Refusal) (n : ℕ) → taken n ≡ told_by closed r → ⊥
untaken_close (Ok b) n e = not_closed n b e
untaken_close (Err k) n e = not_refused n (number k) e

pub untaken_drop : (r : Result (Unit {0}) Refusal) (n : ℕ) → taken n ≡ told_by (λ _. dropped) r → ⊥
untaken_drop (Ok u) n e = not_dropped n e
untaken_drop (Err k) n e = not_refused n (number k) e

pub filled_none : {X : Type 0} (xs : List X) → Filled xs [] xs
filled_none xs = record { fits = omega arith; list = refl }

module _ {L : Type 0} (same : L → L → Bool) (rule : Rule) (labels : List L) where
  abbrev nodes : List RuleNode
  nodes = rule_nodes rule

  abbrev tests : L → ℕ → Type 0
  tests = meets same rule labels

  pub open_hands : (m : Model L) (l : L) (m' : Model L) (r : Told) → Does nodes tests m (Open l) r m' → m'.handed ≡ m.handed
  open_hands m l m' r (Does.too_deep a e) = refl
  open_hands m l m' r (Does.too_many a e f) = refl
  open_hands m l m' r (Does.opens a e f) = refl

  pub close_hands : (m m' : Model L) (r : Told) → Does nodes tests m Close r m' → m'.handed ≡ m.handed
  close_hands m m' r (Does.none_to_close e) = refl
  close_hands m m' r (Does.waiting_full v vs e o f) = refl
  close_hands m m' r (Does.selects v vs e o f) = refl
  close_hands m m' r (Does.passes v vs e n) = refl

  drop_hands : (m m' : Model L) (r : Told) → Does nodes tests m Drop r m' → m'.handed ≡ m.handed
  drop_hands m m' r (Does.none_to_drop e) = refl
  drop_hands m m' r (Does.drops v vs e) = refl

  module _ (m : Model L) (run run' : Run) (at : StandsAt same rule labels run m) (c : Call L) (a : Answer) (out : List ℕ) where
    -- a call that moves no number
    unmoved : (d : Call L) (r : Told) → c ≡ d → Played same rule labels m run run' at d r
        → ((m' : Model L) → Does nodes tests m d r m' → m'.handed ≡ m.handed)
        → told a ≡ r → ((n : ℕ) → taken n ≡ r → ⊥) → Made same rule labels m c a out out run'
    unmoved d r is p hands e never =
        let P : Call L → Told → Type 0 = λ k u. Does nodes tests m k u p.state in
        record {
          state = p.state;
          does = subst (λ (k : Call L). P k (told a)) (sym is) (subst (λ (u : Told). P d u) (sym e) p.does);
          stands = p.stands;
          hands = [];
          handed = hands p.state p.does ∙ sym (append-nil m.handed);
          count = still a r e never;
          filled = filled_none out;
        }

    pub made_open : (l : L) (r : Result ℕ Refusal) → c ≡ Open l → Opening same run labels l (told_by opened r) run' → told a ≡ told_by opened r
        → Made same rule labels m c a out out run'
    made_open l r is o e =
        unmoved (Open l) (told_by opened r) is (played_open same rule labels m run run' at l (told_by opened r) o)
        (λ m' d. open_hands m l m' (told_by opened r) d) e (untaken_open r)

    pub made_close : (r : Result Bool Refusal) → c ≡ Close → Steps run Close (told_by closed r) run' → told a ≡ told_by closed r
        → Made same rule labels m c a out out run'
    made_close r is o e =
        unmoved Close (told_by closed r) is (played_close same rule labels m run run' at (told_by closed r) o)
        (λ m' d. close_hands m m' (told_by closed r) d) e (untaken_close r)

    pub made_drop : (r : Result (Unit {0}) Refusal) → c ≡ Drop → Steps run Drop (told_by (λ _. dropped) r) run' → told a ≡ told_by (λ _. dropped) r
        → Made same rule labels m c a out out run'
    made_drop r is o e =
        unmoved Drop (told_by (λ _. dropped) r) is (played_drop same rule labels m run run' at (told_by (λ _. dropped) r) o)
        (λ m' d. drop_hands m m' (told_by (λ _. dropped) r) d) e (untaken_drop r)

    -- a taking of as many numbers as wait and are asked for, at the front of the list
    pub made_take : (size count n : ℕ) (taken_list list : List ℕ) → c ≡ Take size → a ≡ Taken n
        → ((t : SetModel) → Stands (rule_nodes_of run) run.state t → count ≡ min (length t.waiting) size) → count ≤ length out
        → Taking run (take count out) n taken_list run' → list ≡ taken_list ++ drop count out
        → Made same rule labels m c a out list run'
    made_take size count n taken_list list is answer waits fits o whole =
        let s : Stands (rule_nodes_of run) run.state at.sets = let P : Rule → Type 0 = λ r. Stands (rule_nodes r) run.state at.sets in subst P (sym at.rule_is) at.stands in
        let front : List ℕ = take count out in
        let same_wait : length at.sets.waiting ≡ length m.waiting = ap length at.carried.waiting in
        let few : count ≡ min (length m.waiting) size = waits at.sets s ∙ ap (λ (k : ℕ). min k size) same_wait in
        let len : length front ≡ count = length-take-le count out fits in
        let n_is : n ≡ min (length m.waiting) (length front) = taken_count same rule labels m run run' at front taken_list n o in
        let both = taken_min m.waiting size (length front) (len ∙ few) in
        let state_is : taking m (length front) ≡ taking m size =
        ap₂ (λ (hs us : List ℕ). record { nodes = m.nodes; path = m.path; dropped = m.dropped; closed = m.closed; waiting = us; handed = m.handed ++ hs }) both.0 both.1 in
        let f : Filled front (take size m.waiting) taken_list =
        let F : List ℕ → Type 0 = λ hs. Filled front hs taken_list in subst F both.0 (taken_filled same rule labels m run run' at front taken_list n o) in
        let many : length (take size m.waiting) ≡ count = sym (ap length both.0) ∙ hands_count same rule labels m run run' at front taken_list n o ∙ omega arith in
        let S : Model L → Type 0 = λ x. StandsAt same rule labels run' x in
        let P : Call L → Type 0 = λ k. Does nodes tests m k (told a) (taking m size) in
        let Q : Told → Type 0 = λ u. Does nodes tests m (Take size) u (taking m size) in
        let told_is : told a ≡ taken (min (length m.waiting) size) = ap told answer ∙ ap (λ (k : ℕ). taken k) (omega arith) in
        record {
          state = taking m size;
          does = subst P (sym is) (subst Q (sym told_is) (Does.takes size));
          stands = subst S state_is (taken_stands same rule labels m run run' at front taken_list n o);
          hands = take size m.waiting;
          handed = refl;
          count = ap (λ (x : Answer). count_taken (told x)) answer ∙ omega arith;
          filled = record {
            fits = omega arith;
            list = whole ∙ ap (λ (ys : List ℕ). ys ++ drop count out)
                (f.list ∙ ap (λ (ys : List ℕ). take size m.waiting ++ ys) (drop_all (length (take size m.waiting)) front (omega arith)) ∙ append-nil (take size m.waiting))
                ∙ ap (λ (k : ℕ). take size m.waiting ++ drop k out) (sym many);
          };
        }
