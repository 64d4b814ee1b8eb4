-- A run is fed the events of a source, one after another.
use Rattle.std.proofs.Common.{◌≡◌, ℕ, ◌+◌, ◌-◌, ◌<◌, ◌≤◌, min, Bool, List, [], ◌∷◌, ◌++◌, length, take, drop, Some, None, Ok, Err, Option, Result, sym, refl, ap, ap₂, ◌∙◌, subst, append-nil, append_assoc, arith}
use borrow.Rule.Slice.PartMut.{put_mid}
use Rattle.std.proofs.lemmas.List.{take_rest, drop-drop, length-drop, length-append, length-take}
use Rattle.std.proofs.Math.Seq.{take-append_seam, drop-append_seam}
use Rattle.rules.specs.declared.node.RuleNode.{RuleNode}
use Rattle.rules.specs.declared.rule.Rule.{Rule}
use Rattle.rules.specs.RuleNodes.{rule_nodes}
use Rattle.rules.specs.Embedding.{OccursIn}
use Rattle.runs.specs.declared.run.Run.{Run}
use Rattle.runs.specs.Refusals.{number as run_number}
use Rattle.runs.specs.Model.{Model, empty}
use Rattle.runs.specs.Stands.{SetModel, Stands}
use Rattle.runs.specs.Calls.{StandsFor}
use Rattle.runs.specs.Journal.{Filled, meets, StandsAt}
use Rattle.runs.proofs.CarriedLaws.{empty_carried, same_count}
use Rattle.runs.proofs.MadeCallLaws.{open_hands, close_hands}
use Rattle.runs.proofs.ReplayLaws.{put_end}
use Rattle.runs.specs.Answers.{opened, closed}
use Rattle.sources.specs.declared.event.Event.{Event}
use Rattle.sources.specs.declared.event.Event.TheVariants.{Open, Close}
use Rattle.sources.specs.Events.{ClosedFrom, rest}
use Rattle.sources.specs.Nodes.{nodes}
use Rattle.selection.specs.declared.refusal.Refusal.{Refusal}
use Rattle.selection.specs.declared.refusal.Refusal.TheVariants.{Run as by_run, ListFull}
use Rattle.selection.specs.declared.refusal.Cause.{Cause}
use Rattle.selection.specs.declared.refusal.Cause.TheVariants.{Fault, Refused}
use Rattle.selection.specs.Answers.{Answer, number, ended_by}
use Rattle.selection.specs.Selection.{Reported, Refuses, Selects, Selection}
use Rattle.selection.specs.Feeding.{Fed, Feeds, Advances}
use Rattle.selection.specs.Feeding.Feeds.{feeds}
use Rattle.selection.proofs.ClosingOrder.{all_closed}
use Rattle.selection.proofs.Picked.{picked_in, picked_all}
use Rattle.selection.proofs.OneAnswer.{one_answer}
use Rattle.selection.proofs.Follows.{Follows, follows_none, reported, follows_open, follows_close, stops_open, stops_close, stops_full, count}

module _ {L F : Type 0} (same : L → L → Bool) (rule : Rule) (labels : List L) (was : List ℕ) (end₀ : Option F) (es₀ : List (Event L)) where
  abbrev tree : List RuleNode
  tree = rule_nodes rule

  abbrev After : List (Event L) → Model L → Type 0
  After before m = Follows same tree labels rule.ordered rule.some before m

  -- What holds of the run, of the count of the numbers reported, the list, and the source's ending and events still to come
  pub record Fitting (run : Run) (n : ℕ) (out : List ℕ) (end : Option F) (es : List (Event L)) : Type 0 where
    pub before : List (Event L)
    pub state : Model L
    pub stands : StandsAt same rule labels run state
    pub follows : After before state
    pub split : es₀ ≡ before ++ es
    pub counted : n ≡ length state.handed
    pub within : n ≤ length was
    pub filled : out ≡ state.handed ++ drop n was
    pub ending : end ≡ end₀

  pub data Selecting (run : Run) (n : ℕ) (out : List ℕ) (end : Option F) (es : List (Event L)) : Type 0 where
    selecting : Fitting run n out end es → Selecting run n out end es

  pub starts : (run : Run) → run.rule.now ≡ rule → StandsFor run empty → Selecting run 0 was end₀ es₀
  starts run e s = selecting (record {
    before = [];
    state = empty;
    stands = record {
      rule_is = e;
      sets = empty;
      stands = s_here;
      carried = empty_carried tree (meets same rule labels);
    };
    follows = follows_none same tree labels rule.ordered rule.some;
    split = refl;
    counted = refl;
    within = omega arith;
    filled = refl;
    ending = refl;
  })
    where
      s_here : Stands tree run.state empty
      s_here = subst (λ r. Stands (rule_nodes r) run.state empty) e s

  no_hands : (hs : List ℕ) → length hs ≡ 0 → hs ≡ []
  no_hands [] e = refl
  no_hands (h ∷ hs) e = absurd (omega arith)

  -- what the run counts is what the state with labels counts
  counts_labelled : (openings : ℕ) (run : Run) (m : Model L) → StandsAt same rule labels run m → ((t : SetModel) → StandsFor run t → openings ≡ length t.nodes)
      → openings ≡ length m.nodes
  counts_labelled openings run m s counts =
      counts s.sets (let P : Rule → Type 0 = λ r. Stands (rule_nodes r) run.state s.sets in subst P (sym s.rule_is) s.stands)
      ∙ same_count tree (meets same rule labels) m.nodes s.sets.nodes s.carried.nodes

  module _ (run : Run) (n : ℕ) (out : List ℕ) (end : Option F) (es : List (Event L)) (f : Fitting run n out end es) where
    abbrev part : List ℕ
    part = take (length out - n) (drop n out)

    -- behind the numbers reported the list is as it was
    behind : part ≡ drop n was
    behind =
        take_rest out n ∙ ap (drop n) f.filled ∙ ap (λ (k : ℕ). drop k (f.state.handed ++ drop n was)) f.counted
        ∙ drop-append_seam f.state.handed (drop n was)

    front : take n out ≡ f.state.handed
    front =
        ap (take n) f.filled ∙ ap (λ (k : ℕ). take k (f.state.handed ++ drop n was)) f.counted
        ∙ take-append_seam f.state.handed (drop n was)

    room : length part ≡ length was - n
    room = ap length behind ∙ length-drop n was

    -- the list after the part behind the reported numbers was filled
    put_list : (hands part' : List ℕ) → Filled part hands part' → put_mid n (length out - n) out part' ≡ (f.state.handed ++ hands) ++ drop (n + length hands) was
    put_list hands part' g =
        put_end n out part' ∙ ap₂ (λ (xs ys : List ℕ). xs ++ ys) front (g.list
        ∙ ap (λ (xs : List ℕ). hands ++ drop (length hands) xs) behind
        ∙ ap (λ (xs : List ℕ). hands ++ xs) (drop-drop (length hands) n was ∙ ap (λ (k : ℕ). drop k was) (omega arith)))
        ∙ sym (append_assoc f.state.handed hands (drop (n + length hands) was))

    onward : (e : Event L) (es' : List (Event L)) (part' : List ℕ) (run' : Run) (m' : Model L) (hands : List ℕ) → es ≡ e ∷ es'
        → After (f.before ++ e ∷ []) m' → m'.handed ≡ f.state.handed ++ hands → Filled part hands part' → StandsAt same rule labels run' m'
        → Fitting run' (n + length hands) (put_mid n (length out - n) out part') end es'
    onward e es' part' run' m' hands is a h g s = record {
      before = f.before ++ e ∷ [];
      state = m';
      stands = s;
      follows = a;
      split = f.split ∙ ap (λ (xs : List (Event L)). f.before ++ xs) is ∙ sym (append_assoc f.before (e ∷ []) es');
      counted = omega (arith, ap length h, length-append f.state.handed hands, f.counted);
      within = let w = g.fits in let r = room in let v = f.within in omega arith;
      filled = put_list hands part' g ∙ ap (λ (xs : List ℕ). xs ++ drop (n + length hands) was) (sym h);
      ending = f.ending;
    }

    -- an event is accepted: so many numbers are handed out
    fed_on : (e : Event L) (space : ℕ) {r : Result ℕ Refusal} {m' : Model L} → Fed tree (meets same rule labels) f.state space e r m'
        → (k : ℕ) → r ≡ Ok k → (hands : List ℕ) → m'.handed ≡ f.state.handed ++ hands → After (f.before ++ e ∷ []) m' × (k ≡ length hands)
    fed_on e space (Fed.opens {a = l} {k = j} {m' = m'} d) k ok hands h =
        let q : 0 ≡ k = cc in
        let l₁ : length m'.handed ≡ length f.state.handed = ap length (open_hands same rule labels f.state l m' (opened j) d) in (
          follows_open same tree labels rule.ordered rule.some f.before f.state f.follows l d j refl,
          omega (arith, ap length h, length-append f.state.handed hands),
        )
    fed_on e space (Fed.closes {b = b} {m' = m₁} d fits) k ok hands h =
        let q : min (length m₁.waiting) space ≡ k = cc in
        let l₁ : length m₁.handed ≡ length f.state.handed = ap length (close_hands same rule labels f.state m₁ (closed b) d) in (
          follows_close same tree labels rule.ordered rule.some f.before f.state f.follows d b space refl fits,
          omega (arith, ap length h, length-append f.state.handed hands, length-append m₁.handed (take space m₁.waiting), length-take space m₁.waiting),
        )
    fed_on e space (Fed.refuses d) k ok hands h = let z : ⊥ = cc in absurd z
    fed_on e space (Fed.full d z₁) k ok hands h = let z : ⊥ = cc in absurd z

    -- an event is refused: nothing is handed out, and there is a reason
    fed_off : (e : Event L) (space : ℕ) {r : Result ℕ Refusal} {m' : Model L} → Fed tree (meets same rule labels) f.state space e r m'
        → (k : Refusal) → r ≡ Err k → space ≡ length was - n → (later : List (Event L))
        → (length m'.nodes ≡ length f.state.nodes) × (m'.handed ≡ f.state.handed)
        × Refuses same tree labels (length was) (f.before ++ e ∷ later) f.before f.state.handed e (number k)
    fed_off e space (Fed.opens d) k bad size later = let z : ⊥ = cc in absurd z
    fed_off e space (Fed.closes d fits) k bad size later = let z : ⊥ = cc in absurd z
    fed_off e space (Fed.refuses {e = Open l} {k = j} d) k bad size later =
        let q : by_run j ≡ k = cc in
        let s = stops_open same tree labels rule.ordered rule.some f.before f.state f.follows l d (run_number j) (length was) (f.before ++ e ∷ later) f.state.handed refl in
        let P : Refusal → Type 0 = λ i. Refuses same tree labels (length was) (f.before ++ e ∷ later) f.before f.state.handed e (number i) in
        (ap (λ (x : Model L). length x.nodes) s.0, ap (λ (x : Model L). x.handed) s.0, subst P q s.1)
    fed_off e space (Fed.refuses {e = Close} {k = j} d) k bad size later =
        let q : by_run j ≡ k = cc in
        let s = stops_close same tree labels rule.ordered rule.some f.before f.state f.follows d (run_number j) (length was) (f.before ++ e ∷ later) f.state.handed refl in
        let P : Refusal → Type 0 = λ i. Refuses same tree labels (length was) (f.before ++ e ∷ later) f.before f.state.handed e (number i) in
        (ap (λ (x : Model L). length x.nodes) s.0, ap (λ (x : Model L). x.handed) s.0, subst P q s.1)
    fed_off e space (Fed.full d z₁) k bad size later =
        let q : ListFull ≡ k = cc in
        let w = f.within in
        let c = f.counted in
        let s = stops_full same tree labels rule.ordered rule.some f.before f.state f.follows d (length was) later refl (omega arith) in
        let P : Refusal → Type 0 = λ i. Refuses same tree labels (length was) (f.before ++ e ∷ later) f.before f.state.handed e (number i) in
        (s.0, s.1, subst P q s.2)

    goes_on : (e : Event L) (es' : List (Event L)) (part' : List ℕ) (run' : Run) (k : ℕ) → es ≡ e ∷ es' → Feeds same labels run e part (Ok k) part' run'
        → Fitting run' (n + k) (put_mid n (length out - n) out part') end es'
    goes_on e es' part' run' k is (feeds w) =
        let g = w rule f.state f.stands in
        let o = fed_on e (length part) g.fed k refl g.hands g.handed in
        let P : ℕ → Type 0 = λ j. Fitting run' (n + j) (put_mid n (length out - n) out part') end es' in
        subst P (sym o.1) (onward e es' part' run' g.state g.hands is o.0 g.handed g.filled g.stands)

    -- the numbers reported, as far as the source was heard
    all_reported : Reported same tree labels (length was) es₀ f.before f.state.handed
    all_reported =
        let P : List (Event L) → Type 0 = λ xs. Reported same tree labels (length was) xs f.before f.state.handed in
        subst P (sym f.split) (reported same tree labels rule.ordered rule.some f.before f.state f.follows (length was) es (let c = f.counted in let w = f.within in omega arith))

    all_heard : es ≡ [] → f.before ≡ es₀
    all_heard is = sym (f.split ∙ ap (λ (xs : List (Event L)). f.before ++ xs) is ∙ append-nil f.before)

    whole_reported : es ≡ [] → Reported same tree labels (length was) es₀ es₀ f.state.handed
    whole_reported is = let P : List (Event L) → Type 0 = λ xs. Reported same tree labels (length was) es₀ xs f.state.handed in subst P (all_heard is) all_reported

    filled_list : (part' : List ℕ) → part' ≡ part → Filled was f.state.handed (put_mid n (length out - n) out part')
    filled_list part' e = record {
      fits = let c = f.counted in let w = f.within in omega arith;
      list = put_end n out part' ∙ ap₂ (λ (xs ys : List ℕ). xs ++ ys) front (e ∙ behind) ∙ ap (λ (k : ℕ). f.state.handed ++ drop k was) f.counted;
    }

    answers : (a : Answer F) (out' : List ℕ) (left : List (Event L)) → Selects same tree labels (length was) es₀ end₀ a f.state.handed left
        → Filled was f.state.handed out' → Selection same tree labels es₀ end₀ was a out' left
    answers a out' left s g = record { reported = f.state.handed; selects = s; only = λ b vs ds t. one_answer same tree labels (length was) es₀ end₀ s t; filled = g }

    at_end : (part' : List ℕ) (left : List (Event L)) → es ≡ [] → end ≡ None → part' ≡ part → left ≡ rest es → (end₀ ≡ None → ClosedFrom 0 es₀)
        → Selection same tree labels es₀ end₀ was (Answer.done n) (put_mid n (length out - n) out part') left
    at_end part' left is done e others nested =
        let d : end₀ ≡ None = sym f.ending ∙ done in
        let t = whole_reported is in
        let O : ℕ → Type 0 = OccursIn same tree labels (nodes es₀) in
        let closed_all = all_closed es₀ (nested d) t.accepted in
        let S : ℕ → List (Event L) → Type 0 = λ k ds. Selects same tree labels (length was) es₀ end₀ (Answer.done k) f.state.handed ds in
        answers (Answer.done n) (put_mid n (length out - n) out part') left
        (subst (λ ds. S n ds) (sym (others ∙ ap rest is))
        (subst (λ k. S k []) (sym f.counted)
        (Selects.whole f.state.handed d t (λ v. (
          λ i. let p = picked_in O t.picked v i in ((closed_all v).0 p.0, p.1),
          λ o. picked_all O t.picked v ((closed_all v).1 o.0) o.1,
        )))))
        (filled_list part' e)

    at_fault : (x : F) (part' : List ℕ) (left : List (Event L)) (openings : ℕ) → es ≡ [] → end ≡ Some x → part' ≡ part → left ≡ rest es → openings ≡ length f.state.nodes
        → Selection same tree labels es₀ end₀ was (Answer.faulted x openings n) (put_mid n (length out - n) out part') left
    at_fault x part' left openings is fails e others counts =
        let S : ℕ → ℕ → List (Event L) → Type 0 = λ o k ds. Selects same tree labels (length was) es₀ end₀ (Answer.faulted x o k) f.state.handed ds in
        let c : openings ≡ length (nodes es₀) =
        counts ∙ count same tree labels rule.ordered rule.some f.before f.state f.follows ∙ ap (λ (xs : List (Event L)). length (nodes xs)) (all_heard is) in
        answers (Answer.faulted x openings n) (put_mid n (length out - n) out part') left
        (subst (λ ds. S openings n ds) (sym (others ∙ ap rest is))
        (subst (λ k. S openings k []) (sym f.counted)
        (subst (λ o. S o (length f.state.handed) []) (sym c)
        (Selects.fault x f.state.handed (sym f.ending ∙ fails) (whole_reported is)))))
        (filled_list part' e)

    at_refusal : (e : Event L) (k : Refusal) (part' : List ℕ) (run' : Run) (left : List (Event L)) (openings : ℕ) → es ≡ e ∷ rest es
        → Feeds same labels run e part (Err k) part' run' → left ≡ rest es
        → ((m : SetModel) → StandsFor run' m → openings ≡ length m.nodes)
        → Selection same tree labels es₀ end₀ was (Answer.refused (number k) openings n) (put_mid n (length out - n) out part') left
    at_refusal e k part' run' left openings is (feeds w) others counts =
        let g = w rule f.state f.stands in
        let whole : es₀ ≡ f.before ++ e ∷ rest es = f.split ∙ ap (λ (xs : List (Event L)). f.before ++ xs) is in
        let o = fed_off e (length part) g.fed k refl room (rest es) in
        let none : length g.hands ≡ 0 = omega (arith, ap length g.handed, ap length o.1, length-append f.state.handed g.hands) in
        let nothing : g.hands ≡ [] = no_hands g.hands none in
        let same_part : part' ≡ part = g.filled.list ∙ ap (λ (hs : List ℕ). hs ++ drop (length hs) part) nothing in
        let c : openings ≡ length (nodes f.before) =
        counts_labelled openings run' g.state g.stands counts ∙ o.0 ∙ count same tree labels rule.ordered rule.some f.before f.state f.follows in
        let r = let P : List (Event L) → Type 0 = λ xs. Refuses same tree labels (length was) xs f.before f.state.handed e (number k) in subst P (sym whole) o.2 in
        let S : ℕ → ℕ → List (Event L) → Type 0 = λ i j ds. Selects same tree labels (length was) es₀ end₀ (Answer.refused (number k) i j) f.state.handed ds in
        answers (Answer.refused (number k) openings n) (put_mid n (length out - n) out part') left
        (subst (λ ds. S openings n ds) (sym others)
        (subst (λ j. S openings j (rest es)) (sym f.counted)
        (subst (λ i. S i (length f.state.handed) (rest es)) (sym c)
        (Selects.refusal f.before (rest es) e (number k) f.state.handed whole all_reported r))))
        (filled_list part' same_part)

  module _ (run : Run) (n : ℕ) (out : List ℕ) (end : Option F) (es : List (Event L)) where
    pub list_kept : Selecting run n out end es → (length out ≡ length was) × (n ≤ length out)
    list_kept (selecting f) =
        let l : length out ≡ length was =
        let w = f.within in
        let c = f.counted in
        omega (arith, ap length f.filled, length-append f.state.handed (drop n was), length-drop n was) in
        (l, let w = f.within in omega arith)

    abbrev Moved : List ℕ → Run → Result (Option ℕ) (Cause F) → Type 0
    Moved part' run' r = Advances same labels run es end (take (length out - n) (drop n out)) r part' run'

    pub shorter : {part' : List ℕ} {run' : Run} {r : Result (Option ℕ) (Cause F)} → Moved part' run' r → (k : ℕ) → r ≡ Ok (Some k) → length (rest es) < length es
    shorter (Advances.finished a b) k is = let z : ◌≡◌ {A = ℕ} 0 1 = cc in absurd (omega arith)
    shorter (Advances.faulted x a b) k is = let z : ◌≡◌ {A = ℕ} 0 1 = cc in absurd (omega arith)
    shorter (Advances.fed e j a w) k is = let l = ap length a in omega arith
    shorter (Advances.stopped e j a w) k is = let z : ◌≡◌ {A = ℕ} 0 1 = cc in absurd (omega arith)

    onto : {part' : List ℕ} {run' : Run} {r : Result (Option ℕ) (Cause F)} → Fitting run n out end es → Moved part' run' r → (k : ℕ) → r ≡ Ok (Some k) → Fitting run' (n + k) (put_mid n (length out - n) out part') end (rest es)
    onto {part'} {run'} f (Advances.finished a b) k is = let z : ◌≡◌ {A = ℕ} 0 1 = cc in absurd (omega arith)
    onto {part'} {run'} f (Advances.faulted x a b) k is = let z : ◌≡◌ {A = ℕ} 0 1 = cc in absurd (omega arith)
    onto {part'} {run'} f (Advances.fed e j a w) k is =
        let q : j ≡ k = cc in
        let P : ℕ → Type 0 = λ i. Fitting run' (n + i) (put_mid n (length out - n) out part') end (rest es) in
        subst P q (goes_on run n out end es f e (rest es) part' run' j a w)
    onto {part'} {run'} f (Advances.stopped e j a w) k is = let z : ◌≡◌ {A = ℕ} 0 1 = cc in absurd (omega arith)

    pub more : {part' : List ℕ} {run' : Run} {r : Result (Option ℕ) (Cause F)} → Selecting run n out end es → Moved part' run' r → (k : ℕ) → r ≡ Ok (Some k) → (end' : Option F) (es' : List (Event L)) → es' ≡ rest es → end' ≡ end
        → Selecting run' (n + k) (put_mid n (length out - n) out part') end' es'
    more {part'} {run'} (selecting f) a k is end' es' others ends = rw (others, ends) (selecting (onto f a k is))

    pub fits : {part' : List ℕ} {run' : Run} {r : Result (Option ℕ) (Cause F)} → Selecting run n out end es → Moved part' run' r → (k : ℕ) → r ≡ Ok (Some k) → n + k ≤ length out
    fits (selecting f) a k is =
        let g = onto f a k is in
        let w : n + k ≤ length was = g.within in
        let l = list_kept (selecting f) in
        omega (arith, l.0)

    pub finished : {part' : List ℕ} {run' : Run} {r : Result (Option ℕ) (Cause F)} → Selecting run n out end es → Moved part' run' r → r ≡ Ok None → (left : List (Event L)) → left ≡ rest es → (end₀ ≡ None → ClosedFrom 0 es₀)
        → Selection same tree labels es₀ end₀ was (Answer.done n) (put_mid n (length out - n) out part') left
    finished {part'} {run'} (selecting f) (Advances.finished a b) is left others nested = at_end run n out end es f part' left a b refl others nested
    finished {part'} {run'} (selecting f) (Advances.faulted x a b) is left others nested = let z : ◌≡◌ {A = ℕ} 0 1 = cc in absurd (omega arith)
    finished {part'} {run'} (selecting f) (Advances.fed e j a w) is left others nested = let z : ◌≡◌ {A = ℕ} 0 1 = cc in absurd (omega arith)
    finished {part'} {run'} (selecting f) (Advances.stopped e j a w) is left others nested = let z : ◌≡◌ {A = ℕ} 0 1 = cc in absurd (omega arith)

    pub stopped : {part' : List ℕ} {run' : Run} {r : Result (Option ℕ) (Cause F)} → Selecting run n out end es → Moved part' run' r → (cause : Cause F) → r ≡ Err cause → (left : List (Event L)) → left ≡ rest es
        → (openings : ℕ) → ((m : SetModel) → StandsFor run' m → openings ≡ length m.nodes)
        → Selection same tree labels es₀ end₀ was (ended_by cause openings n) (put_mid n (length out - n) out part') left
    stopped {part'} {run'} (selecting f) (Advances.finished a b) cause is left others openings counts = let z : ◌≡◌ {A = ℕ} 0 1 = cc in absurd (omega arith)
    stopped {part'} {run'} (selecting f) (Advances.faulted x a b) cause is left others openings counts =
        let q : Fault x ≡ cause = cc in
        let P : Cause F → Type 0 = λ c. Selection same tree labels es₀ end₀ was (ended_by c openings n) (put_mid n (length out - n) out part') left in
        subst P q (at_fault run n out end es f x part' left openings a b refl others (counts_labelled openings run f.state f.stands counts))
    stopped {part'} {run'} (selecting f) (Advances.fed e j a w) cause is left others openings counts = let z : ◌≡◌ {A = ℕ} 0 1 = cc in absurd (omega arith)
    stopped {part'} {run'} (selecting f) (Advances.stopped e j a w) cause is left others openings counts =
        let q : Refused j ≡ cause = cc in
        let P : Cause F → Type 0 = λ c. Selection same tree labels es₀ end₀ was (ended_by c openings n) (put_mid n (length out - n) out part') left in
        subst P q (at_refusal run n out end es f e j part' run' left openings a w others counts)

pub ruleset select_laws = (starts, list_kept, shorter, more, fits, finished, stopped)
