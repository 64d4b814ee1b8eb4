-- The calls of a journal, one after another.
use Rattle.std.proofs.Common.{◌≡◌, ℕ, ◌+◌, ◌-◌, ◌<◌, ◌≤◌, min, Bool, List, [], ◌∷◌, ◌++◌, length, get_or, set, take, drop, map, Some, None, sym, refl, ap, ap₂, ◌∙◌, subst, append-nil, append_assoc, arith}
use Rattle.std.specs.List.{slice_get}
use borrow.Rule.Slice.PartMut.{put_mid}
use Rattle.std.proofs.lemmas.List.{take_rest, drop_all, map-append, take_more, take_all, drop-drop, drop_more, set_at, length-drop, length_push, length-append, take-append-drop}
use Rattle.std.proofs.lemmas.Option.{slice_get-get_or}
use Rattle.std.proofs.Math.Seq.{take-append_seam, drop-append_seam}
use Rattle.rules.specs.declared.node.RuleNode.{RuleNode}
use Rattle.rules.specs.declared.rule.Rule.{Rule}
use Rattle.rules.specs.RuleNodes.{rule_nodes}
use Rattle.runs.specs.declared.run.Run.{Run}
use Rattle.runs.specs.declared.call.Call.{Call}
use Rattle.runs.specs.declared.call.Call.TheVariants.{Take}
use Rattle.runs.specs.declared.call.Answer.{Answer}
use Rattle.runs.specs.Answers.{Told, told, count_taken}
use Rattle.runs.specs.Model.{Model, empty, Plays}
use Rattle.runs.specs.Stands.{Stands}
use Rattle.runs.specs.Journal.{Filled, meets, StandsAt, Recorded, Replayed, Unfinished}
use Rattle.runs.specs.MadeCall.{Made, Unmade}
use Rattle.runs.proofs.CarriedLaws.{empty_carried}
use Rattle.runs.proofs.PlayLaws.{plays_more, plays_one, begun}
use Rattle.runs.proofs.SelectedLaws.{empty_sound, plays_sound}

-- a list whose part from a on is written
pub put_end : {X : Type 0} (a : ℕ) (xs ys : List X) → put_mid a (length xs - a) xs ys ≡ take a xs ++ ys
put_end a xs ys =
    ap (λ zs. take a xs ++ (ys ++ zs)) (drop_all (length xs - a) (drop a xs) (omega (arith, length-drop a xs))) ∙ ap (λ zs. take a xs ++ zs) (append-nil ys)

module _ {L : Type 0} (same : L → L → Bool) (rule : Rule) (labels : List L) where
  abbrev nodes : List RuleNode
  nodes = rule_nodes rule

  abbrev tests : L → ℕ → Type 0
  tests = meets same rule labels

  -- what the model's plays say of a journal
  recorded : (calls : List (Call L)) (ts : List Told) (m : Model L) → Plays nodes tests empty calls ts m → Recorded same rule labels calls ts m
  recorded calls ts m p = record {
    plays = p;
    only = λ us n q. plays_one nodes tests p q;
    after = λ k l. let b = begun nodes tests p k in record {
      state = b.state;
      plays = b.plays;
      later = b.later;
      handed = b.handed;
      selected = (plays_sound nodes tests rule.ordered rule.some (empty_sound nodes tests rule.ordered rule.some) b.plays).selected;
    };
  }

  module _ (calls : List (Call L)) (answers₀ : List Answer) (numbers₀ : List ℕ) where
    -- what holds once i calls are made
    pub record Playing (run : Run) (i handed : ℕ) (answers : List Answer) (numbers : List ℕ) : Type 0 where
      pub given : List Answer
      pub state : Model L
      pub plays : Plays nodes tests empty (take i calls) (map told given) state
      pub stands : StandsAt same rule labels run state
      pub made : length given ≡ i
      pub count : handed ≡ length state.handed
      pub fits : handed ≤ length numbers₀
      pub answers_is : answers ≡ given ++ drop i answers₀
      pub numbers_is : numbers ≡ state.handed ++ drop handed numbers₀

    pub playing_none : (run : Run) → run.rule.now ≡ rule → Stands nodes run.state empty → Playing run 0 0 answers₀ numbers₀
    playing_none run e s = record {
      given = [];
      state = empty;
      plays = Plays.done;
      stands = record { rule_is = e; sets = empty; stands = s; carried = empty_carried nodes tests };
      made = refl;
      count = refl;
      fits = omega arith;
      answers_is = refl;
      numbers_is = refl;
    }

    module _ (run : Run) (i handed : ℕ) (answers : List Answer) (numbers : List ℕ) (p : Playing run i handed answers numbers) where
      -- the front of the list has the numbers handed out
      front : take handed numbers ≡ p.state.handed
      front = ap (take handed) p.numbers_is ∙ ap (λ (k : ℕ). take k (p.state.handed ++ drop handed numbers₀)) p.count
          ∙ take-append_seam p.state.handed (drop handed numbers₀)

      -- behind them the list is as it was
      pub behind : drop handed numbers ≡ drop handed numbers₀
      behind = ap (drop handed) p.numbers_is ∙ ap (λ (k : ℕ). drop k (p.state.handed ++ drop handed numbers₀)) p.count
          ∙ drop-append_seam p.state.handed (drop handed numbers₀)

      part : take (length numbers - handed) (drop handed numbers) ≡ drop handed numbers
      part = take_rest numbers handed

      -- what the call promises is of the run's own rule, and of the part of the list
      pub made_here : (c : Call L) (a : Answer) (rest : List ℕ) (run' : Run)
          → ((m : Model L) → StandsAt same run.rule.now labels run m → Made same run.rule.now labels m c a (take (length numbers - handed) (drop handed numbers)) rest run')
          → Made same rule labels p.state c a (drop handed numbers) rest run'
      made_here c a rest run' made =
          let P : Rule → Type 0 = λ r. (m : Model L) → StandsAt same r labels run m → Made same r labels m c a (take (length numbers - handed) (drop handed numbers)) rest run' in
          let Q : List ℕ → Type 0 = λ xs. Made same rule labels p.state c a xs rest run' in
          subst Q part (subst P p.stands.rule_is made p.state p.stands)

      pub unmade_here : (c : Call L) (rest : List ℕ) (run' : Run)
          → ((m : Model L) → StandsAt same run.rule.now labels run m → Unmade same run.rule.now labels m c (take (length numbers - handed) (drop handed numbers)) rest run run')
          → Unmade same rule labels p.state c (drop handed numbers) rest run run'
      unmade_here c rest run' unmade =
          let P : Rule → Type 0 = λ r. (m : Model L) → StandsAt same r labels run m → Unmade same r labels m c (take (length numbers - handed) (drop handed numbers)) rest run run' in
          let Q : List ℕ → Type 0 = λ xs. Unmade same rule labels p.state c xs rest run run' in
          subst Q part (subst P p.stands.rule_is unmade p.state p.stands)

      module _ (c : Call L) (a : Answer) (rest : List ℕ) (run' : Run) (in_calls : i < length calls) (is : c ≡ get_or calls i c) (room : length calls ≤ length answers₀)
          (m : Made same rule labels p.state c a (drop handed numbers) rest run') where
        pub still_fits : handed + count_taken (told a) ≤ length numbers₀
        still_fits =
            let f : length m.hands ≤ length (drop handed numbers) = m.filled.fits in
            let g : length (drop handed numbers) ≡ length numbers₀ - handed = ap length behind ∙ length-drop handed numbers₀ in
            let k = m.count in
            omega (arith, p.fits)

        pub playing_more : Playing run' (i + 1) (handed + count_taken (told a)) (set answers i a) (put_mid handed (length numbers - handed) numbers rest)
        playing_more =
            let next : take (i + 1) calls ≡ take i calls ++ c ∷ [] = take_more calls i c in_calls ∙ ap (λ (x : Call L). take i calls ++ x ∷ []) (sym is) in
            let P : List (Call L) → List Told → Type 0 = λ cs ts. Plays nodes tests empty cs ts m.state in
            let d : Answer = get_or answers₀ i a in
            let in_answers : i < length answers₀ = omega arith in
            let long : length p.given ≡ i = p.made in
            record {
              given = p.given ++ a ∷ [];
              state = m.state;
              plays = subst (λ (cs : List (Call L)). P cs (map told (p.given ++ a ∷ []))) (sym next)
                  (subst (λ (ts : List Told). P (take i calls ++ c ∷ []) ts) (sym (map-append told p.given (a ∷ []))) (plays_more nodes tests p.plays m.does));
              stands = m.stands;
              made = length_push p.given a ∙ ap (λ (k : ℕ). k + 1) p.made;
              count = let k = p.count in let n = m.count in
                  omega (arith, ap length m.handed, length-append p.state.handed m.hands);
              fits = still_fits;
              answers_is = ap (λ (xs : List Answer). set xs i a) (p.answers_is ∙ ap (λ (xs : List Answer). p.given ++ xs) (drop_more answers₀ i a in_answers))
                  ∙ set_at p.given d (drop (i + 1) answers₀) a i long
                  ∙ sym (append_assoc p.given (a ∷ []) (drop (i + 1) answers₀));
              numbers_is = put_end handed numbers rest ∙ ap₂ (λ (xs ys : List ℕ). xs ++ ys) front (m.filled.list ∙ ap (λ (xs : List ℕ). m.hands ++ drop (length m.hands) xs) behind
                  ∙ ap (λ (xs : List ℕ). m.hands ++ xs) (drop-drop (length m.hands) handed numbers₀))
                  ∙ sym (append_assoc p.state.handed m.hands (drop (handed + length m.hands) numbers₀))
                  ∙ ap₂ (λ (xs : List ℕ) (k : ℕ). xs ++ drop (handed + k) numbers₀) (sym m.handed) (sym m.count);
            }

      given_first : i ≤ length answers₀ → Filled answers₀ p.given answers
      given_first l = record {
        fits = let k = p.made in omega arith;
        list = p.answers_is ∙ ap (λ (k : ℕ). p.given ++ drop k answers₀) (sym p.made);
      }

      moved_first : Filled numbers₀ p.state.handed numbers
      moved_first = record {
        fits = let k = p.count in let f = p.fits in omega arith;
        list = p.numbers_is ∙ ap (λ (k : ℕ). p.state.handed ++ drop k numbers₀) p.count;
      }

      -- all calls are made
      pub replayed : length calls ≤ i → i ≤ length calls → length calls ≤ length answers₀ → Replayed same rule labels calls answers₀ answers numbers₀ numbers run handed
      replayed all l room = record {
        given = p.given;
        state = p.state;
        all = let k = p.made in omega arith;
        recorded = recorded calls (map told p.given) p.state
            (let P : List (Call L) → Type 0 = λ cs. Plays nodes tests empty cs (map told p.given) p.state in subst P (take_all i calls all) p.plays);
        stands = p.stands;
        handed = p.count;
        given_first = given_first (omega arith);
        handed_first = moved_first;
      }

      -- a taking does not fit
      pub unfinished : (c : Call L) (rest : List ℕ) (run' : Run) → i < length calls → c ≡ get_or calls i c → length calls ≤ length answers₀
          → Unmade same rule labels p.state c (drop handed numbers) rest run run'
          → Unfinished same rule labels calls answers₀ answers numbers₀ (put_mid handed (length numbers - handed) numbers rest) (Some (i, handed))
      unfinished c rest run' in_calls is room u =
          let whole : put_mid handed (length numbers - handed) numbers rest ≡ numbers = put_end handed numbers rest ∙ ap (λ (xs : List ℕ). take handed numbers ++ xs) u.list ∙ take-append-drop handed numbers in
          let there : slice_get calls i ≡ Some (Take u.size) =
          slice_get-get_or calls i c in_calls ∙ ap (λ (x : Call L). Some x) (sym is ∙ u.taking) in
          let short : length numbers₀ < length p.state.handed + min (length p.state.waiting) u.size =
          let s = u.short in
          let g : length (drop handed numbers) ≡ length numbers₀ - handed = ap length behind ∙ length-drop handed numbers₀ in
          let k = p.count in
          let f = p.fits in
          omega arith in
          let E : ℕ → Type 0 = λ k. Unfinished same rule labels calls answers₀ answers numbers₀ (put_mid handed (length numbers - handed) numbers rest) (Some (i, k)) in
          let F : List ℕ → Type 0 = λ xs. Filled numbers₀ p.state.handed xs in
          subst E (sym p.count)
          (Unfinished.few_numbers i u.size p.given p.state room there p.made (recorded (take i calls) (map told p.given) p.state p.plays) short
          (given_first (omega arith)) (subst F (sym whole) moved_first))

  pub few_answers : (calls : List (Call L)) (answers : List Answer) (numbers : List ℕ) → length answers < length calls
      → Unfinished same rule labels calls answers answers numbers numbers None
  few_answers calls answers numbers l = Unfinished.few_answers l refl refl
