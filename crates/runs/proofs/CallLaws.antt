-- A call has one answer and one next state.
use Rattle.std.proofs.Common.{◌≡◌, ℕ, ◌<◌, ◌≤◌, Bool, true, false, ◌||◌, ◌==◌, ◌⊎◌, List, [], ◌∷◌, length, Decides, refl, ap, inl, inr, arith}
use Rattle.std.specs.List.{slice_get}
use Rattle.std.proofs.lemmas.Bool.{cases_lt}
use Rattle.std.proofs.lemmas.Bool.Decides.{Decides-or, Decides-eqb, not_from_Decides}
use Rattle.std.proofs.lemmas.List.{length-append, length-drop}
use Rattle.rules.specs.declared.node.RuleNode.{RuleNode}
use Rattle.rules.specs.RuleNodes.{rule_nodes}
use Rattle.rules.specs.Rule.{Ordered, any_of}
use Rattle.rules.specs.Embedding.{Meets, ParentsFirst}
use Rattle.runs.specs.declared.call.Call.{Call}
use Rattle.runs.specs.declared.call.Call.TheVariants.{Open, Close, Drop, Take}
use Rattle.runs.specs.Bits.{bit, Has}
use Rattle.runs.specs.Limits.{depth_limit, waiting_limit, openings_limit}
use Rattle.runs.specs.Answers.{Told}
use Rattle.runs.specs.Model.{Model, empty, innermost, Does, Plays}
use Rattle.runs.specs.Laws.{OneAnswer, CallsAnswered}
use Rattle.runs.proofs.OccursTest.{holds, holds_decides, occurs_at, occurs_at_decides}
use Rattle.runs.proofs.PlayLaws.{does_one}
use Rattle.runs.proofs.SelectedLaws.{empty_sound, plays_sound}

module _ {A : Type 0} (rule : List RuleNode) (meets : A → ℕ → Type 0) where
  -- within the limits
  record Limited (m : Model A) : Type 0 where
    few_open : length m.path ≤ depth_limit
    few_nodes : length m.nodes ≤ openings_limit
    few_wait : length m.waiting ≤ waiting_limit

  empty_limited : Limited empty
  empty_limited = record { few_open = omega arith; few_nodes = omega arith; few_wait = omega arith }

  -- one open node less
  shorter : (m : Model A) (v : ℕ) (vs : List ℕ) → m.path ≡ v ∷ vs → Limited m → length vs ≤ depth_limit
  shorter m v vs e l = let f = l.few_open in let g : length m.path ≡ length (v ∷ vs) = ap length e in omega arith

  does_limited : {m m' : Model A} {c : Call A} {t : Told} → Limited m → Does rule meets m c t m' → Limited m'
  does_limited l (Does.too_deep a e) = l
  does_limited l (Does.too_many a e f) = l
  does_limited {m} l (Does.opens a e f) = record {
    few_open = omega arith;
    few_nodes = omega (arith, length-append m.nodes ((innermost m.path, a) ∷ []));
    few_wait = l.few_wait;
  }
  does_limited l (Does.none_to_close e) = l
  does_limited l (Does.waiting_full v vs e o f) = l
  does_limited {m} l (Does.selects v vs e o f) = record {
    few_open = shorter m v vs e l;
    few_nodes = l.few_nodes;
    few_wait = omega (arith, length-append m.waiting (v ∷ []));
  }
  does_limited {m} l (Does.passes v vs e n) = record {
    few_open = shorter m v vs e l;
    few_nodes = l.few_nodes;
    few_wait = let w = l.few_wait in omega (arith, length-append m.waiting []);
  }
  does_limited l (Does.none_to_drop e) = l
  does_limited {m} l (Does.drops v vs e) = record { few_open = shorter m v vs e l; few_nodes = l.few_nodes; few_wait = l.few_wait }
  does_limited {m} l (Does.takes n) = record {
    few_open = l.few_open;
    few_nodes = l.few_nodes;
    few_wait = let w = l.few_wait in omega (arith, length-drop n m.waiting);
  }

  plays_limited : {m m' : Model A} {cs : List (Call A)} {ts : List Told} → Limited m → Plays rule meets m cs ts m' → Limited m'
  plays_limited l Plays.done = l
  plays_limited l (Plays.more d p) = plays_limited (does_limited l d) p

  module _ (meets_test : A → ℕ → Bool) (ordered : Ordered rule) (some : 0 < length rule)
      (decides : (a : A) (x : ℕ) → Decides (meets_test a x) (meets a x)) where
    -- there is an answer and a next state
    abbrev Answered : Model A → Call A → Type 0
    Answered m c = (t : Told) × (m' : Model A) × Does rule meets m c t m'

    opening_answered : (m : Model A) (a : A) → Limited m → Answered m (Open a)
    opening_answered m a l = by_depth (cases_lt (length m.path) depth_limit) (cases_lt (length m.nodes) openings_limit)
      where
        by_depth : ((length m.path < depth_limit) ⊎ (depth_limit ≤ length m.path)) → ((length m.nodes < openings_limit) ⊎ (openings_limit ≤ length m.nodes)) → Answered m (Open a)
        by_depth (inl d) (inl n) = (_, _, Does.opens a d n)
        by_depth (inl d) (inr n) = let f = l.few_nodes in (_, _, Does.too_many a d (omega arith))
        by_depth (inr d) n = let f = l.few_open in (_, _, Does.too_deep a (omega arith))

    closing_answered : (m : Model A) (p : List ℕ) → m.path ≡ p → Limited m → ParentsFirst m.nodes → Answered m Close
    closing_answered m [] e l first = (_, _, Does.none_to_close e)
    closing_answered m (v ∷ vs) e l first = go (occurs_at rule meets_test m v) refl (cases_lt (length m.waiting) waiting_limit)
      where
        go : (b : Bool) → occurs_at rule meets_test m v ≡ b → ((length m.waiting < waiting_limit) ⊎ (waiting_limit ≤ length m.waiting)) → Answered m Close
        go true h (inl w) = (_, _, Does.selects v vs e ((occurs_at_decides rule meets_test meets ordered some decides m first v).0 h) w)
        go true h (inr w) =
            let f = l.few_wait in
            (_, _, Does.waiting_full v vs e ((occurs_at_decides rule meets_test meets ordered some decides m first v).0 h) (omega arith))
        go false h w = (_, _, Does.passes v vs e (not_from_Decides _ (occurs_at_decides rule meets_test meets ordered some decides m first v) h))

    dropping_answered : (m : Model A) (p : List ℕ) → m.path ≡ p → Answered m Drop
    dropping_answered m [] e = (_, _, Does.none_to_drop e)
    dropping_answered m (v ∷ vs) e = (_, _, Does.drops v vs e)

    answered : (m : Model A) (c : Call A) → Limited m → ParentsFirst m.nodes → Answered m c
    answered m (Open a) l first = opening_answered m a l
    answered m Close l first = closing_answered m m.path refl l first
    answered m Drop l first = dropping_answered m m.path refl
    answered m (Take n) l first = (_, _, Does.takes n)

    one_answer : OneAnswer rule meets
    one_answer = record {
      one = λ m m₁ m₂ c t₁ t₂ d e. does_one rule meets e d;
      some = λ calls ts m p c. answered m c (plays_limited empty_limited p)
          (plays_sound rule meets ordered some (empty_sound rule meets ordered some) p).parents;
    }

pub calls_answered : {L : Type 0} (same : L → L → Bool) → CallsAnswered same
calls_answered {L} same = record {
  by_labels = λ rule labels.
      let rs = rule_nodes rule in
      one_answer rs (Meets same rs labels) (λ l x. any_of rs x || holds (slice_get labels x) (λ w. same l w)) rule.ordered rule.some
      (λ l x. Decides-or _ _ (λ e. e, λ e. e) (holds_decides (slice_get labels x) _ (λ w. same l w ≡ true) (λ w. (λ e. e, λ e. e))));
  by_sets = λ rule. one_answer (rule_nodes rule) Has (λ w x. bit w x == 1) rule.ordered rule.some (λ w x. Decides-eqb (bit w x) 1);
}
