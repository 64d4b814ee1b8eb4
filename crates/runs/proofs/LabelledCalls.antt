-- The calls of a run, on the states of the reference model whose nodes carry labels.
use Rattle.std.proofs.Common.{◌≡◌, ℕ, min, Bool, List, ◌++◌, length, take, drop, sym, refl, ap, ap₂, ◌∙◌, subst, arith}
use Rattle.std.proofs.lemmas.List.{length-take}
use Rattle.rules.specs.declared.node.RuleNode.{RuleNode}
use Rattle.rules.specs.declared.rule.Rule.{Rule}
use Rattle.rules.specs.RuleNodes.{rule_nodes}
use Rattle.rules.specs.Embedding.{Meets}
use Rattle.runs.specs.declared.run.Run.{Run}
use Rattle.runs.specs.declared.call.Call.{Call}
use Rattle.runs.specs.declared.call.Call.TheVariants.{Open, Close, Drop, Take}
use Rattle.runs.specs.Bits.{Has, SetOf}
use Rattle.runs.specs.Answers.{Told, taken}
use Rattle.runs.specs.Model.{Model, Does, taking}
use Rattle.runs.specs.Stands.{SetModel, Stands}
use Rattle.runs.specs.Calls.{rule_nodes_of, Moves, Opening, Steps, Taking}
use Rattle.runs.specs.Journal.{Filled, meets, StandsAt, Carried}
use Rattle.runs.proofs.CarriedLaws.{lift_open, lift_close, lift_drop, taking_carried}
use Rattle.runs.proofs.TakeSim.{taken_min}

-- what a taking does
took : (rule : List RuleNode) (t : SetModel) (k : ℕ) {r : Told} {t' : SetModel} → Does rule Has t (Take k) r t' → (r ≡ taken (min (length t.waiting) k)) × (t' ≡ taking t k)
took rule t k (Does.takes j) = (refl, refl)

taken_inj : (n k : ℕ) → taken n ≡ taken k → n ≡ k
taken_inj n k e = cc

module _ {L : Type 0} (same : L → L → Bool) (rule : Rule) (labels : List L) (m : Model L) (run run' : Run) (at : StandsAt same rule labels run m) where
  abbrev nodes : List RuleNode
  nodes = rule_nodes rule

  abbrev tests : L → ℕ → Type 0
  tests = meets same rule labels

  -- the model does the call, with this to tell, and the run stands for its next state
  pub record Played (c : Call L) (r : Told) : Type 0 where
    pub state : Model L
    pub does : Does nodes tests m c r state
    pub stands : StandsAt same rule labels run' state

  here : Stands (rule_nodes_of run) run.state at.sets
  here = let P : Rule → Type 0 = λ r. Stands (rule_nodes r) run.state at.sets in subst P (sym at.rule_is) at.stands

  there : (t' : SetModel) → Stands (rule_nodes_of run) run'.state t' → Stands nodes run'.state t'
  there t' s = let P : Rule → Type 0 = λ r. Stands (rule_nodes r) run'.state t' in subst P at.rule_is s

  by_rule : (k : Call ℕ) (r : Told) (t' : SetModel) → Does (rule_nodes_of run) Has at.sets k r t' → Does nodes Has at.sets k r t'
  by_rule k r t' d = let P : Rule → Type 0 = λ q. Does (rule_nodes q) Has at.sets k r t' in subst P at.rule_is d

  played : run'.rule.now ≡ run.rule.now → (c : Call L) (k : Call ℕ) (r : Told) → Moves (rule_nodes_of run) run.state k r run'.state
      → ((t' : SetModel) → Does nodes Has at.sets k r t' → (m' : Model L) × Does nodes tests m c r m' × Carried nodes tests m' t') → Played c r
  played rules c k r moves lift =
      let n = moves.model at.sets here in
      let q = lift n.0 (by_rule k r n.0 n.1) in
      record { state = q.0; does = q.1; stands = record { rule_is = rules ∙ at.rule_is; sets = n.0; stands = there n.0 n.2; carried = q.2 } }

  pub played_open : (l : L) (r : Told) → Opening same run labels l r run' → Played (Open l) r
  played_open l r o =
      let Q : Rule → Type 0 = λ q. SetOf (rule_nodes q) (Meets same (rule_nodes q) labels l) o.moves.set in
      played o.rule (Open l) (Open o.moves.set) r o.moves.moves
      (λ t' d. lift_open nodes tests m at.sets at.carried l o.moves.set (subst Q at.rule_is o.moves.members) d)

  pub played_close : (r : Told) → Steps run Close r run' → Played Close r
  played_close r o = played o.rule Close Close r o.moves (λ t' d. lift_close nodes tests m at.sets at.carried d)

  pub played_drop : (r : Told) → Steps run Drop r run' → Played Drop r
  played_drop r o = played o.rule Drop Drop r o.moves (λ t' d. lift_drop nodes tests m at.sets at.carried d)

  -- a taking fills the front of the list with the oldest waiting numbers
  module _ (xs ys : List ℕ) (n : ℕ) (o : Taking run xs n ys run') where
    next : (t' : SetModel) × Does (rule_nodes_of run) Has at.sets (Take (length xs)) (taken n) t' × Stands (rule_nodes_of run) run'.state t'
    next = o.moves.moves.model at.sets here

    did : (taken n ≡ taken (min (length at.sets.waiting) (length xs))) × (next.0 ≡ taking at.sets (length xs))
    did = took (rule_nodes_of run) at.sets (length xs) next.1

    waits : length at.sets.waiting ≡ length m.waiting
    waits = ap length at.carried.waiting

    pub taken_count : n ≡ min (length m.waiting) (length xs)
    taken_count = let e = taken_inj n _ did.0 in let w = waits in omega arith

    pub taken_stands : StandsAt same rule labels run' (taking m (length xs))
    taken_stands =
        let T : SetModel → Type 0 = λ x. Stands nodes run'.state x in
        record {
          rule_is = o.rule ∙ at.rule_is;
          sets = taking at.sets (length xs);
          stands = subst T did.1 (there next.0 next.2);
          carried = taking_carried nodes tests m at.sets at.carried (length xs);
        }

    hands : take n at.sets.waiting ≡ take (length xs) m.waiting
    hands = let w = waits in let c = taken_count in (taken_min at.sets.waiting (length xs) n (omega arith)).0 ∙ ap (take (length xs)) at.carried.waiting

    pub hands_count : length (take (length xs) m.waiting) ≡ n
    hands_count = let c = taken_count in length-take (length xs) m.waiting ∙ omega arith

    pub taken_filled : Filled xs (take (length xs) m.waiting) ys
    taken_filled = record {
      fits = let c = hands_count in let f = o.moves.fits in omega arith;
      list = o.moves.list at.sets here ∙ ap₂ (λ (hs : List ℕ) (k : ℕ). hs ++ drop k xs) hands (sym hands_count);
    }
