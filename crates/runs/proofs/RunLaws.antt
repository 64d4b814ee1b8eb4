-- A run as a value, and its calls as calls of the reference model.
use Rattle.std.proofs.Common.{◌≡◌, ℕ, min, Bool, List, [], ◌++◌, length, take, drop, Some, Ok, Err, OnErr, Result, refl, sym, ap, ◌∙◌, subst, arith}
use mathlib.Core.HLevel.{is_prop→PathP}
use mathlib.Core.Logic.{∥∥₁_prop, ∥∥₁_map}
use Rattle.std.proofs.lemmas.Option.{slice_get_within}
use Rattle.rules.specs.declared.node.RuleNode.{RuleNode}
use Rattle.rules.specs.declared.rule.Rule.{Rule}
use Rattle.rules.specs.RuleNodes.{rule_nodes}
use Rattle.runs.specs.declared.refusal.Refusal.{Refusal}
use Rattle.runs.specs.declared.levels.Levels.{Levels}
use Rattle.runs.specs.declared.run.Run.{Run}
use Rattle.runs.specs.declared.call.Call.TheVariants.{Close, Drop}
use Rattle.runs.specs.Bits.{SetOf}
use Rattle.runs.specs.Words.{Words, words, no_words, stacked}
use Rattle.runs.specs.LevelCalls.{Opens, Closes, Drops, Takes}
use Rattle.runs.specs.Answers.{told_by, opened, closed, dropped}
use Rattle.runs.specs.Model.{empty, taking}
use Rattle.runs.specs.Stands.{SetModel, Stands, Shows}
use Rattle.runs.specs.Calls.{Moves, MovesOpen, MovesTake}
use Rattle.runs.proofs.WordLaws.{length_stacked, length_queued}
use Rattle.runs.proofs.OpenSim.{open_sim, drop_sim, same_length}
use Rattle.runs.proofs.CloseSim.{close_sim}
use Rattle.runs.proofs.TakeSim.{take_does, take_list, take_shows}

-- a run whose state is as it was is as it was
pub run_kept : {T : Type 0} (run run' : Run) (r : Result T Refusal) → run'.rule ≡ run.rule → OnErr r (run'.state ≡ run.state) → OnErr r (run' ≡ run)
run_kept run run' (Ok x) e k = tt
run_kept run run' (Err x) e k = λ i. record {
  rule = e i;
  state = k i;
  real = is_prop→PathP (λ i. ∥ ((m : SetModel) × Stands (rule_nodes (e i).now) (k i) m) ∥₁) (λ i. ∥∥₁_prop) run'.real run.real i;
}

-- nothing open shows the empty model
pub new_shows : (rule : List RuleNode) → Shows rule no_words empty
new_shows rule = record {
  opened = refl;
  waiting = refl;
  levels = tt;
  chain = tt;
  parents = λ v u l e. let w = slice_get_within [] v (Some u, l) e in absurd (omega arith);
  inside = λ d i. absurd i;
}

module _ (rule : Rule) (s : Levels) where
  abbrev nodes : List RuleNode
  nodes = rule_nodes rule

  -- the state stands for some state of the model
  abbrev Real : Levels → Type 0
  Real t = ∥ ((m : SetModel) × Stands nodes t m) ∥₁

  pub new_stands : words s ≡ no_words → Stands nodes s empty
  new_stands e = let P : Words → Type 0 = λ w. Shows nodes w empty in subst P (sym e) (new_shows nodes)

  pub new_real : words s ≡ no_words → Real s
  new_real e = ∣ (empty, new_stands e) ∣₁

  pub depth_tells : (m : SetModel) → Stands nodes s m → s.depth ≡ length m.path
  depth_tells m h = sym (length_stacked s.open s.depth) ∙ same_length nodes m m.path (stacked s.open s.depth) h.levels

  pub opened_tells : (m : SetModel) → Stands nodes s m → s.opened ≡ length m.nodes
  opened_tells m h = h.opened

  pub waiting_tells : (m : SetModel) → Stands nodes s m → s.waiting ≡ length m.waiting
  waiting_tells m h = sym (length_queued s.ring s.head s.waiting) ∙ ap length h.waiting

  module _ (s' : Levels) where
    pub open_moves : (meets : ℕ → Type 0) (w : ℕ) (r : Result ℕ Refusal) → SetOf nodes meets w → Opens w (words s) r (words s')
        → MovesOpen nodes s meets (told_by opened r) s'
    open_moves meets w r b k = record { set = w; members = b; moves = record { model = λ m h. open_sim nodes m w h k } }

    pub open_real : (w : ℕ) (r : Result ℕ Refusal) → Real s → Opens w (words s) r (words s') → Real s'
    open_real w r h k = ∥∥₁_map h (λ x. let d = open_sim nodes x.0 w x.1 k in (d.0, d.2))

    pub close_moves : (r : Result Bool Refusal) → Closes nodes (words s) r (words s') → Moves nodes s Close (told_by closed r) s'
    close_moves r k = record { model = λ m h. close_sim nodes rule.ordered rule.some m h k }

    pub close_real : (r : Result Bool Refusal) → Real s → Closes nodes (words s) r (words s') → Real s'
    close_real r h k = ∥∥₁_map h (λ x. let d = close_sim nodes rule.ordered rule.some x.0 x.1 k in (d.0, d.2))

    pub drop_moves : (r : Result (Unit {0}) Refusal) → Drops (words s) r (words s') → Moves nodes s Drop (told_by (λ _. dropped) r) s'
    drop_moves r k = record { model = λ m h. drop_sim nodes m h k }

    pub drop_real : (r : Result (Unit {0}) Refusal) → Real s → Drops (words s) r (words s') → Real s'
    drop_real r h k = ∥∥₁_map h (λ x. let d = drop_sim nodes x.0 x.1 k in (d.0, d.2))

    module _ (xs ys : List ℕ) (n : ℕ) (count : n ≡ min (length (words s).waiting) (length xs)) (list : ys ≡ take n (words s).waiting ++ drop n xs)
        (after : words s' ≡ record { stack = (words s).stack; opened = s.opened; waiting = drop n (words s).waiting }) where
      took : Takes (words s) xs n ys (words s')
      took = record { count = count; list = list; after = after }

      pub take_moves : MovesTake nodes s xs n ys s'
      take_moves = record {
        moves = record {
          model = λ m h. (taking m (length xs), take_does nodes m (words s) (words s') xs ys n h took, take_shows nodes m (words s) (words s') xs ys n h took);
        };
        fits = omega arith;
        list = λ m h. take_list nodes m (words s) (words s') xs ys n h took;
      }

      pub take_real : Real s → Real s'
      take_real h = ∥∥₁_map h (λ x. (taking x.0 (length xs), take_shows nodes x.0 (words s) (words s') xs ys n x.1 took))
