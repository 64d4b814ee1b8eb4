-- A taking of the run is one of the reference model.
use Rattle.std.proofs.Common.{◌≡◌, ℕ, min, List, ◌++◌, length, take, drop, sym, ap, ◌∙◌, subst, arith}
use Rattle.std.proofs.lemmas.List.{take_min, drop_min}
use Rattle.rules.specs.declared.node.RuleNode.{RuleNode}
use Rattle.runs.specs.declared.call.Call.TheVariants as call
use Rattle.runs.specs.Bits.{Has}
use Rattle.runs.specs.Words.{Words}
use Rattle.runs.specs.LevelCalls.{Takes}
use Rattle.runs.specs.Answers.{taken}
use Rattle.runs.specs.Model.{taking, Does}
use Rattle.runs.specs.Stands.{SetModel, Shows}
use Rattle.runs.proofs.LevelLaws.{levels_keep}

-- as many as there are, or n
pub taken_min : (ws : List ℕ) (n r : ℕ) → r ≡ min (length ws) n → (take r ws ≡ take n ws) × (drop r ws ≡ drop n ws)
taken_min ws n r e =
    let f : r ≡ min n (length ws) = omega arith in
    (ap (λ (k : ℕ). take k ws) f ∙ take_min n ws, ap (λ (k : ℕ). drop k ws) f ∙ drop_min n ws)

module _ (rule : List RuleNode) (m : SetModel) (s s' : Words) (xs ys : List ℕ) (n : ℕ) (h : Shows rule s m) (k : Takes s xs n ys s') where
  count : n ≡ min (length m.waiting) (length xs)
  count = k.count ∙ ap (λ (ws : List ℕ). min (length ws) (length xs)) h.waiting

  pub take_does : Does rule Has m (call.Take (length xs)) (taken n) (taking m (length xs))
  take_does = subst (λ (r : ℕ). Does rule Has m (call.Take (length xs)) (taken r) (taking m (length xs))) (sym count) (Does.takes (length xs))

  pub take_list : ys ≡ take n m.waiting ++ drop n xs
  take_list = k.list ∙ ap (λ (ws : List ℕ). take n ws ++ drop n xs) h.waiting

  pub take_shows : Shows rule s' (taking m (length xs))
  take_shows =
      let P : Words → Type 0 = λ q. Shows rule q (taking m (length xs)) in
      subst P (sym k.after) (record {
        opened = h.opened;
        waiting = ap (λ (ws : List ℕ). drop n ws) h.waiting ∙ (taken_min m.waiting (length xs) n count).1;
        levels = levels_keep rule m (taking m (length xs)) m.path s.stack
            (λ u l i q. record { number = q.number; met = q.met; child = q.child; below = q.below }) h.levels;
        chain = h.chain;
        parents = h.parents;
        inside = h.inside;
      })
