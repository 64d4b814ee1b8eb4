-- The events that are left after some were heard.
use Rattle.std.proofs.Common.{◌≡◌, ℕ, ◌+◌, ◌≤◌, List, [], ◌∷◌, length, drop, ap, ◌∙◌, refl, arith}
use Rattle.std.proofs.lemmas.List.{length-drop, drop-drop}
use Rattle.sources.specs.declared.event.Event.{Event}
use Rattle.sources.specs.Events.{rest}

module _ {L : Type 0} (es : List (Event L)) (k : ℕ) where
  -- none is left: all were heard
  pub all_heard : k ≤ length es → drop k es ≡ [] → k ≡ length es
  all_heard few e = let l = ap length e in omega (arith, length-drop k es)

  -- one is left: one more can be heard
  pub one_left : (e : Event L) (fs : List (Event L)) → drop k es ≡ e ∷ fs → k + 1 ≤ length es
  one_left e fs is = let l = ap length is in omega (arith, length-drop k es)

rest_is : {L : Type 0} (es : List (Event L)) → rest es ≡ drop 1 es
rest_is [] = refl
rest_is (e ∷ es) = refl

pub rest_drop : {L : Type 0} (es : List (Event L)) (k : ℕ) → rest (drop k es) ≡ drop (k + 1) es
rest_drop es k = rest_is (drop k es) ∙ drop-drop 1 k es

-- so many and no fewer
pub heard_out : {L : Type 0} (es fs : List (Event L)) (k n : ℕ) → fs ≡ drop k es → k ≤ n → n ≤ k → fs ≡ drop n es
heard_out es fs k n e h g = let s : k ≡ n = omega arith in e ∙ ap (λ i. drop i es) s
