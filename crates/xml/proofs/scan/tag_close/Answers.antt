use Rattle.std.proofs.Common.{◌≡◌, true, false, ◌||◌, eqb, sym, ◌∙◌, subst, arith, ltb-false, ltb-true}
use Rattle.std.proofs.lemmas.Bool.{or_from, or_left, or_right, ne_eqb, both_ways}
use Rattle.labels.specs.Spelling.{byte_at, is_white}
use Rattle.xml.specs.Markup.TagFault.{ended, byte_behind}
use Rattle.xml.specs.Shapes.{from_place}
use Rattle.xml.proofs.Ends.{slash_closes, bracket_closes}
use Rattle.xml.proofs.scan.tag_close.Goals as goal
use Rattle.xml.proofs.scan.tag_close.Goals.{then-is_white, else-is_white}

pub returns-in-empty : goal.returns-in-empty
returns-in-empty c = let s = from_place c.args.input.now c.rest.result.now c.args.at c.rest.ensures in ended (omega (arith, ltb-true, ltb-false, s.long))

pub returns-in-47 : goal.returns-in-47
returns-in-47 c =
    let s = from_place c.args.input.now c.rest.result.now c.args.at c.rest.ensures in
    slash_closes c.args.input.now c.args.at c.close_at.result (omega (arith, s.first)) c.close_at.ensures

pub returns-then-b-eq62 : goal.returns-then-b-eq62
returns-then-b-eq62 c =
    let xs = c.args.input.now in
    let s = from_place xs c.rest.result.now c.args.at c.rest.ensures in
    let first = byte_at c.rest.result.now 0 in
    let h : (is_white first || eqb first 62) ≡ true =
    elim c.if-is_white.branch [
      | then-is_white w ↦ or_left (is_white first) (eqb first 62) (sym w.if-is_white.ensures)
      | else-is_white w ↦ or_right (is_white first) (eqb first 62) (sym w.value-is ∙ c.if-b-eq62.true)
    ] in
    bracket_closes xs c.args.at c.close_at-then-b-eq62.result (subst (λ b. (is_white b || eqb b 62) ≡ true) s.first h) c.bracket_place.result
    (c.bracket_place.ensures (omega (arith, ltb-true, ltb-false, s.long))) c.close_at-then-b-eq62.ensures

pub returns-else-b-eq62 : goal.returns-else-b-eq62
returns-else-b-eq62 c =
    let s = from_place c.args.input.now c.rest.result.now c.args.at c.rest.ensures in
    let first = byte_at c.rest.result.now 0 in
    let h : (is_white first || (eqb first 47 || eqb first 62)) ≡ false =
    elim c.if-is_white.branch [
      | then-is_white w ↦ absurd (both_ways _ c.if-b-eq62.false (w.value-is ∙ w.if-is_white.true))
      | else-is_white w ↦ or_from _ _ (sym w.if-is_white.ensures) (or_from _ _ (ne_eqb first 47 (λ e. omega arith)) (sym w.value-is ∙ c.if-b-eq62.false))
    ] in
    byte_behind (omega (arith, ltb-true, ltb-false, s.long)) (subst (λ b. (is_white b || (eqb b 47 || eqb b 62)) ≡ false) s.first h)
