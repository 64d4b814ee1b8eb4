use Rattle.std.proofs.Common.{subst}
use Rattle.xml.specs.Inner.{Steps}
use Rattle.xml.specs.Inner.Passes.{here, on}
use Rattle.xml.proofs.Between.{passes_on}
use Rattle.xml.proofs.skip.skip.Goals as goal

pub loop-next-init : goal.loop-next-init
loop-next-init c = (λ h. h, here)

pub loop-next-preserved-then-is_text : goal.loop-next-preserved-then-is_text
loop-next-preserved-then-is_text c =
    let h = subst (Steps c.args.input.now c.args.inside c.loop-next.place) c.in-Continue.is c.in_ok-next.ensures in
    let t = c.text_end.ensures h.2 in
    (λ _. t.within, passes_on _ _ _ _ _ (on c.loop-next.invariant.1 h.0) t.passes)

pub loop-next-preserved : goal.loop-next-preserved
loop-next-preserved c =
    let h = subst (Steps c.args.input.now c.args.inside c.loop-next.place) c.in-Continue.is c.in_ok-next.ensures in
    (λ _. h.2, on c.loop-next.invariant.1 h.0)
