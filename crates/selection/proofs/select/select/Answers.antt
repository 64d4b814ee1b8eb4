use Rattle.std.proofs.Common.{Ok, ap, ◌∙◌, arith}
use Rattle.selection.proofs.SelectLaws.{more, fits, finished, stopped}
use Rattle.selection.proofs.select.select.Goals as goal

pub overflow_add-reported : goal.overflow_add-reported
overflow_add-reported g c =
    let f = fits _ _ _ _ _ _ c.loop-taken.run c.loop-taken.reported c.loop-taken.numbers _ _ c.loop-taken.invariant c.advance.ensures.advances c.in-Ok-Some.taken
    (c.in-Ok-Some.is ∙ ap Ok c.in-Ok-Some.field-0-is) in
    omega (arith, f, c.loop-taken.auto.numbers)

pub loop-taken-preserved : goal.loop-taken-preserved
loop-taken-preserved g c =
    more _ _ _ _ _ _ c.loop-taken.run c.loop-taken.reported c.loop-taken.numbers _ _ c.loop-taken.invariant c.advance.ensures.advances c.in-Ok-Some.taken
    (c.in-Ok-Some.is ∙ ap Ok c.in-Ok-Some.field-0-is) _ _ c.advance.ensures.others c.advance.ensures.ending

pub returns-in-Ok-None-clause-selection : goal.returns-in-Ok-None-clause-selection
returns-in-Ok-None-clause-selection g c =
    finished _ _ _ _ _ _ c.loop-taken.run c.loop-taken.reported c.loop-taken.numbers _ _ c.loop-taken.invariant c.advance.ensures.advances
    (c.in-Ok-None.is ∙ ap Ok c.in-Ok-None.field-0-is) _ c.advance.ensures.others (g.met.S.Source.nested c.args.source.now)

pub returns-in-Err-clause-selection : goal.returns-in-Err-clause-selection
returns-in-Err-clause-selection g c =
    stopped _ _ _ _ _ _ c.loop-taken.run c.loop-taken.reported c.loop-taken.numbers _ _ c.loop-taken.invariant c.advance.ensures.advances c.in-Err.cause c.in-Err.is
    _ c.advance.ensures.others c.openings.result c.openings.ensures
