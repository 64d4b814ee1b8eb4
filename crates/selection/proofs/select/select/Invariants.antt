use Rattle.std.proofs.Common.{length}
use Rattle.selection.proofs.SelectLaws.{Selecting}
use Rattle.selection.proofs.select.select.Given as goal

abbrev pub invariant-loop-taken : goal.invariant-loop-taken
invariant-loop-taken g l =
    Selecting g.S.Label.PartialEq.eq l.fn.rule l.fn.labels l.fn.numbers (g.S.Source.ending l.fn.source) (g.S.Source.events l.fn.source)
    l.run l.reported l.numbers (g.S.Source.ending l.source) (g.S.Source.events l.source)

abbrev pub decreases-loop-taken : goal.decreases-loop-taken
decreases-loop-taken g l = length (g.S.Source.events l.source)
