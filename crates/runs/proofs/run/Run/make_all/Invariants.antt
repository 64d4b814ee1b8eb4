use Rattle.runs.proofs.ReplayLaws.{Playing}
use Rattle.runs.proofs.run.Run.make_all.Given as goal

abbrev pub invariant-loop-i : goal.invariant-loop-i
invariant-loop-i g l = Playing g.L.PartialEq.eq l.fn.self.rule.now l.labels l.calls l.fn.answers l.fn.numbers l.self l.i l.handed l.answers l.numbers
