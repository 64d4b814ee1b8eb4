use Rattle.std.proofs.Common.{◌≡◌, ◌≤◌, length, drop}
use Rattle.sources.proofs.drain.drained.Given as goal

abbrev pub invariant-loop-count : goal.invariant-loop-count
invariant-loop-count g l =
    (l.count ≤ length (g.S.Source.events l.initial.source))
    × (g.S.Source.events l.source ≡ drop l.count (g.S.Source.events l.initial.source))
    × (g.S.Source.ending l.source ≡ g.S.Source.ending l.initial.source)
