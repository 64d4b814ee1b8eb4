use Rattle.std.proofs.Common.{◌≡◌, ◌++◌, take, drop}
use Rattle.runs.specs.Words.{queued}
use Rattle.runs.proofs.levels.Levels.take.Given as goal

abbrev pub invariant-loop-i : goal.invariant-loop-i
invariant-loop-i l = l.slot-items ≡ take l.i (queued l.self.ring l.self.head l.self.waiting) ++ drop l.i l.initial.slot-items
