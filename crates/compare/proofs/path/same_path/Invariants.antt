use Rattle.std.proofs.Common.{◌↔◌}
use Rattle.compare.specs.Paths.{entries, SamePath}
use Rattle.compare.proofs.path.same_path.Given as goal

abbrev pub invariant-loop-left : goal.invariant-loop-left
invariant-loop-left l = SamePath (entries l.first) (entries l.second) l.fn.u l.fn.v ↔ SamePath (entries l.first) (entries l.second) l.one l.two

abbrev pub decreases-loop-left : goal.decreases-loop-left
decreases-loop-left l = l.one
