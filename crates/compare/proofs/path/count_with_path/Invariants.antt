use Rattle.std.proofs.Common.{take}
use Rattle.compare.specs.Paths.{entries, Counted}
use Rattle.compare.proofs.path.count_with_path.Given as goal

abbrev pub invariant-loop-v : goal.invariant-loop-v
invariant-loop-v l = Counted (entries l.first) l.u (entries l.second) (take l.v-index l.vs) l.count
