use Rattle.std.proofs.Common.{◌↔◌, drop}
use Rattle.compare.specs.Paths.{entries, AllSameOften}
use Rattle.compare.proofs.path.all_same_often.Given as goal

abbrev pub invariant-loop-u : goal.invariant-loop-u
invariant-loop-u l =
    AllSameOften (entries l.first) l.ones (entries l.second) l.twos l.ones ↔ AllSameOften (entries l.first) l.ones (entries l.second) l.twos (drop l.u-index l.ones)
