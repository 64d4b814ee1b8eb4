use Rattle.std.proofs.Common.{take}
use Rattle.compare.specs.Paths.{entries}
use Rattle.compare.specs.Adding.{LinesAdded}
use Rattle.compare.proofs.printing.push_paths.Given as goal

abbrev pub invariant-loop-number : goal.invariant-loop-number
invariant-loop-number l = LinesAdded (entries l.nodes) (take l.number-index l.numbers) l.fn.text.items l.text.items
