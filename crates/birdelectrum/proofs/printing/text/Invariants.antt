use Rattle.std.proofs.Common.{◌≡◌, take}
use Rattle.std.specs.List.{flat_map}
use Rattle.birdelectrum.specs.Printed.{number_line}
use Rattle.birdelectrum.proofs.printing.text.Given as goal

abbrev pub invariant-loop-number : goal.invariant-loop-number
invariant-loop-number l = l.text.bytes.items ≡ flat_map number_line (take l.number-index l.numbers)
