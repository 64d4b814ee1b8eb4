use Rattle.std.proofs.Common.{◌≡◌, ◌≤◌, length, take}
use Rattle.labels.specs.Names.{bytes_of}
use Rattle.labels.proofs.name.Name.to_bytes.Given as goal

abbrev pub invariant-loop-at : goal.invariant-loop-at
invariant-loop-at l = (l.bytes.items ≡ take l.at (bytes_of l.self)) × (l.at ≤ length (bytes_of l.self))
