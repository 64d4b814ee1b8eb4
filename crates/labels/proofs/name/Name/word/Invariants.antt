use Rattle.std.proofs.Common.{◌≡◌, ◌^◌, ◌<◌, take}
use Rattle.labels.specs.Names.{digits}
use Rattle.labels.proofs.name.Name.word.Given as goal

abbrev pub invariant-loop-b : goal.invariant-loop-b
invariant-loop-b l = (digits l.b-index l.word ≡ take l.b-index l.bytes) × (l.word < 256 ^ l.b-index)
