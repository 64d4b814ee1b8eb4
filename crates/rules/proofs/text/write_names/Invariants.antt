use Rattle.std.proofs.Common.{◌≡◌, length, take}
use Rattle.rules.specs.ReadText.{NamesIn}
use Rattle.rules.proofs.text.write_names.Given as goal

abbrev pub invariant-loop-i : goal.invariant-loop-i
invariant-loop-i g l = (length l.names ≡ length l.initial.names) × NamesIn g.N.NameLabel.spelled l.text (take l.i l.nodes) l.initial.names l.names
