use Rattle.std.proofs.Common.{◌-◌, ◌≤◌, length}
use Rattle.xml.specs.Inner.{Passes}
use Rattle.xml.proofs.skip.skip.Given as goal

abbrev pub invariant-loop-next : goal.invariant-loop-next
invariant-loop-next l = (l.initial.place ≤ length l.input → l.place ≤ length l.input) × Passes l.input l.inside l.initial.place l.place

abbrev pub decreases-loop-next : goal.decreases-loop-next
decreases-loop-next l = length l.input - l.place
