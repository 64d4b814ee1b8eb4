use Rattle.std.proofs.Common.{◌+◌, ◌*◌}
use Rattle.rules.proofs.Going.{unread, Along, Past}
use Rattle.rules.proofs.reader.Reader.+path_predicate_step.Given as goal

abbrev pub decreases-path : goal.decreases-path
decreases-path l = 2 * unread l.self.now + 1

abbrev pub decreases-predicate : goal.decreases-predicate
decreases-predicate l = 2 * unread l.self.now

abbrev pub decreases-step : goal.decreases-step
decreases-step l = 2 * unread l.self.now

abbrev pub invariant-path-loop-edge : goal.invariant-path-loop-edge
invariant-path-loop-edge l = Along l.initial.self l.initial.last l.self l.last l.room

abbrev pub decreases-path-loop-edge : goal.decreases-path-loop-edge
decreases-path-loop-edge l = unread l.self

abbrev pub invariant-step-loop-self : goal.invariant-step-loop-self
invariant-step-loop-self l = Past l.initial.self l.self l.number l.room

abbrev pub decreases-step-loop-self : goal.decreases-step-loop-self
decreases-step-loop-self l = unread l.self
