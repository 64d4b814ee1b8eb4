use Rattle.runs.proofs.BitLaws.{contains_past}
use Rattle.runs.proofs.node_set.NodeSet.contains.Goals as goal

pub returns-else-number-lt64 : goal.returns-else-number-lt64
returns-else-number-lt64 c = contains_past c.self.inside.word c.args.self c.args.number c.self.view_is c.self.invariant c.if-number-lt64.false
