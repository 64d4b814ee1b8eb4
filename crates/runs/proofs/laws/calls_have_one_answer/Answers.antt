use Rattle.runs.proofs.CallLaws.{calls_answered}
use Rattle.runs.proofs.laws.calls_have_one_answer.Goals as goal

pub returns : goal.returns
returns g c = calls_answered g.L.PartialEq.eq
