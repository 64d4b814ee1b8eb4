use Rattle.compare.proofs.AgreeLaws.{often_when}
use Rattle.compare.proofs.path.same_often.Goals as goal

pub returns : goal.returns
returns c =
    often_when _ _ c.args.ones.now c.args.twos.now c.args.u c.count_with_path.result c.count_with_path-2.result c.count_with_path.ensures c.count_with_path-2.ensures
