use Rattle.compare.proofs.AgreeLaws.{all_on}
use Rattle.compare.proofs.path.all_same_often.Goals as goal

pub loop-u-preserved : goal.loop-u-preserved
loop-u-preserved c =
    all_on _ _ _ c.args.twos.now c.args.ones.now c.loop-u.u-index c.loop-u.invariant c.loop-u-test.true _ c.same_often.ensures c.if-not-same_often.false
