use Rattle.std.proofs.Common.{arith}
use Rattle.compare.proofs.AgreeLaws.{room_for_one}
use Rattle.compare.proofs.path.count_with_path.Goals as goal

pub overflow_add-count : goal.overflow_add-count
overflow_add-count c =
    let room = room_for_one _ _ c.args.u c.args.vs.now c.loop-v.v-index c.loop-v.count c.loop-v.invariant c.loop-v-test.true in
    omega arith
