use Rattle.std.proofs.Common.{length, slice_range, arith}
use Rattle.xml.specs.Markup.CommentFault.{ended, byte_behind}
use Rattle.xml.specs.Shapes.{from_place}
use Rattle.xml.proofs.Pairs.{rest_part}
use Rattle.xml.proofs.skip.dashes_end.Goals as goal

pub returns-in_default : goal.returns-in_default
returns-in_default c = λ w.
    let xs = c.args.input.now in
    let d = c.pair_place-dashes.result in
    let s = from_place xs (slice_range xs d (length xs)) d (rest_part xs d) in
    ended d (c.pair_place-dashes.ensures.first w) (omega (arith, s.long, c.in_default.len_below))

pub returns-in-len3-up : goal.returns-in-len3-up
returns-in-len3-up c = λ w.
    let xs = c.args.input.now in
    let d = c.pair_place-dashes.result in
    let s = from_place xs (slice_range xs d (length xs)) d (rest_part xs d) in
    byte_behind d (c.pair_place-dashes.ensures.first w) (omega (arith, s.long, c.in-len3-up.len_at_least)) (λ e. omega (arith, s.at 2))
