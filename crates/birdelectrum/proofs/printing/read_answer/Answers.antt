use Rattle.birdelectrum.proofs.RunLaws.{printed_whole}
use Rattle.birdelectrum.proofs.printing.read_answer.Goals as goal

pub returns : goal.returns
returns g c =
    printed_whole (g.R.Read.remaining c.args.reader) c.in_ok-input.input.items c.deref.result.now c.in_ok-answer.field-0.bytes.items
    c.in_ok-input.ensures c.deref.ensures.value c.in_ok-answer.ensures
