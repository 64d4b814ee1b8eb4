use Rattle.std.proofs.Common.{arith}
use Rattle.labels.specs.NameLaws.{length_bytes}
use Rattle.labels.proofs.ByteLaws.{byte_told}
use Rattle.labels.proofs.name.Name.byte_at.Goals as goal

pub returns : goal.returns
returns c =
    let len = length_bytes c.args.self.now in
    byte_told c.args.self.now c.args.at (omega arith) c.min-count.result c.word_with-word.result c.word_with-word.ensures (omega arith)
