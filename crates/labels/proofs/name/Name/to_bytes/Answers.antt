use Rattle.std.proofs.Common.{◌≡◌, length, ap, ◌∙◌, arith}
use Rattle.std.proofs.lemmas.List.{length-take-le}
use Rattle.labels.specs.Names.{bytes_of}
use Rattle.labels.proofs.Making.{few_name}
use Rattle.labels.proofs.name.Name.to_bytes.Goals as goal

pub push-requires : goal.push-requires
push-requires c =
    let e : length c.loop-at.bytes.items ≡ c.loop-at.at = ap length c.loop-at.invariant.0 ∙ length-take-le c.loop-at.at (bytes_of c.args.self.now) c.loop-at.invariant.1 in
    (omega arith, omega (arith, e, few_name c.args.self.now))
