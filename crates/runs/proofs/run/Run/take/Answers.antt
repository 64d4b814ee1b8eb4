use Rattle.runs.proofs.RunLaws.{take_real}
use Rattle.runs.proofs.run.Run.take.Goals as goal

pub invariant_of-self : goal.invariant_of-self
invariant_of-self c =
    let run = c.args.self.now in
    let k = c.take.ensures in
    record { real = take_real run.rule.now run.state c.take.new.self c.args.out.now c.take.new.out c.take.result k.count k.list k.after run.real }
