use Rattle.rules.proofs.Examples.{worked}
use Rattle.rules.proofs.laws.examples_are_judged.Goals as goal

pub returns : goal.returns
returns c = worked
