use Rattle.runs.proofs.Examples.{worked}
use Rattle.runs.proofs.laws.examples_are_selected.Goals as goal

pub returns : goal.returns
returns c = worked
