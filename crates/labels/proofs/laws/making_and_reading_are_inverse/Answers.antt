use Rattle.labels.proofs.Making.{making_inverse}
use Rattle.labels.proofs.laws.making_and_reading_are_inverse.Goals as goal

pub returns : goal.returns
returns c = making_inverse
