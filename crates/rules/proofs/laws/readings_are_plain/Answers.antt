use Rattle.rules.proofs.Listed.{plain_readings}
use Rattle.rules.proofs.laws.readings_are_plain.Goals as goal

pub returns : goal.returns
returns g c = plain_readings g.N.NameLabel.spelled g.N.NameLabel.alike
