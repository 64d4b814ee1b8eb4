use Rattle.selection.proofs.Pairs.{paired_alike}
use Rattle.selection.proofs.both.select_both.Goals as goal

pub returns-clause-alike : goal.returns-clause-alike
returns-clause-alike g c =
    paired_alike g.S.Label.PartialEq.eq g.met.S.Label.Eq.laws _ _ _ _ _ _ _ _ _ _ _ _ _ _ c.select.ensures.selection c.select-2.ensures.selection
