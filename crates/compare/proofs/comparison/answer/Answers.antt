use Rattle.std.proofs.Common.{refl}
use Rattle.labels.specs.NameLaws.{compared as names_compared}
use Rattle.compare.proofs.ComparedLaws.{compared}
use Rattle.compare.proofs.comparison.answer.Goals as goal

pub returns : goal.returns
returns c bs asked =
    compared _ names_compared bs c.args.question.now asked c.labels.result.now c.labels.ensures _ _
    (record { at = c.first_at-end.result; first_at = c.first_at-end.ensures; first_is = refl; second_is = c.rest-two.ensures })
    c.new.result c.new-2.result c.new.ensures.meaning c.new.ensures.labels c.new-2.ensures.meaning c.new-2.ensures.labels
    _ _ _ _ _ _ _ _ c.in_ok-first.first c.in_ok-second.second c.agreement-agreement.result
    c.select_both-both.ensures.first c.select_both-both.ensures.second c.in_ok-first.ensures c.in_ok-second.ensures c.agreement-agreement.ensures
