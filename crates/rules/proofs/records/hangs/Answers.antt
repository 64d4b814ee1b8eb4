use Rattle.std.proofs.lemmas.Bool.{ltb-true, lt-ltb}
use Rattle.rules.specs.Records.{under}
use Rattle.rules.proofs.RecordLaws.{hangs_under, root_hangs}
use Rattle.rules.proofs.records.hangs.Goals as goal

pub returns-then-number-gt0 : goal.returns-then-number-gt0
returns-then-number-gt0 c = (
  (λ e. under (ltb-true c.args.parent c.args.number e)),
  λ h. lt-ltb c.args.parent c.args.number (hangs_under c.if-number-gt0.true h),
)

pub returns-then-parent-eq0 : goal.returns-then-parent-eq0
returns-then-parent-eq0 c = root_hangs c.args.number c.args.parent c.args.edge _ c.if-number-gt0.false c.if-parent-eq0.true c.eq.ensures
