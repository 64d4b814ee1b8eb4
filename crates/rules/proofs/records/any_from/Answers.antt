use Rattle.std.proofs.Common.{ℕ, sym, subst, rules}
use Rattle.rules.specs.Records.{AnyByte, named, any}
use Rattle.rules.proofs.RecordLaws.{no_any}
use Rattle.rules.proofs.records.any_from.Goals as goal

pub returns-in-0 : goal.returns-in-0
returns-in-0 c = subst (λ (b : ℕ). AnyByte b _) (sym c.in-0.is) named

pub returns-in-1 : goal.returns-in-1
returns-in-1 c = subst (λ (b : ℕ). AnyByte b _) (sym c.in-1.is) any

pub returns-in_default : goal.returns-in_default
returns-in_default c = no_any c.args.byte (search rules) (search rules)
