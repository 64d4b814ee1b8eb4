use Rattle.std.proofs.Common.{ℕ, sym, subst}
use Rattle.rules.specs.Records.{EdgeByte, child, descendant}
use Rattle.rules.proofs.records.EdgeTryFromU8.try_from.Goals as goal

pub returns-in-0 : goal.returns-in-0
returns-in-0 c = subst (λ (b : ℕ). EdgeByte b _) (sym c.in-0.is) child

pub returns-in-1 : goal.returns-in-1
returns-in-1 c = subst (λ (b : ℕ). EdgeByte b _) (sym c.in-1.is) descendant
