use Rattle.std.proofs.Common.{[], ◌≡◌, ℕ, ◌<◌, length, get_or}
use Rattle.rules.specs.Limits.{node_limit}
use Rattle.rules.specs.Rule.{blank}
use Rattle.rules.specs.Records.{RecordWrites}
use Rattle.rules.proofs.records.rule_from.Given as goal

-- the records so far write the rule nodes so far
abbrev pub invariant-loop-number : goal.invariant-loop-number
invariant-loop-number l = (length l.nodes ≡ node_limit) × ((j : ℕ) → j < l.number → RecordWrites j (get_or l.records j []) (get_or l.nodes j blank))
