use Rattle.std.proofs.Common.{◌≡◌, ℕ, ◌<◌, ◌↔◌, true}
use Rattle.rules.specs.Rule.{any_of}
use Rattle.rules.specs.RuleNodes.{rule_nodes}
use Rattle.runs.specs.Bits.{Has}
use Rattle.runs.proofs.search.any_nodes.Given as goal

abbrev pub invariant-loop-x : goal.invariant-loop-x
invariant-loop-x l = (x : ℕ) → Has l.met x ↔ ((x < l.x) × (any_of (rule_nodes l.rule) x ≡ true))
