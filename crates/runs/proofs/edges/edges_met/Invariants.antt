use Rattle.std.proofs.Common.{ℕ, ◌↔◌}
use Rattle.rules.specs.RuleNodes.{rule_nodes}
use Rattle.runs.specs.Bits.{Has}
use Rattle.runs.proofs.EdgeLaws.{Lacks}
use Rattle.runs.proofs.edges.edges_met.Given as goal

abbrev pub invariant-loop-y : goal.invariant-loop-y
invariant-loop-y l = (x : ℕ) → Has l.unmet x ↔ Lacks (rule_nodes l.rule) l.child l.below l.y x
