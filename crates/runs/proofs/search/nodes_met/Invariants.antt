use Rattle.std.proofs.Common.{ℕ, ◌↔◌, take}
use Rattle.rules.specs.RuleNodes.{rule_nodes}
use Rattle.runs.specs.Bits.{Has}
use Rattle.runs.proofs.SearchLaws.{Named}
use Rattle.runs.proofs.search.nodes_met.Given as goal

abbrev pub invariant-loop-x : goal.invariant-loop-x
invariant-loop-x g l = (x : ℕ) → Has l.met x ↔ Named g.L.PartialEq.eq (rule_nodes l.rule) (take l.count l.labels) l.label l.x x
