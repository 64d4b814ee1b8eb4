use Rattle.std.proofs.Common.{◌≡◌, length, take}
use Rattle.rules.specs.Limits.{node_limit}
use Rattle.rules.specs.RuleNodes.{plain_nodes}
use Rattle.rules.proofs.text.rule_of.Given as goal

abbrev pub invariant-loop-i : goal.invariant-loop-i
invariant-loop-i l = (length l.made ≡ node_limit) × (take l.i l.made ≡ plain_nodes (take l.i l.nodes))
