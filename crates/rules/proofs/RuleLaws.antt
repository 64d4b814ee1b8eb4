-- How many rule nodes a rule has.
use Rattle.std.proofs.Common.{◌≤◌, length, arith, length-take}
use Rattle.rules.specs.declared.rule.Rule.{Rule}
use Rattle.rules.specs.Limits.{node_limit}
use Rattle.rules.specs.RuleNodes.{rule_nodes}

pub few_nodes : (r : Rule) → length (rule_nodes r) ≤ node_limit
few_nodes r = let few = r.few in omega (arith, length-take r.len r.nodes)
