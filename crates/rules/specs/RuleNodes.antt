-- The rule nodes of a rule, and those of a rule text.
use Rattle.std.specs.Prelude.{Bool, true, false, List, map, take}
use Rattle.rules.specs.declared.syntax.Kind.{Kind}
use Rattle.rules.specs.declared.syntax.Kind.TheVariants.{Star}
use Rattle.rules.specs.declared.syntax.ParsedNode.{ParsedNode}
use Rattle.rules.specs.declared.node.RuleNode.{RuleNode}
use Rattle.rules.specs.declared.rule.Rule.{Rule}

abbrev pub rule_nodes : Rule → List RuleNode
rule_nodes r = take r.len r.nodes

-- the rule nodes of a text without the tokens of their tests
abbrev pub is_star : Kind → Bool
is_star Star = true
is_star _ = false

abbrev pub plain : ParsedNode → RuleNode
plain n = record { parent = n.parent; edge = n.edge; any = is_star n.test.kind }

abbrev pub plain_nodes : List ParsedNode → List RuleNode
plain_nodes ns = map plain ns
