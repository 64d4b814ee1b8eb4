use Rattle.std.proofs.Common.{◌≡◌, ◌<◌, List, length, take, sym, ◌∙◌, subst, arith}
use Rattle.std.proofs.lemmas.List.{length-set, length-map}
use Rattle.rules.specs.declared.node.RuleNode.{RuleNode}
use Rattle.rules.specs.Rule.{Rooted, Ordered}
use Rattle.rules.specs.RuleNodes.{plain, plain_nodes}
use Rattle.rules.proofs.Made.{make_more, make_all}
use Rattle.rules.proofs.Written.{blank}
use Rattle.rules.proofs.text.rule_of.Goals as goal

pub loop-i-preserved : goal.loop-i-preserved
loop-i-preserved c =
    let room = c.loop-i.invariant.0 in (
      length-set c.loop-i.made c.loop-i.i _ ∙ c.loop-i.invariant.0,
      make_more c.loop-i.made c.args.nodes.now c.loop-i.i blank c.from.result c.loop-i-test.true (omega arith) c.from.ensures c.loop-i.invariant.1,
    )

whole : (c : goal.After-loop-i) → take (length c.args.nodes.now) c.loop-i.made ≡ plain_nodes c.args.nodes.now
whole c = make_all c.loop-i.made c.args.nodes.now c.loop-i.i c.loop-i-test.false c.loop-i.auto.i-end c.loop-i.invariant.1

pub invariant_of-result : goal.invariant_of-result
invariant_of-result c = record {
  some = subst (λ (ns : List RuleNode). 0 < length ns) (sym (whole c)) (let some = c.requires.some in omega (arith, length-map c.args.nodes.now plain));
  few = c.requires.few;
  rooted = subst (λ (ns : List RuleNode). Rooted ns) (sym (whole c)) c.requires.rooted;
  ordered = subst (λ (ns : List RuleNode). Ordered ns) (sym (whole c)) c.requires.ordered;
}

pub returns : goal.returns
returns c = make_all c.loop-i.made c.args.nodes.now c.loop-i.i c.loop-i-test.false c.loop-i.auto.i-end c.loop-i.invariant.1
