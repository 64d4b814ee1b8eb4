use Rattle.std.proofs.Common.{◌≡◌, ℕ, List, sym, refl, subst}
use Rattle.std.proofs.lemmas.Result.{err_from_is_err_and}
use Rattle.rules.specs.declared.node.RuleNode.{RuleNode}
use Rattle.rules.specs.declared.syntax.ParsedNode.{ParsedNode}
use Rattle.rules.specs.declared.refusal.TextRefusal.TheVariants.{ShortList}
use Rattle.rules.specs.Texts.{TextGives}
use Rattle.rules.specs.RuleNodes.{rule_nodes, plain_nodes}
use Rattle.rules.specs.Expression.{SelectsAlike}
use Rattle.rules.specs.ReadText.{short_list, by_text}
use Rattle.rules.proofs.Formed.{given_some, given_rooted, given_ordered}
use Rattle.rules.proofs.Answering.{accepts_read, refuses_unread}
use Rattle.rules.proofs.Listed.{text_selects_alike}
use Rattle.rules.proofs.text.read.Goals as goal

pub returns-then-names-lt-NODE_LIMIT : goal.returns-then-names-lt-NODE_LIMIT
returns-then-names-lt-NODE_LIMIT g c = (refuses_unread ShortList (short_list c.if-names-lt-NODE_LIMIT.true), refl)

pub returns-in_err-parsed : goal.returns-in_err-parsed
returns-in_err-parsed g c =
    let p = err_from_is_err_and c.from_residual.result c.from_residual.ensures.1 in
    rw (p.1, p.2) (refuses_unread _ (by_text c.if-names-lt-NODE_LIMIT.false c.in_err-parsed.ensures), refl)

pub rule_of-rule-requires : goal.rule_of-rule-requires
rule_of-rule-requires g c =
    let given : TextGives c.args.text.now c.as_slice-nodes.result.now = rw c.as_slice-nodes.ensures.value c.in_ok-parsed.ensures.reads in
    record { some = given_some given; few = c.as_slice-nodes.ensures.fits; rooted = given_rooted given; ordered = given_ordered given }

pub returns : goal.returns
returns g c =
    let bs : List ℕ = c.args.text.now in
    let ns : List ParsedNode = c.as_slice-nodes.result.now in
    let given : TextGives bs ns = rw c.as_slice-nodes.ensures.value c.in_ok-parsed.ensures.reads in
    let made : rule_nodes c.rule_of-rule.result ≡ plain_nodes ns = c.rule_of-rule.ensures in
    let r = text_selects_alike g.row.N.Denot g.N.PartialEq.eq g.N.NameLabel.spelled g.N.NameLabel.alike g.met.N.NameLabel.tied bs ns c.args.names.now c.write_names.new.names given c.write_names.ensures in
    record {
      nodes = ns;
      accepted = accepts_read (record { enough = c.if-names-lt-NODE_LIMIT.false; given = given });
      rule_is = made;
      names = c.write_names.ensures;
      expression = r.0.0;
      stands = r.0.1;
      selects = subst (λ (rs : List RuleNode). SelectsAlike g.N.PartialEq.eq g.N.NameLabel.spelled g.N.NameLabel.alike bs rs c.write_names.new.names) (sym made) r.1;
    }
