use Rattle.std.proofs.Common.{◌≡◌, ◌+◌, get_or, take, sym, refl, ◌∙◌, subst, rules}
use Rattle.rules.specs.declared.syntax.Kind.TheVariants.{Name}
use Rattle.rules.specs.ReadText.{NamesIn, behind}
use Rattle.rules.proofs.Written.{blank, made_label, name_turn, skip_turn}
use Rattle.rules.proofs.text.write_names.Goals as goal
use Rattle.rules.proofs.text.write_names.Goals.{then-eq, else-eq}

pub loop-i-init : goal.loop-i-init
loop-i-init g c = (refl, behind)

pub loop-i-preserved : goal.loop-i-preserved
loop-i-preserved g c =
    elim c.if-eq.branch [
      | then-eq w ↦ (
        c.if-eq.auto.names ∙ c.loop-i.auto.names,
        let named : (get_or c.args.nodes.now c.loop-i.i blank).test.kind ≡ Name = search rules in
            subst (λ ys. NamesIn g.N.NameLabel.spelled c.args.text.now (take (c.loop-i.i + 1) c.args.nodes.now) c.args.names.now ys) (sym w.names-is)
            (name_turn g.N.NameLabel.spelled c.args.text.now c.args.nodes.now c.loop-i.i blank c.args.names.now c.loop-i.names w.unwrap.result
            c.loop-i-test.true c.requires.few named (made_label _ _ _ _ w.from_bytes.ensures w.unwrap.ensures) c.loop-i.invariant.1),
      )
      | else-eq w ↦ (
        c.if-eq.auto.names ∙ c.loop-i.auto.names,
        subst (λ ys. NamesIn g.N.NameLabel.spelled c.args.text.now (take (c.loop-i.i + 1) c.args.nodes.now) c.args.names.now ys) (sym w.names-is)
            (skip_turn g.N.NameLabel.spelled c.args.text.now c.args.nodes.now c.loop-i.i blank c.args.names.now c.loop-i.names
            c.loop-i-test.true c.requires.few (let f = w.if-eq.false in let e = c.eq.ensures in search rules) c.loop-i.invariant.1),
      )
    ]
