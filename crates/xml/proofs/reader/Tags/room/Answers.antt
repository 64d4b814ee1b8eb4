use Rattle.std.proofs.Common.{sym, arith}
use Rattle.std.proofs.lemmas.Bool.{eqb-true, eqb-false}
use Rattle.xml.specs.Shapes.{reaches}
use Rattle.xml.specs.FaultLaws.{second, deep}
use Rattle.xml.specs.declared.markup.Markup.TheVariants.{StartTag}
use Rattle.xml.proofs.Steps.{room, none_open, length_names}
use Rattle.xml.proofs.reader.Tags.room.Goals as goal
use Rattle.xml.proofs.reader.Tags.room.Goals.{else-is_empty-via-then-is_empty+else-self, else-is_empty-via-else-is_empty}

pub returns-then-self : goal.returns-then-self
returns-then-self c =
    let l = reaches c.args.self.now.input.now c.args.self.now.place StartTag c.requires (omega arith) in
    rw c.into.ensures (second (omega arith) (none_open c.args.self.now.opened.items (eqb-true _ 0 (sym c.if-is_empty.ensures))) c.if-self.true)

pub returns-then-is_full : goal.returns-then-is_full
returns-then-is_full c =
    let l = reaches c.args.self.now.input.now c.args.self.now.place StartTag c.requires (omega arith) in
    let full = eqb-true _ _ (sym c.if-is_full.ensures.value) in
    deep (omega arith) (omega (arith, length_names c.args.self.now.opened.items))

pub returns : goal.returns
returns c =
    let few = eqb-false _ _ (sym c.if-is_full.ensures.value) in
    let fits = c.if-is_full.ensures.fits in
    room c.args.self.now.opened.items c.args.self.now.rooted (omega arith)
    (elim c.else-is_empty.branch [
      | else-is_empty-via-then-is_empty+else-self w ↦ λ _. w.if-self.false
      | else-is_empty-via-else-is_empty w ↦ λ e. absurd (eqb-false _ 0 (sym w.if-is_empty.ensures) e)
    ])
