use Rattle.std.proofs.Common.{true, false, ◌∷◌, sym, refl, ap, ◌∙◌}
use Rattle.std.proofs.lemmas.Result.{err_from_is_err_and}
use Rattle.labels.specs.NameOf.{name_of}
use Rattle.xml.specs.Means.{open_names, tags_names}
use Rattle.xml.specs.declared.markup.Markup.TheVariants.{StartTag}
use Rattle.xml.specs.declared.fault.XmlFault.TheVariants.{Scan}
use Rattle.xml.specs.declared.tags.Tag.TheVariants.{Open, Empty}
use Rattle.xml.proofs.Between.{found}
use Rattle.xml.proofs.Steps.{start_at, start_fault, fault_refuses, moves_give, opens_moves, empty_moves, push_names}
use Rattle.xml.proofs.reader.Tags.enter.Goals as goal

pub returns-in_err-room : goal.returns-in_err-room
returns-in_err-room c =
    let p = err_from_is_err_and c.from_residual.result c.from_residual.ensures.1 in
    rw (p.1, p.2) (fault_refuses c.args.self.now c.in_err-room.field-0.0 (found _ _ _ _ StartTag _ (sym c.requires) c.in_err-room.ensures))

pub returns-in_err-tag : goal.returns-in_err-tag
returns-in_err-tag c =
    let p = err_from_is_err_and c.from_residual-in_err-tag.result c.from_residual-in_err-tag.ensures.1 in
    rw (p.1, p.2)
    (fault_refuses c.args.self.now (Scan c.in_err-tag.field-0.0) (found _ _ _ _ StartTag _ (sym c.requires) (start_fault c.in_ok-room.ensures c.in_err-tag.ensures)))

pub returns-then-tag : goal.returns-then-tag
returns-then-tag c =
    let s = c.args.self.now in
    let t = c.in_ok-tag.ensures in
    moves_give s _ (Empty c.label-label.result) refl
    (empty_moves s.input.now s.place (tags_names s) s.rooted t.stop c.in_ok-tag.tag.end c.label-label.result (c.label-label.ensures ∙ ap name_of t.name)
    (start_at s.input.now s.place (tags_names s) s.rooted c.in_ok-tag.tag true c.requires c.in_ok-room.ensures t c.if-tag.true))

pub returns : goal.returns
returns c =
    let s = c.args.self.now in
    let t = c.in_ok-tag.ensures in
    let names = ap open_names c.push.ensures.items ∙ push_names s.opened.items c.in_ok-tag.tag.name ∙ ap (λ n. n ∷ tags_names s) t.name in
    moves_give s _ (Open c.label-label.result) refl
    (opens_moves s.input.now s.place (tags_names s) s.rooted t.stop c.in_ok-tag.tag.end _ c.label-label.result names (c.label-label.ensures ∙ ap name_of t.name)
    (start_at s.input.now s.place (tags_names s) s.rooted c.in_ok-tag.tag false c.requires c.in_ok-room.ensures t c.if-tag.false))
