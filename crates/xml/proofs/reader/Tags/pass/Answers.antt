use Rattle.std.proofs.Common.{[], Some, not, eqb, map, sym, refl, ap, ◌∙◌}
use Rattle.std.proofs.lemmas.Result.{MatchResult-weaker}
use Rattle.xml.specs.Means.{tags_names, labelled}
use Rattle.xml.specs.Reading.Reads.{refused}
use Rattle.xml.proofs.Steps.{means, passes_same, some_open, length_names}
use Rattle.xml.proofs.reader.Tags.pass.Goals as goal

pub returns : goal.returns
returns c =
    let s = c.args.self.now in
    let xs = s.input.now in
    let names = tags_names s in
    let q = c.skip.new.place in
    let i = some_open names ∙ ap (λ n. not (eqb n 0)) (length_names s.opened.items) ∙ sym (ap not c.is_empty-inside.ensures) in
    let e = passes_same xs (not c.is_empty-inside.result) s.place q names s.rooted c.skip.ensures.passes i in
    MatchResult-weaker c.skip.result c.skip.ensures.found
    (λ k h. record { events = ap (map labelled) e.0; ending = sym e.1; rooted = refl; markup = sym h })
    (λ f h.
    let m = means xs q names s.rooted [] (Some f) (refused f (h names s.rooted i)) in
    record { none = ap (map labelled) (e.0 ∙ m.0); ends = e.1 ∙ m.1; left = ap (map labelled) m.0; ending = sym e.1; rooted = refl })
