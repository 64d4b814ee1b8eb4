use Rattle.std.proofs.Common.{◌+◌, false, [], length, refl, sym, ap, ◌∙◌}
use Rattle.std.proofs.lemmas.Result.{err_from_is_err_and}
use Rattle.std.proofs.lemmas.Bool.{both_ways}
use Rattle.xml.specs.FaultLaws.{early, end_named, wrong_name}
use Rattle.xml.specs.Inner.{stop_markup}
use Rattle.xml.specs.declared.markup.Stop.TheVariants.{StartTag, EndTag, End as at_end}
use Rattle.xml.specs.declared.fault.ScanFault.TheVariants.{End}
use Rattle.xml.specs.declared.fault.XmlFault.TheVariants.{Scan, WrongName}
use Rattle.xml.proofs.Between.{found_at}
use Rattle.xml.proofs.Steps.{start_fault, root_fails, root_named, root_room}
use Rattle.xml.proofs.look.root_name.Goals as goal

pub returns-in_err-stop : goal.returns-in_err-stop
returns-in_err-stop c =
    let p = err_from_is_err_and c.from_residual.result c.from_residual.ensures.1 in
    rw (p.1, p.2) (root_fails _ _ _ _ c.skip.ensures.passes (c.in_err-stop.ensures.found [] false refl))

pub returns-in_err-start_tag-in-StartTag : goal.returns-in_err-start_tag-in-StartTag
returns-in_err-start_tag-in-StartTag c =
    let xs = c.args.input.now in
    let q = c.skip.new.place in
    let f = c.in_ok-stop.ensures.found in
    let p = err_from_is_err_and c.from_residual-in_err-start_tag-in-StartTag.result c.from_residual-in_err-start_tag-in-StartTag.ensures.1 in
    rw (p.1, p.2) (root_fails _ _ _ (Scan c.in_err-start_tag-in-StartTag.field-0.0) c.skip.ensures.passes
    (found_at xs q [] false _ StartTag _ c.in-StartTag.is f (start_fault root_room c.in_err-start_tag-in-StartTag.ensures)))

pub returns-in_err-name_end-in-EndTag : goal.returns-in_err-name_end-in-EndTag
returns-in_err-name_end-in-EndTag c =
    let xs = c.args.input.now in
    let q = c.skip.new.place in
    let f = c.in_ok-stop.ensures.found in
    let p = err_from_is_err_and c.from_residual-in_err-name_end-in-EndTag.result c.from_residual-in_err-name_end-in-EndTag.ensures.1 in
    rw (p.1, p.2) (root_fails _ _ _ (Scan c.in_err-name_end-in-EndTag.field-0.0) c.skip.ensures.passes
    (found_at xs q [] false _ EndTag _ c.in-EndTag.is f (end_named c.in_err-name_end-in-EndTag.ensures)))

pub returns-in_ok-start_tag-in-StartTag : goal.returns-in_ok-start_tag-in-StartTag
returns-in_ok-start_tag-in-StartTag c =
    let xs = c.args.input.now in
    let q = c.skip.new.place in
    let f = c.in_ok-stop.ensures.found in
    let h = c.in_ok-start_tag-in-StartTag.ensures in
    root_named xs _ q h.stop _ _ _ h.name c.skip.ensures.passes (sym f ∙ ap stop_markup c.in-StartTag.is)
    (record { name = h.spelled; close = h.close; tag = h.rest; ends = h.ends; slash = h.slash })

pub returns-in_ok-name_end-in-EndTag : goal.returns-in_ok-name_end-in-EndTag
returns-in_ok-name_end-in-EndTag c =
    let xs = c.args.input.now in
    let q = c.skip.new.place in
    let f = c.in_ok-stop.ensures.found in
    root_fails _ _ _ (WrongName (q + 2)) c.skip.ensures.passes
    (found_at xs q [] false _ EndTag _ c.in-EndTag.is f (wrong_name _ c.in_ok-name_end-in-EndTag.ensures (λ i. i)))

pub returns-in-End : goal.returns-in-End
returns-in-End c =
    let xs = c.args.input.now in
    let q = c.skip.new.place in
    let f = c.in_ok-stop.ensures.found in
    rw c.into.ensures (root_fails _ _ _ (Scan (End (length xs))) c.skip.ensures.passes
    (found_at xs q [] false _ at_end _ c.in-End.is f (early (λ _ r. both_ways _ refl r))))
