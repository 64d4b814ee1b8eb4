use Rattle.std.proofs.Common.{◌≡◌, true, [], length, sym, ap, ◌∙◌}
use Rattle.std.proofs.lemmas.Bool.{both_ways, eqb-true, eqb-false}
use Rattle.xml.specs.Means.{tags_names}
use Rattle.xml.specs.Reading.Finds.{finish}
use Rattle.xml.specs.FaultLaws.{early}
use Rattle.xml.specs.declared.markup.Markup.TheVariants.{Nothing}
use Rattle.xml.specs.declared.fault.ScanFault.TheVariants.{End}
use Rattle.xml.specs.declared.fault.XmlFault.TheVariants.{Scan}
use Rattle.xml.proofs.Between.{found}
use Rattle.xml.proofs.Steps.{done_gives, fault_refuses, none_open, length_names}
use Rattle.xml.proofs.reader.Tags.finish.Goals as goal
use Rattle.xml.proofs.reader.Tags.finish.Goals.{else-is_empty-via-then-is_empty+else-self, else-is_empty-via-else-is_empty}

pub returns-then-self : goal.returns-then-self
returns-then-self c =
    let s = c.args.self.now in
    done_gives s (found _ _ _ _ Nothing _ (sym c.requires) (finish (none_open s.opened.items (eqb-true _ 0 (sym c.if-is_empty.ensures))) c.if-self.true))

pub returns-else-is_empty : goal.returns-else-is_empty
returns-else-is_empty c =
    let s = c.args.self.now in
    let no_end : tags_names s ≡ [] → s.rooted ≡ true → ⊥ = λ e r.
    elim c.else-is_empty.branch [
      | else-is_empty-via-then-is_empty+else-self w ↦ both_ways _ w.if-self.false r
      | else-is_empty-via-else-is_empty w ↦ eqb-false _ 0 (sym w.if-is_empty.ensures) (sym (length_names s.opened.items) ∙ ap length e)
    ] in
    rw c.into.ensures (fault_refuses s (Scan (End (length s.input.now))) (found _ _ _ _ Nothing _ (sym c.requires) (early no_end)))
