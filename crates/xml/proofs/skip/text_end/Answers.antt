use Rattle.std.proofs.Common.{length, sym, subst}
use Rattle.labels.specs.Spelling.{byte_at, Longest}
use Rattle.xml.specs.Bytes.{text}
use Rattle.xml.specs.Inner.{PassesText}
use Rattle.xml.proofs.Between.{passes_text, passes_white}
use Rattle.xml.proofs.skip.text_end.Goals as goal

pub returns-then-inside : goal.returns-then-inside
returns-then-inside c = λ h.
    let xs = c.args.input.now in
    let l = c.run_end.ensures.within h in
    let run : Longest (λ i. text (byte_at xs i)) (length xs) c.args.from c.run_end.result =
    record { late = l.late; within = l.within; all = λ i a b. sym (l.all i a b); stops = λ m. sym (l.stops m) } in
    subst (λ inside. PassesText xs inside c.args.from c.run_end.result) (sym c.if-inside.true) (passes_text xs _ _ run)

pub returns-else-inside : goal.returns-else-inside
returns-else-inside c = λ h.
    subst (λ inside. PassesText c.args.input.now inside c.args.from c.white_end.result) (sym c.if-inside.false)
    (passes_white _ _ _ (c.white_end.ensures.within h))
