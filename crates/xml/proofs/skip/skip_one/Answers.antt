use Rattle.std.proofs.Common.{◌≡◌, ℕ, sym, inl, inr, arith}
use Rattle.std.proofs.lemmas.Result.{err_from_is_err_and}
use Rattle.xml.specs.Shapes.{reaches}
use Rattle.xml.specs.declared.markup.Markup.TheVariants.{Text}
use Rattle.xml.specs.ScanLaws.{comment_within, instruction_within}
use Rattle.xml.proofs.Between.{text_by, text_no, comment_by, comment_no, instruction_by, instruction_no, declaration_no, cut_no, stray_no}
use Rattle.xml.proofs.skip.skip_one.Goals as goal
use Rattle.xml.proofs.skip.skip_one.Goals.{then-inside, else-inside}

pub returns-in_err-comment_end-in-Comment : goal.returns-in_err-comment_end-in-Comment
returns-in_err-comment_end-in-Comment c =
    let p = err_from_is_err_and c.from_residual.result c.from_residual.ensures.1 in
    rw (p.1, p.2) (comment_no _ _ _ _ c.in-Comment.ensures c.in_err-comment_end-in-Comment.ensures)

pub returns-in_err-instruction_end-in-Instruction : goal.returns-in_err-instruction_end-in-Instruction
returns-in_err-instruction_end-in-Instruction c =
    let p = err_from_is_err_and c.from_residual-in_err-instruction_end-in-Instruction.result c.from_residual-in_err-instruction_end-in-Instruction.ensures.1 in
    rw (p.1, p.2)
    (instruction_no _ _ _ _ c.in-Instruction.ensures c.in_err-instruction_end-in-Instruction.ensures)

pub returns-then-is_white : goal.returns-then-is_white
returns-then-is_white c =
    let xs = c.args.input.now in
    let p = c.args.at in
    let e = c.in-Text.ensures in (
      text_by xs c.args.inside p e (elim c.if-inside.branch [ then-inside w ↦ inl w.if-inside.true | else-inside w ↦ inr (cc) ]),
      omega arith,
      omega (arith, reaches xs p Text (sym e) (omega arith)),
    )

pub returns-else-is_white : goal.returns-else-is_white
returns-else-is_white c =
    elim c.if-inside.branch [
      | then-inside w ↦ absurd (let z : ◌≡◌ {A = ℕ} 0 1 = cc in omega arith)
      | else-inside w ↦ rw c.into.ensures (text_no _ _ _ c.in-Text.ensures w.if-inside.false (cc))
    ]

pub returns-in_ok-comment_end-in-Comment : goal.returns-in_ok-comment_end-in-Comment
returns-in_ok-comment_end-in-Comment c =
    let xs = c.args.input.now in
    let d = c.in_ok-comment_end-in-Comment.ensures in
    let e = d.ends in
    let late = d.first.late in
    (comment_by _ _ _ _ c.in-Comment.ensures d, omega arith, comment_within xs _ _ d)

pub returns-in_ok-instruction_end-in-Instruction : goal.returns-in_ok-instruction_end-in-Instruction
returns-in_ok-instruction_end-in-Instruction c =
    let xs = c.args.input.now in
    let d = c.in_ok-instruction_end-in-Instruction.ensures in
    let e = d.ends in
    let late = d.first.late in
    (instruction_by _ _ _ _ c.in-Instruction.ensures d, omega arith, instruction_within xs _ _ d)

pub returns-in-Cut : goal.returns-in-Cut
returns-in-Cut c = rw c.into-in-Cut.ensures (cut_no _ _ _ c.in-Cut.ensures)

pub returns-in-Stray : goal.returns-in-Stray
returns-in-Stray c = rw c.into-in-Stray.ensures (stray_no _ _ _ c.in-Stray.ensures)

pub returns-in-Declaration : goal.returns-in-Declaration
returns-in-Declaration c = declaration_no _ _ _ c.in-Declaration.ensures
