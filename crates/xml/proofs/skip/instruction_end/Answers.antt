use Rattle.std.proofs.Common.{◌≡◌, ◌+◌, length, refl, subst, arith}
use Rattle.labels.specs.Spelling.{Longest}
use Rattle.xml.specs.Bytes.{apart}
use Rattle.xml.specs.Markup.InstructionFault.{ended}
use Rattle.xml.specs.declared.markup.Markup.TheVariants.{Instruction}
use Rattle.xml.specs.Shapes.{pair_here, reaches}
use Rattle.xml.proofs.skip.instruction_end.Goals as goal

pub returns-then-close-input : goal.returns-then-close-input
returns-then-close-input c =
    let xs = c.args.input.now in
    let l = c.pair_place-close.ensures.first (reaches xs c.args.at Instruction c.requires (omega arith)) in
    let e : c.pair_place-close.result ≡ length xs = omega (arith, l.within) in
    ended (subst (Longest (apart xs 63 62) (length xs) (c.args.at + 2)) e l)

pub returns : goal.returns
returns c =
    let xs = c.args.input.now in
    let d = c.pair_place-close.result in
    let l = c.pair_place-close.ensures.first (reaches xs c.args.at Instruction c.requires (omega arith)) in
    let h = pair_here xs 63 62 d (l.stops (omega arith)) in
    record { close = d; first = l; closes = (h.0, (h.1, tt)); ends = refl }
