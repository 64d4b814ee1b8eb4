use Rattle.std.proofs.Common.{◌+◌, ◌<◌, length, sym, refl, arith}
use Prim.Native.Char.{code}
use Rattle.std.proofs.lemmas.Result.{err_from_is_err_and}
use Rattle.std.proofs.lemmas.Bool.{both_ways}
use Rattle.xml.specs.Means.{tags_names}
use Rattle.xml.specs.FaultLaws.{end_named, wrong_name, end_fault}
use Rattle.xml.specs.declared.markup.Markup.TheVariants.{EndTag}
use Rattle.xml.specs.declared.fault.XmlFault.TheVariants.{Scan, WrongName}
use Rattle.xml.specs.declared.tags.Tag.TheVariants.{Close}
use Rattle.xml.specs.ScanLaws.{standing}
use Rattle.xml.specs.Total.{open_found}
use Rattle.xml.proofs.Between.{found}
use Rattle.xml.proofs.Steps.{end_at, fault_refuses, moves_give, closes_moves, pop_names, length_names, begun_open}
use Rattle.xml.proofs.reader.Tags.leave.Goals as goal

pub returns-in_err-end : goal.returns-in_err-end
returns-in_err-end c =
    let p = err_from_is_err_and c.from_residual.result c.from_residual.ensures.1 in
    rw (p.1, p.2) (fault_refuses c.args.self.now (Scan c.in_err-end.field-0.0) (found _ _ _ _ EndTag _ (sym c.requires) (end_named c.in_err-end.ensures)))

pub returns-then-not-is_innermost : goal.returns-then-not-is_innermost
returns-then-not-is_innermost c =
    let s = c.args.self.now in
    let d = c.if-not-is_innermost.ensures in
    fault_refuses s (WrongName (s.place + 2))
    (found _ _ _ _ EndTag _ (sym c.requires) (wrong_name c.in_ok-end.end c.in_ok-end.ensures (λ i. both_ways _ refl (d.1 i))))

pub returns-in_err-close : goal.returns-in_err-close
returns-in_err-close c =
    let p = err_from_is_err_and c.from_residual-in_err-close.result c.from_residual-in_err-close.ensures.1 in
    let d = c.if-not-is_innermost.ensures in
    let n = c.in_ok-end.ensures in
    rw (p.1, p.2)
    (fault_refuses c.args.self.now (Scan c.in_err-close.field-0.0)
    (found _ _ _ _ EndTag _ (sym c.requires) (end_fault c.in_ok-end.end n (d.0 refl) (c.in_err-close.ensures n.0.ends.within))))

pub invariant_of-self : goal.invariant_of-self
invariant_of-self c =
    let s = c.args.self.now in
    let q = c.in_ok-close.close in
    let n = c.in_ok-end.ensures in
    let t = c.in_ok-close.ensures n.0.ends.within in
    let f = end_at s.input.now s.place (tags_names s) s.rooted c.in_ok-end.end q c.requires (c.if-not-is_innermost.ensures.0 refl) n t in
    let l = standing s.input.now q (code ">") t.closes (omega arith) in
    record {
      within = omega arith;
      fresh = λ r. absurd (both_ways _ r (begun_open s (open_found s.input.now s.place (tags_names s) s.rooted _ (q + 1) f)));
    }

pub returns : goal.returns
returns c =
    let s = c.args.self.now in
    let xs = s.input.now in
    let q = c.in_ok-close.close in
    let n = c.in_ok-end.ensures in
    let t = c.in_ok-close.ensures n.0.ends.within in
    let f = end_at xs s.place (tags_names s) s.rooted c.in_ok-end.end q c.requires (c.if-not-is_innermost.ensures.0 refl) n t in
    let deep : 0 < length (tags_names s) = open_found xs s.place (tags_names s) s.rooted _ (q + 1) f in
    let popped = c.pop.ensures.variant.1 (omega (arith, length_names s.opened.items)) in
    let names = pop_names s.opened.items c.pop.new.self.items c.pop.result c.pop.ensures.items popped in
    moves_give s _ Close (begun_open s deep) (closes_moves xs s.place (tags_names s) s.rooted (q + 1) names.0 _ names.1 f)
