use Rattle.std.proofs.Common.{◌≡◌, ℕ, ◌^◌, ◌<◌, ◌≤◌, List, [], ◌∷◌, ◌++◌, length, get_or, take, sym, ap, ◌∙◌, subst, arith}
use Rattle.std.proofs.lemmas.List.{take_more, take_all}
use Rattle.labels.specs.Names.{digits}
use Rattle.labels.proofs.Making.{small, digits_more, bound_more}
use Rattle.labels.proofs.name.Name.word.Goals as goal

pub overflow_mul-word : goal.overflow_mul-word
overflow_mul-word c =
    let l : c.loop-b.b-index ≤ 7 = omega arith in
    let h : c.loop-b.word < 256 ^ 7 = small c.loop-b.b-index c.loop-b.word l c.loop-b.invariant.1 in
    omega arith

pub overflow_add-word : goal.overflow_add-word
overflow_add-word c =
    let l : c.loop-b.b-index ≤ 7 = omega arith in
    let h : c.loop-b.word < 256 ^ 7 = small c.loop-b.b-index c.loop-b.word l c.loop-b.invariant.1 in
    let b : get_or c.args.bytes.now c.loop-b.b-index 0 < 256 = omega (arith, c.type_inv.bytes c.loop-b.b-index) in
    omega (arith, c.from.ensures)

pub loop-b-preserved : goal.loop-b-preserved
loop-b-preserved c =
    let i = c.loop-b.b-index in
    let bs = c.args.bytes.now in
    let w = c.loop-b.word in
    let b : get_or c.args.bytes.now c.loop-b.b-index 0 < 256 = omega (arith, c.type_inv.bytes c.loop-b.b-index) in
    let r : c.from.result < 256 = omega (arith, c.from.ensures) in (
      digits_more i w c.from.result r
          ∙ ap (λ (xs : List ℕ). xs ++ c.from.result ∷ []) c.loop-b.invariant.0
          ∙ ap (λ (x : ℕ). take i bs ++ x ∷ []) c.from.ensures
          ∙ sym (take_more bs i 0 c.loop-b-test.true),
      bound_more i w c.from.result c.loop-b.invariant.1 r,
    )

pub returns : goal.returns
returns c =
    let bs = c.args.bytes.now in
    let e : c.loop-b.b-index ≡ length c.args.bytes.now = omega arith in
    let P : ℕ → Type 0 = λ k. digits k c.loop-b.word ≡ take k bs in
    let Q : ℕ → Type 0 = λ k. c.loop-b.word < 256 ^ k in
    record {
      spells = subst P e c.loop-b.invariant.0 ∙ take_all (length bs) bs (omega arith);
      bound = subst Q e c.loop-b.invariant.1;
    }
