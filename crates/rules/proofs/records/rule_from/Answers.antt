use Rattle.rules.specs.declared.refusal.RecordRefusal.TheVariants.{Bad}
use Rattle.std.proofs.Common.{◌≡◌, ◌∙◌, arith}
use Rattle.std.proofs.lemmas.List.{length-set}
use Rattle.std.proofs.lemmas.Bool.Decides.{nat_tests}
use Rattle.std.proofs.lemmas.Result.{err_from_is_err_and}
use Rattle.rules.specs.Records.{size}
use Rattle.rules.proofs.RecordLaws.{whole, all_recorded, recorded_rooted, recorded_ordered, set_sole, unset_sole, record_more, first_bad}
use Rattle.rules.proofs.records.rule_from.Goals as goal

pub returns-then-not-is_empty : goal.returns-then-not-is_empty
returns-then-not-is_empty c =
    unset_sole (size (λ k w.
    let a = w.long in let b = w.some in let d = w.few in
    let e = c.then-not-is_empty.either in let f = c.is_empty.ensures in
    let long = c.as_chunks.ensures.front_len in let rest = c.as_chunks.ensures.back_len in grind (arith, nat_tests)))

pub returns-in_err-nodes : goal.returns-in_err-nodes
returns-in_err-nodes c =
    let p = err_from_is_err_and c.from_residual.result c.from_residual.ensures.1 in
    let which : c.in_err-nodes.field-0.0 ≡ Bad c.loop-number.number = let e = rw c.in_err-nodes.ensures.ok_part at c.in_err-nodes.ensures.value in cc in
    let all = whole _ _ _ c.as_chunks.ensures.front_len c.as_chunks.ensures.back_len c.if-not-is_empty.ensures c.if-len-eq0.false c.if-len-gt-NODE_LIMIT.false in
    let none = rw c.in_err-nodes.ensures.ok_part at c.node_of.ensures in
    rw (p.1, p.2, which) (
    unset_sole (first_bad _ _ c.loop-number.nodes _ all c.as_chunks.ensures.front c.as_chunks.ensures.front_len c.loop-number-test.true c.loop-number.invariant.1 none))

pub loop-number-preserved : goal.loop-number-preserved
loop-number-preserved c =
    let room = c.loop-number.invariant.0 in (
      length-set c.loop-number.nodes c.loop-number.number c.in_ok-nodes.field-0 ∙ room,
      record_more c.as_chunks.result.0.now c.loop-number.nodes c.loop-number.number c.in_ok-nodes.field-0 (omega arith) (rw c.in_ok-nodes.ensures.ok_part at c.node_of.ensures) c.loop-number.invariant.1,
    )

pub invariant_of-result : goal.invariant_of-result
invariant_of-result c =
    let all = whole _ _ _ c.as_chunks.ensures.front_len c.as_chunks.ensures.back_len c.if-not-is_empty.ensures c.if-len-eq0.false c.if-len-gt-NODE_LIMIT.false in
    let r = all_recorded _ _ c.loop-number.nodes _ all c.as_chunks.ensures.front c.as_chunks.ensures.front_len c.loop-number.invariant.0 c.loop-number-test.false c.loop-number.invariant.1 in
    record { some = r.whole.some; few = c.if-len-gt-NODE_LIMIT.false; rooted = recorded_rooted r; ordered = recorded_ordered r }

pub returns : goal.returns
returns c =
    let all = whole _ _ _ c.as_chunks.ensures.front_len c.as_chunks.ensures.back_len c.if-not-is_empty.ensures c.if-len-eq0.false c.if-len-gt-NODE_LIMIT.false in
    set_sole (all_recorded _ _ c.loop-number.nodes _ all c.as_chunks.ensures.front c.as_chunks.ensures.front_len c.loop-number.invariant.0 c.loop-number-test.false c.loop-number.invariant.1)
