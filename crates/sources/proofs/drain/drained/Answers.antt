use Rattle.std.proofs.Common.{Ok, refl, sym, ap, ◌∙◌, arith}
use Rattle.sources.specs.Events.{rest}
use Rattle.sources.proofs.Answered.{from_some, from_none, from_err}
use Rattle.sources.proofs.Heard.{all_heard, one_left, rest_drop}
use Rattle.sources.proofs.drain.drained.Goals as goal

pub loop-count-init : goal.loop-count-init
loop-count-init g c = (omega arith, refl, refl)

pub returns-in-Ok-None : goal.returns-in-Ok-None
returns-in-Ok-None g c =
    let end = from_none _ _ (sym c.next.ensures.answer ∙ c.in-Ok-None.is ∙ ap Ok c.in-Ok-None.field-0-is) in
    let i = c.loop-count.invariant in
    let k = all_heard _ c.loop-count.count i.0 (sym i.1 ∙ end.0) in
    record {
      count = omega arith;
      told = λ l. sym end.1 ∙ i.2;
      untold = λ l. refl;
      others = c.next.ensures.others ∙ ap rest end.0 ∙ sym end.0 ∙ i.1;
      ending = c.next.ensures.ending ∙ i.2;
    }

pub returns-in-Err : goal.returns-in-Err
returns-in-Err g c =
    let end = from_err _ _ c.in-Err.fault (sym c.next.ensures.answer ∙ c.in-Err.is) in
    let i = c.loop-count.invariant in
    let k = all_heard _ c.loop-count.count i.0 (sym i.1 ∙ end.0) in
    record {
      count = omega arith;
      told = λ l. sym end.1 ∙ i.2;
      untold = λ l. absurd (omega arith);
      others = c.next.ensures.others ∙ ap rest end.0 ∙ sym end.0 ∙ i.1;
      ending = c.next.ensures.ending ∙ i.2;
    }

pub loop-count-preserved : goal.loop-count-preserved
loop-count-preserved g c =
    let i = c.loop-count.invariant in
    let es = g.S.Source.events c.args.source.now in
    let one = from_some _ _ c.in-Ok-Some.field-0-0 (sym c.next.ensures.answer ∙ c.in-Ok-Some.is ∙ ap Ok c.in-Ok-Some.field-0-is) in (
      one_left es c.loop-count.count c.in-Ok-Some.field-0-0 _ (sym i.1 ∙ one),
      c.next.ensures.others ∙ ap rest i.1 ∙ rest_drop es c.loop-count.count,
      c.next.ensures.ending ∙ i.2,
    )
