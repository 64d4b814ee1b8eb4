use Rattle.std.proofs.Common.{◌≡◌, ◌<◌, true, length, arith}
use Rattle.std.proofs.lemmas.Result.{err_from_is_err_and}
use Rattle.selection.proofs.FeedLaws.{fed_open, unfed_open, unfed_close, full_close, fed_close}
use Rattle.selection.proofs.select.feed.Goals as goal
use Rattle.selection.proofs.select.feed.Goals.{else-selected-via-then-selected+else-is_empty, else-selected-via-else-selected}

pub returns-in_err-open-in-Open : goal.returns-in_err-open-in-Open
returns-in_err-open-in-Open g c =
    let x = err_from_is_err_and c.from_residual.result c.from_residual.ensures.1 in
    rw x.1
    (unfed_open g.L.PartialEq.eq c.args.labels.now c.args.run.now c.open.new.self c.args.event c.args.numbers.now c.in-Open.label c.open.result
    c.in_err-open-in-Open.field-0.0 x.0 c.in-Open.is c.open.ensures.step c.in_err-open-in-Open.was x.2)

pub returns-in_err-selected-in-Close : goal.returns-in_err-selected-in-Close
returns-in_err-selected-in-Close g c =
    let x = err_from_is_err_and c.from_residual-in_err-selected-in-Close.result c.from_residual-in_err-selected-in-Close.ensures.1 in
    rw x.1
    (unfed_close g.L.PartialEq.eq c.args.labels.now c.args.run.now c.close.new.self c.args.event c.args.numbers.now c.close.result
    c.in_err-selected-in-Close.field-0.0 x.0 c.in-Close.is c.close.ensures.step c.in_err-selected-in-Close.was x.2)

pub returns-then-is_empty : goal.returns-then-is_empty
returns-then-is_empty g c =
    full_close g.L.PartialEq.eq c.args.labels.now c.args.run.now c.close.new.self c.args.event c.args.numbers.now c.close.result c.in_ok-selected-in-Close.selected
    c.in-Close.is c.close.ensures.step c.in_ok-selected-in-Close.was c.if-selected.true (let e = c.if-is_empty.ensures in grind arith)

pub returns-in_ok-open-in-Open : goal.returns-in_ok-open-in-Open
returns-in_ok-open-in-Open g c =
    fed_open g.L.PartialEq.eq c.args.labels.now c.args.run.now c.open.new.self c.args.event c.args.numbers.now c.in-Open.label c.open.result c.in_ok-open-in-Open.field-0
    c.in-Open.is c.open.ensures.step c.in_ok-open-in-Open.was

pub returns-else-selected : goal.returns-else-selected
returns-else-selected g c =
    let room : c.in_ok-selected-in-Close.selected ≡ true → 0 < length c.args.numbers.now = λ e. elim c.else-selected.branch [
      | else-selected-via-then-selected+else-is_empty w ↦ grind arith
      | else-selected-via-else-selected w ↦ grind arith
    ] in
    fed_close g.L.PartialEq.eq c.args.labels.now c.args.run.now c.take.new.self c.args.event c.args.numbers.now c.close.result c.in_ok-selected-in-Close.selected
    c.close.new.self c.take.result c.take.new.out c.in-Close.is c.close.ensures.step c.in_ok-selected-in-Close.was room c.take.ensures
