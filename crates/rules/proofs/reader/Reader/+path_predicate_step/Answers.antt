use Rattle.std.proofs.lemmas.Result.{err_from_is_err_and}
use Rattle.rules.proofs.Going.{first_fails, further_fails}
use Rattle.rules.proofs.reader.Reader.+path_predicate_step.Goals as goal

pub path-returns-in_err-last : goal.path-returns-in_err-last
path-returns-in_err-last t c =
    let p = err_from_is_err_and c.from_residual-in_err-last.result c.from_residual-in_err-last.ensures.1 in
    rw (p.1, p.2) (first_fails c.args.parent c.args.room _ c.in_ok-edge.ensures c.in_err-last.ensures)

pub path-returns-in_err-last-2 : goal.path-returns-in_err-last-2
path-returns-in_err-last-2 t c =
    let p = err_from_is_err_and c.from_residual-in_err-last-2.result c.from_residual-in_err-last-2.ensures.1 in
    rw (p.1, p.2) (further_fails c.args.parent c.args.room _ c.in_ok-edge.ensures c.in_ok-last.ensures c.loop-edge.invariant c.in-Some.ensures c.in_err-last-2.ensures)

pub step-returns-in_err-number : goal.step-returns-in_err-number
step-returns-in_err-number t c =
    let p = err_from_is_err_and c.from_residual.result c.from_residual.ensures.1 in
    rw (p.1, p.2) (λ outer s fits enters. c.in_err-number.ensures outer s enters)
