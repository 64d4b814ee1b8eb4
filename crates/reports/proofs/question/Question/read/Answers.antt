use Rattle.std.proofs.Common.{◌≡◌, rules, refl, sym, subst, MatchResult, Err, arith}
use Rattle.reports.specs.declared.refusal.Refusal.TheVariants as refusal
use Rattle.reports.specs.Reports.{Bad, QuestionOf}
use Rattle.reports.proofs.ReportLaws.{rule_refused}
use Rattle.reports.proofs.question.Question.read.Goals as goal

pub returns-then-input-gt-INPUT_LIMIT : goal.returns-then-input-gt-INPUT_LIMIT
returns-then-input-gt-INPUT_LIMIT c = Bad.too_long c.if-input-gt-INPUT_LIMIT.true

pub returns-in_err-read_text : goal.returns-in_err-read_text
returns-in_err-read_text c =
    let f = c.in_err-read_text.field-0.0 in
    let is : c.from_residual.result ≡ Err (refusal.Rule f) = search rules in
    let bad = rule_refused c.args.input.now _ _ c.in_err-read_text.ensures (omega arith) c.if-input-gt-INPUT_LIMIT.false
    (record { at = c.first_at-end.result; first_at = c.first_at-end.ensures; first_is = refl; second_is = refl }) in
    subst (λ r. MatchResult r (QuestionOf c.args.input.now) (Bad c.args.input.now)) (sym is) bad
