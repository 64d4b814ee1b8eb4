-- What is printed of a report.
use Rattle.std.specs.Prelude.{ℕ, List, ◌++◌, codes, Ok, Err}
use Rattle.std.specs.Fmt.{decimal}
use Rattle.std.specs.declared.result.Result.{Result}
use Rattle.reports.specs.declared.refusal.Refusal.{Refusal}
use Rattle.reports.specs.declared.report.Report.{Report}
use Rattle.reports.specs.Refusals.{refusal_text}

-- how a selection of so many numbers ended
abbrev pub verdict_text : {A : Type 0} → ℕ → Result A Refusal → List ℕ
verdict_text count (Ok x) = codes "selected " ++ decimal count
verdict_text count (Err refusal) = codes "refused " ++ refusal_text refusal

abbrev pub report_text : Report → List ℕ
report_text report = verdict_text report.reported report.verdict
