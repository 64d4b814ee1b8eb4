use Rattle.reports.proofs.ElementLaws.{reports_elements}
use Rattle.reports.proofs.ReportLaws.{reports_fit}
use Rattle.reports.proofs.OneReport.{only_report, with_room}
use Rattle.reports.proofs.report.report_on.Goals as goal

pub returns-in-Ok-clause-reports : goal.returns-in-Ok-clause-reports
returns-in-Ok-clause-reports c = only_report _ _ _ _ (c.answer.ensures _ c.in-Ok.ensures)

pub returns-in-Ok-clause-fits : goal.returns-in-Ok-clause-fits
returns-in-Ok-clause-fits c = reports_fit _ _ _ _ (c.answer.ensures _ c.in-Ok.ensures)

pub returns-in-Ok-clause-elements : goal.returns-in-Ok-clause-elements
returns-in-Ok-clause-elements c = reports_elements _ _ _ _ (c.answer.ensures _ c.in-Ok.ensures)

pub returns-in-Ok-clause-room : goal.returns-in-Ok-clause-room
returns-in-Ok-clause-room c = with_room _ _ _ _ (c.answer.ensures _ c.in-Ok.ensures)
