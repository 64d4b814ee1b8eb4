use Rattle.labels.specs.NameLaws.{compared}
use Rattle.reports.specs.Reports.{Reports}
use Rattle.reports.proofs.ReportLaws.{selected_by}
use Rattle.reports.proofs.report.answer.Goals as goal

pub returns : goal.returns
returns c bs asked =
    Reports.selected asked.asks
    (selected_by _ compared bs c.args.question.now asked _ c.new-source.result c.labels.result.now _ _ _ _ _
    c.new-source.ensures.meaning c.new-source.ensures.labels c.labels.ensures c.select-answer.ensures.selection c.of_selection.ensures)
