use Rattle.serde_json.specs.View.{view}
use Rattle.document_report.proofs.CheckReadings.{report_answered}
use Rattle.document_report.proofs.run.answer_of.Goals as goal

pub returns-in-Ok : goal.returns-in-Ok
returns-in-Ok g c =
    report_answered (g.P.ReportPrinter.text_of c.args.printer.now) (view c.args.document.now) c.in-Ok.report
    c.answer_with-answer.result c.in-Ok.ensures c.answer_with-answer.ensures
