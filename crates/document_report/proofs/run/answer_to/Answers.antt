use Rattle.std.proofs.Common.{Err, Result, refl, subst, sym}
use Rattle.serde_json.specs.Data.{Data}
use Rattle.document_report.specs.CheckAnswer.{AnswersDocument}
use Rattle.document_report.specs.CheckedDocument.{document_of_bytes}
use Rattle.document_report.specs.Inner.CheckCalls.{Gives, answer_view}
use Rattle.document_report.specs.declared.error.CheckError.{CheckError}
use Rattle.document_report.proofs.CheckReadings.{document_refused}
use Rattle.document_report.proofs.run.answer_to.Goals as goal

pub returns-in-Ok : goal.returns-in-Ok
returns-in-Ok g c =
    subst (λ (value : Result Data CheckError). Gives answer_view (AnswersDocument (g.P.ReportPrinter.text_of c.args.printer.now) value)
    c.answer_of-answer.result)
    (sym c.in-Ok.ensures) c.answer_of-answer.ensures

pub returns-in-Err : goal.returns-in-Err
returns-in-Err g c =
    document_refused (g.P.ReportPrinter.text_of c.args.printer.now) (document_of_bytes c.args.bytes.now) c.in-Err.error
    (Err c.in-Err.error) refl c.in-Err.ensures
