use Rattle.std.proofs.lemmas.Result.{err_from_is_err_and}
use Rattle.document_report.specs.CheckedDocument.{document_of_bytes}
use Rattle.serde_json.specs.View.{view}
use Rattle.document_notes.proofs.NotedAnswers.{answered, passed_on, refused}
use Rattle.document_notes.specs.NotedAnswer.{noted_view}
use Rattle.document_notes.proofs.run.noted_of_bytes.Goals as goal

pub returns-in_err-document : goal.returns-in_err-document
returns-in_err-document g c =
    refused (g.P.NotedPrinter.text_of c.args.printer.now) c.args.is_strict c.args.bytes.now (document_of_bytes c.args.bytes.now) c.in_err-document.field-0.0 c.from_residual.result
    (passed_on _ _ (err_from_is_err_and c.from_residual.result c.from_residual.ensures.1)) c.in_err-document.ensures

pub returns-in-Ok : goal.returns-in-Ok
returns-in-Ok g c =
    answered (g.P.NotedPrinter.text_of c.args.printer.now) c.args.is_strict c.args.bytes.now (document_of_bytes c.args.bytes.now) (view c.in_ok-document.document) (noted_view c.in-Ok.noted)
    c.in_ok-document.ensures c.in-Ok.ensures
