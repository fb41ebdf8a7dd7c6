use Rattle.std.proofs.Common.{refl, rules}
use Rattle.std.proofs.lemmas.Result.{err_from_is_err_and}
use Rattle.document_notes.proofs.NotedAnswers.{not_read, nothing_written, passed_on}
use Rattle.document_report.specs.CheckedDocument.{document_of_bytes}
use Rattle.document_notes.specs.NotedAnswer.{AnswersNoted, noted_view}
use Rattle.document_notes.proofs.run.write_noted.Goals as goal

pub returns-in_err-noted-clause-answers : goal.returns-in_err-noted-clause-answers
returns-in_err-noted-clause-answers g c =
    nothing_written (AnswersNoted (g.P.NotedPrinter.text_of c.args.printer.now) c.args.is_strict c.args.bytes.now (document_of_bytes c.args.bytes.now))
    (g.W.Write.contents c.args.writer.now) c.in_err-noted.field-0.0 c.from_residual.result
    (passed_on _ _ (err_from_is_err_and c.from_residual.result c.from_residual.ensures.1)) c.in_err-noted.ensures

pub returns-in-Ok-clause-answers : goal.returns-in-Ok-clause-answers
returns-in-Ok-clause-answers g c = (noted_view c.in_ok-noted.noted, c.in_ok-noted.ensures, refl, search rules)

pub returns-clause-answers : goal.returns-clause-answers
returns-clause-answers g c = (noted_view c.in_ok-noted.noted, c.in_ok-noted.ensures, search rules)

pub returns-in_err-noted-clause-reads_nothing : goal.returns-in_err-noted-clause-reads_nothing
returns-in_err-noted-clause-reads_nothing g c =
    not_read
    (AnswersNoted (g.P.NotedPrinter.text_of c.args.printer.now) c.args.is_strict c.args.bytes.now (document_of_bytes c.args.bytes.now))
    c.in_err-noted.field-0.0 c.from_residual.result
    (passed_on _ _ (err_from_is_err_and c.from_residual.result c.from_residual.ensures.1)) c.in_err-noted.ensures

pub returns-in-Ok-clause-reads_nothing : goal.returns-in-Ok-clause-reads_nothing
returns-in-Ok-clause-reads_nothing g c = λ is. cc

pub returns-clause-reads_nothing : goal.returns-clause-reads_nothing
returns-clause-reads_nothing g c = λ is. cc
