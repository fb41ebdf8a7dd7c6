use Rattle.std.proofs.lemmas.Result.{err_from_is_err_and}
use Rattle.document_report.specs.CheckAnswer.{AnswersDocument}
use Rattle.document_report.specs.CheckedDocument.{document_of_bytes}
use Rattle.document_report.specs.Inner.CheckCalls.{check_input_fault}
use Rattle.document_report.proofs.CheckFaults.{handed_on}
use Rattle.document_report.proofs.CheckReadings.{answer_not_long, no_input, of_all, read_on, to_the_end}
use Rattle.document_report.proofs.run.answer_to_reader.Goals as goal

pub returns-in_err-input-clause-answers : goal.returns-in_err-input-clause-answers
returns-in_err-input-clause-answers g c =
    no_input (g.P.ReportPrinter.text_of c.args.printer.now)
    (g.R.Read.remaining c.args.reader.now) c.in_err-input.field-0.0 c.from_residual.result
    (handed_on _ (check_input_fault c.in_err-input.field-0.0) (err_from_is_err_and c.from_residual.result c.from_residual.ensures.1))
    c.in_err-input.ensures.input

pub returns-in_err-input-clause-reads : goal.returns-in_err-input-clause-reads
returns-in_err-input-clause-reads g c =
    read_on _ _ c.in_err-input.field-0.0 c.from_residual.result
    (handed_on _ (check_input_fault c.in_err-input.field-0.0) (err_from_is_err_and c.from_residual.result c.from_residual.ensures.1))
    c.in_err-input.ensures.read

pub returns-clause-answers : goal.returns-clause-answers
returns-clause-answers g c = (
  c.in_ok-input.input.items,
  c.in_ok-input.ensures.input.0,
  of_all (g.P.ReportPrinter.text_of c.args.printer.now) c.in_ok-input.input.items c.as_slice.result.now
      c.in_ok-input.ensures.input.1 c.as_slice.ensures.value c.answer_to.result c.answer_to.ensures,
)

pub returns-clause-reads : goal.returns-clause-reads
returns-clause-reads g c =
    to_the_end (AnswersDocument (g.P.ReportPrinter.text_of c.args.printer.now) (document_of_bytes c.as_slice.result.now))
    (g.R.Read.remaining c.args.reader.now) (g.R.Read.remaining c.read_input.new.reader)
    (answer_not_long (g.P.ReportPrinter.text_of c.args.printer.now) c.as_slice.result.now) c.in_ok-input.ensures.read
    c.answer_to.result c.answer_to.ensures
