use Rattle.std.proofs.Common.{Ok, Err, refl, rules}
use Rattle.std.proofs.lemmas.Result.{err_from_is_err_and}
use Rattle.document_report.specs.CheckAnswer.{AnswersDocument, AnswersInputAs, check_origin}
use Rattle.document_report.specs.CheckedDocument.{document_of_input}
use Rattle.document_report.specs.Inner.CheckCalls.{answer_view}
use Rattle.document_report.proofs.CheckFaults.{handed_on}
use Rattle.document_report.proofs.CheckReadings.{kept, not_written, with_words, without_words}
use Rattle.plural_documents.proofs.InputLemmas.{implied, some_input}
use Rattle.document_report.proofs.run.run_as.Goals as goal

pub returns-then-has_words-clause-answers : goal.returns-then-has_words-clause-answers
returns-then-has_words-clause-answers g c =
    let input = some_input (g.R.Read.remaining c.args.reader.now) in (
      input.0,
      input.1,
      (
        with_words (g.P.ReportPrinter.text_of c.args.printer.now) c.args.has_words input.0 c.if-has_words.true,
        kept (g.W.Write.contents c.args.writer.now),
      ),
    )

pub returns-in_err-answer-clause-answers : goal.returns-in_err-answer-clause-answers
returns-in_err-answer-clause-answers g c =
    let e = c.in_err-answer.field-0.0 in
    let a = c.in_err-answer.ensures.answers in (
      a.0,
      a.1,
      not_written (AnswersInputAs (g.P.ReportPrinter.text_of c.args.printer.now) c.args.has_words a.0)
          (g.W.Write.contents c.args.writer.now) e c.from_residual.result
          (handed_on _ _ (err_from_is_err_and c.from_residual.result c.from_residual.ensures.1))
          (implied check_origin answer_view (AnswersDocument (g.P.ReportPrinter.text_of c.args.printer.now) (document_of_input a.0))
          (AnswersInputAs (g.P.ReportPrinter.text_of c.args.printer.now) c.args.has_words a.0)
          (λ answer h. without_words (g.P.ReportPrinter.text_of c.args.printer.now) c.args.has_words a.0 answer c.if-has_words.false h)
          (Err e) a.2),
    )

pub returns-in-Ok-clause-answers : goal.returns-in-Ok-clause-answers
returns-in-Ok-clause-answers g c =
    let a = c.in_ok-answer.ensures.answers in
    let answer = answer_view c.in_ok-answer.answer in (
      a.0,
      a.1,
      (
        answer,
        without_words (g.P.ReportPrinter.text_of c.args.printer.now) c.args.has_words a.0 (Ok answer) c.if-has_words.false a.2,
        refl,
        search rules,
      ),
    )

pub returns-clause-answers : goal.returns-clause-answers
returns-clause-answers g c =
    let a = c.in_ok-answer.ensures.answers in
    let answer = answer_view c.in_ok-answer.answer in (
      a.0,
      a.1,
      (
        answer,
        without_words (g.P.ReportPrinter.text_of c.args.printer.now) c.args.has_words a.0 (Ok answer) c.if-has_words.false a.2,
        search rules,
      ),
    )
