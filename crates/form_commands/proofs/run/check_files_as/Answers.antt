use Rattle.serde_json.specs.View.{view}
use Rattle.form_commands.specs.FormsAnswers.{IsCheckedAs}
use Rattle.form_commands.specs.KeyNotes.{AreFileNotes}
use Rattle.form_commands.proofs.AnswerLemmas.{no_report}
use Rattle.form_commands.proofs.NoteLemmas.{none_noted, report_noted}
use Rattle.form_commands.proofs.RulesRead.{report_read}
use Rattle.form_commands.proofs.run.check_files_as.Goals as goal

pub returns-in-Ok-clause-answers : goal.returns-in-Ok-clause-answers
returns-in-Ok-clause-answers g c =
    let d = c.in-Ok.ensures.document in
    let both =
    report_noted (g.P.ReportPrinter.text_of c.args.printer.now) c.args.files.now
    (λ document note. AreFileNotes document c.args.files.now note) d.0 (view c.in-Ok.document)
    (g.W.Write.contents c.args.writer.now) (g.W.Write.contents c.noted_files.new.writer) (g.E.Write.contents c.args.notes.now)
    (g.E.Write.contents c.noted_files.new.notes) c.noted_files.result d.2 c.noted_files.ensures.answers in
    (d.0, d.1, both)

pub returns-in-Err-clause-answers : goal.returns-in-Err-clause-answers
returns-in-Err-clause-answers g c =
    let d = c.in-Err.ensures.document in (
      d.0,
      d.1,
      none_noted (λ document note. AreFileNotes document c.args.files.now note)
          (IsCheckedAs (g.P.ReportPrinter.text_of c.args.printer.now) c.args.files.now d.0 (g.W.Write.contents c.args.writer.now)
          (g.W.Write.contents c.args.writer.now)) d.0
          (g.E.Write.contents c.args.notes.now) c.in-Err.error
          (no_report (g.P.ReportPrinter.text_of c.args.printer.now) c.args.files.now d.0 (g.W.Write.contents c.args.writer.now)
          c.in-Err.error d.2),
    )

pub returns-in-Ok-clause-reads : goal.returns-in-Ok-clause-reads
returns-in-Ok-clause-reads g c =
    let d = c.in-Ok.ensures.document in
    let document = view c.in-Ok.document in
    let old = g.W.Write.contents c.args.writer.now in
    let new = g.W.Write.contents c.noted_files.new.writer in
    let both =
    report_noted (g.P.ReportPrinter.text_of c.args.printer.now) c.args.files.now
    (λ document note. AreFileNotes document c.args.files.now note) d.0 document old new
    (g.E.Write.contents c.args.notes.now) (g.E.Write.contents c.noted_files.new.notes) c.noted_files.result d.2
    c.noted_files.ensures.answers in
    report_read (g.P.ReportPrinter.text_of c.args.printer.now) c.args.files.now (g.R.Read.remaining c.args.rules.now)
    (g.R.Read.remaining c.document_of.new.reader) old new d.0 document
    c.noted_files.result c.in-Ok.ensures.reads d.2 both.0
