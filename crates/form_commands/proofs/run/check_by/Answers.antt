use Rattle.std.proofs.Common.{inl}
use Rattle.serde_json.specs.View.{view}
use Rattle.form_commands.proofs.AnswerLemmas.{no_rules}
use Rattle.form_commands.proofs.run.check_by.Goals as goal

pub returns-in-Ok-clause-answers : goal.returns-in-Ok-clause-answers
returns-in-Ok-clause-answers g c = inl (c.in-Ok.provider, c.in-Ok.ensures.answers, c.report_by.ensures.answers)

pub returns-in-Err-clause-answers : goal.returns-in-Err-clause-answers
returns-in-Err-clause-answers g c =
    no_rules (g.P.ReportPrinter.text_of c.args.printer.now) (view c.args.document.now) c.args.files.now
    (g.W.Write.contents c.args.writer.now) c.in-Err.error c.refused.result
    c.in-Err.ensures.answers c.refused.ensures
