use Rattle.form_commands.specs.FormsAnswers.{Answers, IsListAnswer}
use Rattle.form_commands.proofs.AnswerLemmas.{document_answered}
use Rattle.form_commands.proofs.RulesRead.{answer_read}
use Rattle.form_commands.proofs.RulesServe.{printed_served, unknown_answer}
use Rattle.form_commands.proofs.run.list_forms.Goals as goal

pub returns-in-Ok-clause-answers : goal.returns-in-Ok-clause-answers
returns-in-Ok-clause-answers g c =
    let d = c.in-Ok.ensures.document in
    let rules = d.2 in
    let printed =
    printed_served c.args.part c.args.locale.now c.in-Ok.kept rules.0 rules.2 rules.3 (IsListAnswer c.args.part c.args.locale.now)
    c.list_of.result c.list_of.ensures in (
      d.0,
      d.1,
      document_answered (Answers (IsListAnswer c.args.part c.args.locale.now) c.args.part c.args.locale.now) d.0 rules.0
          (g.W.Write.contents c.args.writer.now) (g.W.Write.contents c.write_answer.new.writer) c.list_of.result c.write_answer.result
          rules.1 printed c.write_answer.ensures.answers,
    )

pub returns-in-Err-clause-answers : goal.returns-in-Err-clause-answers
returns-in-Err-clause-answers g c =
    let d = c.in-Err.ensures.document in (
      d.0,
      d.1,
      unknown_answer (IsListAnswer c.args.part c.args.locale.now) c.args.part c.args.locale.now d.0 (g.W.Write.contents c.args.writer.now)
          c.in-Err.error d.2,
    )

pub returns-in-Ok-clause-reads : goal.returns-in-Ok-clause-reads
returns-in-Ok-clause-reads g c =
    let IsAnswer = Answers (IsListAnswer c.args.part c.args.locale.now) c.args.part c.args.locale.now in
    let d = c.in-Ok.ensures.document in
    let rules = d.2 in
    let printed =
    printed_served c.args.part c.args.locale.now c.in-Ok.kept rules.0 rules.2 rules.3 (IsListAnswer c.args.part c.args.locale.now)
    c.list_of.result c.list_of.ensures in
    let old = g.W.Write.contents c.args.writer.now in
    let new = g.W.Write.contents c.write_answer.new.writer in
    answer_read IsAnswer (g.R.Read.remaining c.args.rules.now) (g.R.Read.remaining c.rules_of.new.reader) old new d.0 rules.0
    c.write_answer.result c.in-Ok.ensures.reads rules.1
    (document_answered IsAnswer d.0 rules.0 old new c.list_of.result c.write_answer.result rules.1 printed c.write_answer.ensures.answers)
