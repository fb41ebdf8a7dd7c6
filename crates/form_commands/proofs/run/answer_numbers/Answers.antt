use Rattle.std.proofs.Common.{[]}
use Rattle.number_lines.specs.NumberAnswers.{command_words_view}
use Rattle.form_commands.specs.FormsAnswers.{Answers, IsAnsweredText, IsNumbersAnswer}
use Rattle.form_commands.specs.KeyNotes.{IsNote}
use Rattle.form_commands.proofs.NoteLemmas.{none_noted, printed_noted}
use Rattle.form_commands.proofs.RulesRead.{answer_read}
use Rattle.form_commands.proofs.RulesServe.{text_served, unknown_answer}
use Rattle.form_commands.proofs.run.answer_numbers.Goals as goal

pub returns-in-Ok-clause-answers : goal.returns-in-Ok-clause-answers
returns-in-Ok-clause-answers g c =
    let d = c.in-Ok.ensures.document in
    let rules = d.2 in
    let served =
    text_served c.args.part c.args.locale.now c.in-Ok.kept rules.0 rules.2 rules.3 (IsNumbersAnswer (command_words_view c.args.numbers.now))
    (g.W.Write.contents c.args.writer.now) (g.W.Write.contents c.numbers_by.new.writer) (g.E.Write.contents c.args.notes.now)
    (g.E.Write.contents c.numbers_by.new.notes) c.numbers_by.result c.numbers_by.ensures.answers in
    let both = printed_noted (Answers (IsNumbersAnswer (command_words_view c.args.numbers.now)) c.args.part c.args.locale.now)
    (λ document note. IsNote document [] c.args.part c.args.locale.now note) d.0 rules.0
    (g.W.Write.contents c.args.writer.now) (g.W.Write.contents c.numbers_by.new.writer) (g.E.Write.contents c.args.notes.now)
    (g.E.Write.contents c.numbers_by.new.notes) c.numbers_by.result rules.1 served in
    (d.0, d.1, both)

pub returns-in-Err-clause-answers : goal.returns-in-Err-clause-answers
returns-in-Err-clause-answers g c =
    let d = c.in-Err.ensures.document in (
      d.0,
      d.1,
      none_noted (λ document note. IsNote document [] c.args.part c.args.locale.now note)
          (IsAnsweredText (Answers (IsNumbersAnswer (command_words_view c.args.numbers.now)) c.args.part c.args.locale.now) d.0
          (g.W.Write.contents c.args.writer.now) (g.W.Write.contents c.args.writer.now)) d.0 (g.E.Write.contents c.args.notes.now)
          c.in-Err.error
          (unknown_answer (IsNumbersAnswer (command_words_view c.args.numbers.now)) c.args.part c.args.locale.now d.0
          (g.W.Write.contents c.args.writer.now) c.in-Err.error d.2),
    )

pub returns-in-Ok-clause-reads : goal.returns-in-Ok-clause-reads
returns-in-Ok-clause-reads g c =
    let IsAnswer = Answers (IsNumbersAnswer (command_words_view c.args.numbers.now)) c.args.part c.args.locale.now in
    let d = c.in-Ok.ensures.document in
    let rules = d.2 in
    let served =
    text_served c.args.part c.args.locale.now c.in-Ok.kept rules.0 rules.2 rules.3 (IsNumbersAnswer (command_words_view c.args.numbers.now))
    (g.W.Write.contents c.args.writer.now) (g.W.Write.contents c.numbers_by.new.writer) (g.E.Write.contents c.args.notes.now)
    (g.E.Write.contents c.numbers_by.new.notes) c.numbers_by.result c.numbers_by.ensures.answers in
    let old = g.W.Write.contents c.args.writer.now in
    let new = g.W.Write.contents c.numbers_by.new.writer in
    let both = printed_noted IsAnswer (λ document note. IsNote document [] c.args.part c.args.locale.now note) d.0 rules.0 old new
    (g.E.Write.contents c.args.notes.now) (g.E.Write.contents c.numbers_by.new.notes) c.numbers_by.result rules.1 served in
    answer_read IsAnswer (g.R.Read.remaining c.args.rules.now) (g.R.Read.remaining c.rules_of.new.reader) old new d.0 rules.0
    c.numbers_by.result c.in-Ok.ensures.reads rules.1 both.0
