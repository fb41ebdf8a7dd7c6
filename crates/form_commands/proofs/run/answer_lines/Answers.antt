use Rattle.std.proofs.Common.{[]}
use Rattle.form_commands.specs.FormsAnswers.{IsAnsweredLines}
use Rattle.form_commands.specs.KeyNotes.{IsNote}
use Rattle.form_commands.proofs.NoteLemmas.{lines_noted_by, none_noted}
use Rattle.form_commands.proofs.RulesRead.{lines_read}
use Rattle.form_commands.proofs.RulesServe.{lines_served, unknown_lines}
use Rattle.form_commands.proofs.run.answer_lines.Goals as goal

pub returns-in-Ok-clause-answers : goal.returns-in-Ok-clause-answers
returns-in-Ok-clause-answers g c =
    let d = c.in-Ok.ensures.document in
    let rules = d.2 in
    let served = lines_served c.args.part c.args.locale.now c.in-Ok.kept rules.0 rules.2 rules.3 (g.N.Read.remaining c.args.numbers.now)
    (g.N.Read.remaining c.noted_lines.new.numbers) (g.W.Write.contents c.args.writer.now) (g.W.Write.contents c.noted_lines.new.writer)
    (g.E.Write.contents c.args.notes.now) (g.E.Write.contents c.noted_lines.new.notes) c.noted_lines.result c.noted_lines.ensures.answers in
    let both = lines_noted_by c.args.part c.args.locale.now (λ document note. IsNote document [] c.args.part c.args.locale.now note) d.0
    rules.0 (g.N.Read.remaining c.args.numbers.now) (g.N.Read.remaining c.noted_lines.new.numbers)
    (g.W.Write.contents c.args.writer.now) (g.W.Write.contents c.noted_lines.new.writer) (g.E.Write.contents c.args.notes.now)
    (g.E.Write.contents c.noted_lines.new.notes) c.noted_lines.result rules.1 rules.3 served in
    (d.0, d.1, both)

pub returns-in-Err-clause-answers : goal.returns-in-Err-clause-answers
returns-in-Err-clause-answers g c =
    let d = c.in-Err.ensures.document in (
      d.0,
      d.1,
      none_noted (λ document note. IsNote document [] c.args.part c.args.locale.now note)
          (IsAnsweredLines c.args.part c.args.locale.now d.0 (g.N.Read.remaining c.args.numbers.now) (g.N.Read.remaining c.args.numbers.now)
          (g.W.Write.contents c.args.writer.now) (g.W.Write.contents c.args.writer.now)) d.0 (g.E.Write.contents c.args.notes.now)
          c.in-Err.error
          (unknown_lines c.args.part c.args.locale.now d.0 (g.N.Read.remaining c.args.numbers.now) (g.W.Write.contents c.args.writer.now)
          c.in-Err.error d.2),
    )

pub returns-in-Ok-clause-reads : goal.returns-in-Ok-clause-reads
returns-in-Ok-clause-reads g c =
    let d = c.in-Ok.ensures.document in
    let rules = d.2 in
    let served = lines_served c.args.part c.args.locale.now c.in-Ok.kept rules.0 rules.2 rules.3 (g.N.Read.remaining c.args.numbers.now)
    (g.N.Read.remaining c.noted_lines.new.numbers) (g.W.Write.contents c.args.writer.now) (g.W.Write.contents c.noted_lines.new.writer)
    (g.E.Write.contents c.args.notes.now) (g.E.Write.contents c.noted_lines.new.notes) c.noted_lines.result c.noted_lines.ensures.answers in
    let before = g.N.Read.remaining c.args.numbers.now in
    let after = g.N.Read.remaining c.noted_lines.new.numbers in
    let old = g.W.Write.contents c.args.writer.now in
    let new = g.W.Write.contents c.noted_lines.new.writer in
    let both =
    lines_noted_by c.args.part c.args.locale.now (λ document note. IsNote document [] c.args.part c.args.locale.now note) d.0 rules.0
    before after old new (g.E.Write.contents c.args.notes.now) (g.E.Write.contents c.noted_lines.new.notes) c.noted_lines.result rules.1
    rules.3 served in
    lines_read c.args.part c.args.locale.now (g.R.Read.remaining c.args.rules.now) (g.R.Read.remaining c.rules_of.new.reader) before after
    old new d.0 rules.0 c.noted_lines.result c.in-Ok.ensures.reads rules.1 both.0
