use Rattle.std.proofs.Common.{Err, inl, inr, refl, sym, subst}
use Rattle.std.proofs.KnownBytes.{Keeps-refl}
use Rattle.form_commands.specs.Inner.NoteSteps.{IsKeptNote}
use Rattle.form_commands.proofs.LeftAlone.{nothing_written}
use Rattle.form_commands.proofs.run.numbers_by.Goals as goal

pub returns-in-Ok-clause-answers : goal.returns-in-Ok-clause-answers
returns-in-Ok-clause-answers g c =
    inl (
      c.write_answer-answer.result,
      c.as_str.result.now,
      (c.categories_of-written.result, c.categories_of-written.ensures, c.write_answer-answer.ensures.answers),
      subst (IsKeptNote c.args.kept.now c.args.part c.args.locale.now) (sym c.as_str.ensures.value) c.in-Ok.ensures,
      c.write_notes.ensures.written,
    )

pub returns-in-Err-clause-answers : goal.returns-in-Err-clause-answers
returns-in-Err-clause-answers g c =
    inr (
      (Err c.in-Err.field-0, tt, (refl, Keeps-refl (g.W.Write.contents c.args.writer.now))),
      refl,
      Keeps-refl
          (g.E.Write.contents c.args.notes.now),
    )

pub returns-in-Ok-clause-writes_nothing : goal.returns-in-Ok-clause-writes_nothing
returns-in-Ok-clause-writes_nothing g c =
    nothing_written _ _ c.as_str.result.now (g.E.Write.contents c.args.notes.now) (g.E.Write.contents c.write_notes.new.notes)
    c.write_answer-answer.result c.write_notes.result c.write_answer-answer.ensures.writes_nothing c.write_notes.ensures.written
    c.write_notes.ensures.writes_nothing
