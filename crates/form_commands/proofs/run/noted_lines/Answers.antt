use Rattle.std.proofs.Common.{inl, inr, refl, sym, subst}
use Rattle.std.specs.Prelude.{IsTrue}
use Rattle.std.proofs.KnownBytes.{Keeps-refl}
use Rattle.form_commands.specs.Inner.NoteSteps.{IsKeptNote}
use Rattle.form_commands.specs.FormsErrors.{is_of_rules}
use Rattle.form_commands.proofs.LeftAlone.{left_by_notes, write_not_of_rules}
use Rattle.form_commands.proofs.run.noted_lines.Goals as goal

pub returns-in-Ok-clause-answers : goal.returns-in-Ok-clause-answers
returns-in-Ok-clause-answers g c =
    inl (
      c.lines_by-answer.result,
      c.as_str.result.now,
      c.lines_by-answer.ensures.answers,
      subst (IsKeptNote c.args.kept.now c.args.part c.args.locale.now) (sym c.as_str.ensures.value) c.in-Ok.ensures,
      c.write_notes.ensures.written,
    )

pub returns-in-Err-clause-answers : goal.returns-in-Err-clause-answers
returns-in-Err-clause-answers g c =
    inr (
      inr (inr (refl, (Keeps-refl (g.N.Read.remaining c.args.numbers.now), Keeps-refl (g.W.Write.contents c.args.writer.now)))),
      refl,
      Keeps-refl (g.E.Write.contents c.args.notes.now),
    )

pub returns-in-Ok-clause-touches_nothing : goal.returns-in-Ok-clause-touches_nothing
returns-in-Ok-clause-touches_nothing g c =
    left_by_notes (λ e. IsTrue (is_of_rules e)) _ c.as_str.result.now (g.E.Write.contents c.args.notes.now)
    (g.E.Write.contents c.write_notes.new.notes) c.lines_by-answer.result c.write_notes.result write_not_of_rules
    c.lines_by-answer.ensures.touches_nothing c.write_notes.ensures.written
