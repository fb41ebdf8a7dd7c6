use Rattle.std.proofs.Common.{inl, inr, refl, sym, subst}
use Rattle.std.proofs.KnownBytes.{Keeps-refl}
use Rattle.serde_json.specs.View.{view}
use Rattle.form_commands.specs.KeyNotes.{AreFileNotes}
use Rattle.form_commands.proofs.LeftAlone.{nothing_written}
use Rattle.form_commands.proofs.run.noted_files.Goals as goal

pub returns-in-Ok-clause-answers : goal.returns-in-Ok-clause-answers
returns-in-Ok-clause-answers g c =
    inl (
      c.check_by-answer.result,
      c.as_str.result.now,
      c.check_by-answer.ensures.answers,
      subst (AreFileNotes (view c.args.document.now) c.args.files.now) (sym c.as_str.ensures.value) c.in-Ok.ensures,
      c.write_notes.ensures.written,
    )

pub returns-in-Err-clause-answers : goal.returns-in-Err-clause-answers
returns-in-Err-clause-answers g c =
    inr (
      inr (inr (refl, Keeps-refl (g.W.Write.contents c.args.writer.now))),
      refl,
      Keeps-refl (g.E.Write.contents c.args.notes.now),
    )

pub returns-in-Ok-clause-writes_nothing : goal.returns-in-Ok-clause-writes_nothing
returns-in-Ok-clause-writes_nothing g c =
    nothing_written _ _ c.as_str.result.now (g.E.Write.contents c.args.notes.now) (g.E.Write.contents c.write_notes.new.notes)
    c.check_by-answer.result c.write_notes.result c.check_by-answer.ensures.writes_nothing c.write_notes.ensures.written
    c.write_notes.ensures.writes_nothing
