use Rattle.std.proofs.Common.{inl, inr, refl}
use Rattle.std.proofs.KnownBytes.{Keeps-refl}
use Rattle.form_commands.specs.Inner.RunSteps.{result_of_lines}
use Rattle.form_commands.proofs.LeftAlone.{lines_left}
use Rattle.form_commands.proofs.NumberResults.{lines_streamed}
use Rattle.form_commands.proofs.run.lines_by.Goals as goal

pub returns-in-Ok-Ok-clause-answers : goal.returns-in-Ok-Ok-clause-answers
returns-in-Ok-Ok-clause-answers g c =
    inl (
      c.in-Ok-Ok.language,
      rw c.in-Ok-Ok.field-0-is at c.in-Ok-Ok.ensures,
      rw c.result_of.ensures
          (lines_streamed c.in-Ok-Ok.language.rules (g.N.Read.remaining c.args.numbers.now) (g.N.Read.remaining c.answer_input.new.numbers)
          (g.W.Write.contents c.args.writer.now) (g.W.Write.contents c.answer_input.new.writer) c.answer_input.result
          c.answer_input.ensures),
    )

pub returns-in-Ok-Err-clause-answers : goal.returns-in-Ok-Err-clause-answers
returns-in-Ok-Err-clause-answers g c =
    inr (inl (
      c.in-Ok-Err.error,
      rw c.in-Ok-Err.field-0-is at c.in-Ok-Err.ensures,
      refl,
      (Keeps-refl (g.N.Read.remaining c.args.numbers.now), Keeps-refl (g.W.Write.contents c.args.writer.now)),
    ))

pub returns-in-Err-clause-answers : goal.returns-in-Err-clause-answers
returns-in-Err-clause-answers g c =
    inr (inr (refl, (Keeps-refl (g.N.Read.remaining c.args.numbers.now), Keeps-refl (g.W.Write.contents c.args.writer.now))))

pub returns-in-Ok-Ok-clause-touches_nothing : goal.returns-in-Ok-Ok-clause-touches_nothing
returns-in-Ok-Ok-clause-touches_nothing g c =
    let rules = c.in-Ok-Ok.language.rules in
    let streamed = lines_streamed rules (g.N.Read.remaining c.args.numbers.now) (g.N.Read.remaining c.answer_input.new.numbers)
    (g.W.Write.contents c.args.writer.now) (g.W.Write.contents c.answer_input.new.writer) c.answer_input.result c.answer_input.ensures in
    rw c.result_of.ensures
    (lines_left rules (g.N.Read.remaining c.args.numbers.now) (g.N.Read.remaining c.answer_input.new.numbers)
    (g.W.Write.contents c.args.writer.now) (g.W.Write.contents c.answer_input.new.writer) _ (result_of_lines c.answer_input.result)
    streamed)
