-- The results of lines and texts, as those of a command.
use Rattle.std.proofs.Common.{ℕ, List, Bool, Option, Result, Ok, Err, ap}
use Rattle.std.specs.Prelude.{◌≢◌, IfErr}
use Rattle.icu_plurals.specs.FiveRules.{FiveRules}
use Rattle.number_lines.specs.AnsweredInputs.{AnswersInput, WritesPrinted}
use Rattle.number_lines.specs.PrintedTexts.{PrintedText}
use Rattle.number_lines.specs.declared.LinesError.{LinesError}
use Rattle.number_lines.specs.declared.LinesError.TheVariants as lines
use Rattle.form_commands.specs.FormsAnswers.{IsStreamed}
use Rattle.form_commands.specs.Inner.FormsInputFaults.{lines_fault}
use Rattle.form_commands.specs.Inner.RunSteps.{WritesText, result_of_lines, verdict_by}
use Rattle.form_commands.specs.declared.error.FormsError.{FormsError}
use Rattle.form_commands.specs.declared.error.FormsError.TheVariants.{Write}
use Rattle.form_commands.specs.declared.error.Verdict.{Verdict}

pub lines_streamed : (rules : FiveRules) (before left old new : Option (List ℕ)) (r : Result Bool LinesError)
    → AnswersInput rules before left old new r → IsStreamed rules before left old new (result_of_lines r)
unfolding AnswersInput IsStreamed
lines_streamed rules before left old new (Ok has_fault) s = (s.0, s.1, s.2, s.3, s.4, ap verdict_by s.5, s.6)
lines_streamed rules before left old new (Err lines.Read) s = s
lines_streamed rules before left old new (Err lines.Write) s = s
lines_streamed rules before left old new (Err lines.Memory) s = s

pub text_written : (printed : PrintedText) (old new : Option (List ℕ)) (r : Result Bool LinesError) → WritesPrinted printed old new r
    → WritesText printed old new (result_of_lines r)
text_written printed old new (Ok has_fault) w = (ap verdict_by w.0, w.1)
text_written printed old new (Err error) w = (ap lines_fault w.0, w.1)

-- a text fails by a failed write alone
pub only_writes : (P : Type 0) (printed : PrintedText) (old new : Option (List ℕ)) (r : Result Verdict FormsError)
    → WritesText printed old new r
    → IfErr r (λ e. e ≢ Write → P)
only_writes P printed old new (Ok verdict) w = tt
only_writes P printed old new (Err error) w = λ not. absurd (not w.0)
