-- What calls leave alone.
use Rattle.std.proofs.Common.{◌≡◌, ℕ, List, Option, Result, Ok, Err, inl, inr, refl}
use Rattle.std.specs.Prelude.{◌≢◌, IfErr, IsTrue}
use Rattle.icu_plurals.specs.FiveRules.{FiveRules}
use Rattle.message_report.specs.declared.error.ReportError.{ReportError}
use Rattle.message_report.specs.declared.error.ReportError.TheVariants as report
use Rattle.form_commands.specs.FormsAnswers.{IsStreamed}
use Rattle.form_commands.specs.FormsErrors.{is_of_rules}
use Rattle.form_commands.specs.Inner.FormsInputFaults.{report_fault}
use Rattle.form_commands.specs.Inner.NoteSteps.{Notes}
use Rattle.form_commands.specs.declared.error.FormsError.{FormsError}
use Rattle.form_commands.specs.declared.error.FormsError.TheVariants.{Rules, TooLong, Json, Refused, Language, Numbers, Write, Memory}
use Rattle.form_commands.specs.declared.error.Verdict.{Verdict}

-- what an answer leaves alone, its notes do, if a failed write needs not
pub left_by_notes : (Q : FormsError → Type 0) (P : Type 0) (notes : List ℕ) (old new : Option (List ℕ))
    (answer result : Result Verdict FormsError)
    → (Q Write → ⊥) → IfErr answer (λ e. Q e → P) → Notes answer notes old new result → IfErr result (λ e. Q e → P)
left_by_notes Q P notes old new (Ok verdict) result none alone (inl w) = rw w.0 tt
left_by_notes Q P notes old new (Ok verdict) result none alone (inr w) = rw w.0 (λ q. absurd (none q))
left_by_notes Q P notes old new (Err error) result none alone w = rw w.0 alone

-- a failed write is no fault of the rules
pub write_not_of_rules : IsTrue (is_of_rules Write) → ⊥
write_not_of_rules is = cc

-- two facts after an error
pub both_left : (Q : FormsError → Type 0) (A B : Type 0) (r : Result Verdict FormsError) → IfErr r (λ e. Q e → A) → IfErr r (λ e. Q e → B)
    → IfErr r (λ e. Q e → A × B)
both_left Q A B (Ok verdict) a b = tt
both_left Q A B (Err error) a b = λ q. (a q, b q)

-- the writer after an answer, and the notes after it
pub nothing_written : (A B : Type 0) (text : List ℕ) (old new : Option (List ℕ)) (answer result : Result Verdict FormsError)
    → IfErr answer (λ e. e ≢ Write → A) → Notes answer text old new result → IfErr result (λ e. e ≢ Write → B)
    → IfErr result (λ e. e ≢ Write → A × B)
nothing_written A B text old new answer result writer notes after =
    both_left (λ e. e ≢ Write) A B result (left_by_notes (λ e. e ≢ Write) A text old new answer result (λ none. none refl) writer notes)
    after

-- the lines of numbers are read only if the rules have no fault
pub lines_left : (rules : FiveRules) (before left old new : Option (List ℕ)) (P : Type 0) (r : Result Verdict FormsError)
    → IsStreamed rules before left old new r → IfErr r (λ e. IsTrue (is_of_rules e) → P)
unfolding IsStreamed
lines_left rules before left old new P (Ok verdict) s = tt
lines_left rules before left old new P (Err Rules) s = absurd s
lines_left rules before left old new P (Err TooLong) s = absurd s
lines_left rules before left old new P (Err Json) s = absurd s
lines_left rules before left old new P (Err (Refused error)) s = absurd s
lines_left rules before left old new P (Err (Language error)) s = absurd s
lines_left rules before left old new P (Err Numbers) s = λ is. cc
lines_left rules before left old new P (Err Write) s = λ is. cc
lines_left rules before left old new P (Err Memory) s = λ is. cc

-- a report that failed otherwise than at a write wrote nothing
pub report_left : (P : Type 0) (error : ReportError) (fault : FormsError) → fault ≡ report_fault error → (error ≢ report.Write → P)
    → fault ≢ Write → P
report_left P report.Write fault is alone not = absurd (not is)
report_left P report.Memory fault is alone not = alone (λ same. cc)
