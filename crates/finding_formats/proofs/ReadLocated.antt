-- What is told is read again from its object, with its line and what says the number.
use Rattle.std.proofs.Common.{◌≡◌, ℕ, List, Option, Some, None, refl, sym, ap, ◌∙◌, codes}
use Rattle.std.specs.Prelude.{bytes_eq, if◌then◌else◌, is_some}
use Rattle.message_report.specs.MessageFindings.{MessageFinding}
use Rattle.message_report.specs.declared.severity.Severity.{Severity}
use Rattle.message_report.specs.declared.severity.Severity.TheVariants.{Error, Note}
use Rattle.serde_json.specs.Data.{Data}
use Rattle.serde_json.specs.Find.{get}
use Rattle.finding_formats.specs.FindingCodes.{severity_word}
use Rattle.finding_formats.specs.JsonLineLaws.{HasTexts}
use Rattle.finding_formats.specs.LocatedFindings.{Located, Notice, Told, told_finding, told_notice}
use Rattle.finding_formats.specs.LocatedLineLaws.{IsReadAgain, ToldHasTexts}
use Rattle.finding_formats.specs.LocatedObjects.{located_data}
use Rattle.finding_formats.proofs.ReadFindings.{finding_again, finding_in, number_at, text_at, value_at}

abbrev line_in : Data → Option ℕ
line_in d = if is_some (get (codes "line") d) then Some (number_at (codes "line") d) else None

abbrev placeholder_in : Data → Option (List ℕ)
placeholder_in d = if is_some (get (codes "placeholder") d) then Some (text_at (codes "placeholder") d) else None

abbrev severity_in : List ℕ → Severity
severity_in word = if bytes_eq word (codes "note") then Note else Error

abbrev notice_in : Data → Notice
notice_in d = record {
  file = text_at (codes "file") d;
  severity = severity_in (text_at (codes "severity") d);
  code = text_at (codes "code") (value_at (codes "cause") d);
  text = text_at (codes "text") d;
}

-- a notice has no place
abbrev told_in : Data → Told
told_in d = if is_some (get (codes "place") d) then told_finding (finding_in d) else told_notice (notice_in d)

abbrev located_of : Option ℕ → Option (List ℕ) → Told → Located
located_of line placeholder told = record { line = line; placeholder = placeholder; told = told }

abbrev located_in : Data → Located
located_in d = located_of (line_in d) (placeholder_in d) (told_in d)

severity_again : (s : Severity) → severity_in (severity_word s) ≡ s
severity_again Error = refl
severity_again Note = refl

abbrev notice_of : Notice → Severity → Told
notice_of n severity = told_notice (record n { severity = severity })

finding_told_again : (line : Option ℕ) (placeholder : Option (List ℕ)) (f : MessageFinding) → HasTexts f
    → located_in (located_data (located_of line placeholder (told_finding f))) ≡ located_of line placeholder (told_finding f)
finding_told_again None None f h = ap (λ (g : MessageFinding). located_of None None (told_finding g)) (finding_again f h)
finding_told_again None (Some placeholder) f h =
    ap (λ (g : MessageFinding). located_of None (Some placeholder) (told_finding g)) (finding_again f h)
finding_told_again (Some line) None f h = ap (λ (g : MessageFinding). located_of (Some line) None (told_finding g)) (finding_again f h)
finding_told_again (Some line) (Some placeholder) f h =
    ap (λ (g : MessageFinding). located_of (Some line) (Some placeholder) (told_finding g)) (finding_again f h)

notice_told_again : (line : Option ℕ) (placeholder : Option (List ℕ)) (n : Notice)
    → located_in (located_data (located_of line placeholder (told_notice n))) ≡ located_of line placeholder (told_notice n)
notice_told_again None None n = ap (λ (s : Severity). located_of None None (notice_of n s)) (severity_again n.severity)
notice_told_again None (Some placeholder) n =
    ap (λ (s : Severity). located_of None (Some placeholder) (notice_of n s)) (severity_again n.severity)
notice_told_again (Some line) None n = ap (λ (s : Severity). located_of (Some line) None (notice_of n s)) (severity_again n.severity)
notice_told_again (Some line) (Some placeholder) n =
    ap (λ (s : Severity). located_of (Some line) (Some placeholder) (notice_of n s)) (severity_again n.severity)

told_again : (line : Option ℕ) (placeholder : Option (List ℕ)) (t : Told) → ToldHasTexts t
    → located_in (located_data (located_of line placeholder t)) ≡ located_of line placeholder t
told_again line placeholder (told_finding f) h = finding_told_again line placeholder f h
told_again line placeholder (told_notice n) h = notice_told_again line placeholder n

located_again : (l : Located) → IsReadAgain l → located_in (located_data l) ≡ l
located_again l h = told_again l.line l.placeholder l.told h.told

-- so the object tells it
pub located_object_tells : (l m : Located) → IsReadAgain l → IsReadAgain m → located_data l ≡ located_data m → l ≡ m
located_object_tells l m h k same = sym (located_again l h) ∙ ap located_in same ∙ located_again m k
