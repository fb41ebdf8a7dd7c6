-- What is told of files: findings of their messages and notices, each with the line where it is, and
-- with what says the number in its file, where these are known.
--     located_view located      that of the code, in which a line 0 is none
--     located_words located      what is printed of it after the name of its file
use Rattle.std.specs.Prelude.{ℕ, ◌==◌, List, ◌++◌, codes, Option, Some, None, option_map, if◌then◌else◌}
use Rattle.std.specs.Borrow.{Bor}
use Rattle.plural_documents.specs.PrintedKeys.{name_text}
use Rattle.message_report.specs.FindingCauses.{message_cause_text, severity_of}
use Rattle.message_report.specs.FormFaults.{are_text, form_fault_text}
use Rattle.message_report.specs.MessageFindings.{MessageFinding, message_finding_view}
use Rattle.message_report.specs.MessagePlaces.{file_of, file_place_text}
use Rattle.message_report.specs.declared.cause.Cause.{Cause}
use Rattle.message_report.specs.declared.cause.Cause.TheVariants as cause
use Rattle.message_report.specs.declared.fault.FormFault.{FormFault}
use Rattle.message_report.specs.declared.fault.FormFault.TheVariants as form
use Rattle.message_report.specs.declared.severity.Severity.{Severity}
use Rattle.finding_formats.specs.FindingCodes.{code_name, code_of}
use Rattle.finding_formats.specs.FindingObjects.{finding_text}
use Rattle.finding_formats.specs.declared.located.Located as locateds
use Rattle.finding_formats.specs.declared.notice.Notice as notices
use Rattle.finding_formats.specs.declared.told.Told as tolds
use Rattle.finding_formats.specs.declared.told.Told.TheVariants as told

-- something told of a file besides the findings of its messages
pub record Notice : Type 0 where
  pub file : List ℕ
  pub severity : Severity
  pub code : List ℕ
  pub text : List ℕ

pub data Told : Type 0 where
  told_finding : MessageFinding → Told
  told_notice : Notice → Told

-- the line, and what says the number in the file's texts (`%d`)
pub record Located : Type 0 where
  pub line : Option ℕ
  pub placeholder : Option (List ℕ)
  pub told : Told

abbrev pub file_told : Told → List ℕ
file_told (told_finding f) = file_of f.place
file_told (told_notice n) = n.file

abbrev pub severity_told : Told → Severity
severity_told (told_finding f) = severity_of f.cause
severity_told (told_notice n) = n.severity

abbrev pub code_told : Told → List ℕ
code_told (told_finding f) = code_name (code_of f.cause)
code_told (told_notice n) = n.code

-- ---- What is printed

-- a form lacks what says the number in its file: `no %d, but 1 and 21 are one`
abbrev pub form_words : List ℕ → FormFault → List ℕ
form_words shown (form.NoNumber category first second) = codes "no " ++ (shown ++ (codes ", but " ++ are_text first second category))
form_words shown fault = form_fault_text fault

abbrev pub cause_words : List ℕ → Cause → List ℕ
cause_words shown (cause.Form fault) = form_words shown fault
cause_words shown c = message_cause_text c

-- what says the number is printed as a name is; without it `{}` stands there
abbrev pub finding_words : Option (List ℕ) → MessageFinding → List ℕ
finding_words None f = finding_text f
finding_words (Some placeholder) f = file_place_text f.place ++ (codes ": " ++ cause_words (name_text placeholder) f.cause)

abbrev pub told_words : Option (List ℕ) → Told → List ℕ
told_words placeholder (told_finding f) = finding_words placeholder f
told_words placeholder (told_notice n) = n.text

abbrev pub located_words : Located → List ℕ
located_words l = told_words l.placeholder l.told

-- ---- The same of the types of the code

-- lines are counted from 1
abbrev pub known_line : Option ℕ → Option ℕ
known_line None = None
known_line (Some line) = if line == 0 then None else Some line

abbrev pub lent_text : Option (Bor (List ℕ)) → Option (List ℕ)
lent_text text = option_map (λ t. t.now) text

abbrev pub notice_view : notices.Notice → Notice
notice_view n = record { file = n.file.now; severity = n.severity; code = n.code.now; text = n.text.now }

abbrev pub told_view : tolds.Told → Told
told_view (told.Finding finding) = told_finding (message_finding_view finding)
told_view (told.Notice notice) = told_notice (notice_view notice)

abbrev pub located_view : locateds.Located → Located
located_view l = record { line = known_line l.line; placeholder = lent_text l.placeholder; told = told_view l.told }
