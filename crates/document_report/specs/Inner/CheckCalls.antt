-- Not a definition of the subject: the results of private calls, the values of private types, the
-- start and the end of a range's byte, and what is told of a fault, by how many come before it.
use Rattle.std.specs.Prelude.{◌≡◌, ℕ, ◌==◌, if◌then◌else◌, Result, string_bytes, List, [], ◌∷◌, nat_lt}
use Rattle.icu_plurals.specs.declared.PluralCategory.{PluralCategory}
use Rattle.icu_plurals.specs.declared.PluralCategory.TheVariants.{Zero, One, Two, Few, Many, Other}
use Rattle.plural_documents.specs.declared.InputError.{InputError}
use Rattle.plural_documents.specs.declared.InputError.TheVariants as cause
use Rattle.document_report.specs.CheckAnswer.{Answer, check_origin}
use Rattle.document_report.specs.declared.error.CheckError.{CheckError}
use Rattle.document_report.specs.declared.error.CheckError.TheVariants.{Read, TooLong, Memory}
use Rattle.document_report.specs.declared.run.Answer.{Answer as CodeAnswer}
use Rattle.plural_checker.specs.declared.Fault.{Fault}
use Rattle.plural_checker.specs.LanguageTexts.{six_texts, SixTexts}
use Rattle.document_report.specs.declared.known_texts.Language.{Language}
use Rattle.document_report.specs.DocumentFindings.{Finding}
use Rattle.document_report.specs.DocumentPlaces.{LocalePlace}
use Rattle.document_report.specs.DocumentReport.{text_finding}
use Rattle.plural_documents.specs.PrintedKeys.{most_told}
use Rattle.plural_documents.specs.Inputs.{GivesBy, GivesByReading, IsFaultOfOrigin}
use Rattle.std.proofs.Common.{refl, append_assoc}
use Rattle.std.proofs.Math.Nat.{add_assoc, add-zero}
use Rattle.std.proofs.lemmas.List.{append-nil}
use Rattle.document_report.specs.FoundInDocuments.{Found, nothing_found, together}

-- ---- Values

-- the answer, with the bytes of its text
abbrev pub answer_view : CodeAnswer → Answer
answer_view answer = record { text = string_bytes answer.text; verdict = answer.verdict }

-- the fault that an error of the input becomes
abbrev pub check_input_fault : InputError → CheckError
check_input_fault cause.Read = Read
check_input_fault cause.TooLong = TooLong
check_input_fault cause.Memory = Memory

-- the category of a number in a range's byte
abbrev pub category_numbered : ℕ → PluralCategory
category_numbered number =
    if number == 1 then Zero
    else (if number == 2 then One
    else (if number == 3 then Two else (if number == 4 then Few else (if number == 5 then Many else Other))))

-- ---- Results

-- a fault of this kind, or out of memory; the call neither reads nor writes
abbrev pub GivesCheckFault : (CheckError → Type 0) → CheckError → Type 0
GivesCheckFault IsFault fault = IsFaultOfOrigin (check_origin fault) (IsFault fault)

-- the result, in the words of the definitions, or out of memory
abbrev pub Gives : {A B : Type 0} → (A → B) → (Result B CheckError → Type 0) → Result A CheckError → Type 0
Gives seen = GivesBy check_origin seen

-- the same if there is only one result
abbrev pub GivesOnly : {A B : Type 0} → (A → B) → Result B CheckError → Result A CheckError → Type 0
GivesOnly seen value = Gives seen (λ answer. value ≡ answer)

-- the result of a call that reads, which may fail
abbrev pub GivesAfterReading : (Result Answer CheckError → Type 0) → Result CodeAnswer CheckError → Type 0
GivesAfterReading = GivesByReading check_origin answer_view

-- the finding of a fault, if few enough of the same text come before it
abbrev pub told_after : LocalePlace → ℕ → Fault → List Finding
told_after place before fault = if nat_lt before most_told then text_finding place fault ∷ [] else []

-- the texts of a language, and what is found in them
abbrev pub texts_found : {F : Type 0} → Language F → SixTexts × F
texts_found language = (six_texts language.texts, language.found)

-- ---- what is found, put together

-- adding nothing at the end changes nothing
pub together-nothing : (a : Found) → together a nothing_found ≡ a
together-nothing a = rw (append-nil a.findings, add-zero a.faults, add-zero a.checked, add-zero a.cases) refl

pub together_assoc : (a b c : Found) → together (together a b) c ≡ together a (together b c)
together_assoc a b c =
    rw (
      append_assoc a.findings b.findings c.findings,
      add_assoc a.faults b.faults c.faults,
      add_assoc a.checked b.checked c.checked,
      add_assoc a.cases b.cases c.cases,
    ) refl
