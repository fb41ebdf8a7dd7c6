-- The answers to documents.
use Rattle.std.proofs.Common.{◌≡◌, ℕ, ◌≤◌, List, length, Option, Result, Ok, Err, inl, inr, refl}
use Rattle.std.specs.Prelude.{IfOk}
use Rattle.std.proofs.KnownBytes.{Keeps-refl}
use Rattle.std.specs.declared.alloc.AllocError.{AllocError}
use Rattle.icu_plurals.specs.DocumentJson.{document_of_json}
use Rattle.icu_plurals.specs.Json.{IsRefusal}
use Rattle.icu_plurals.specs.declared.JsonError.{JsonError}
use Rattle.icu_plurals.specs.declared.JsonError.TheVariants as json
use Rattle.message_report.specs.FoundInMessages.{MessageFound}
use Rattle.message_report.specs.declared.error.ReportError.TheVariants as report
use Rattle.message_report.specs.declared.file.MessageFile.{MessageFile}
use Rattle.plural_documents.specs.Inputs.{GivesInput, IsInput, most_bytes}
use Rattle.plural_documents.specs.declared.input.InputError.{InputError}
use Rattle.plural_documents.specs.declared.input.InputError.TheVariants as cause
use Rattle.plural_documents.proofs.InputLemmas.{some_input}
use Rattle.plural_fallback.specs.declared.locales.Part.{Part}
use Rattle.serde_json.specs.Data.{Data}
use Rattle.serde_json.specs.declared.Value.{Value}
use Rattle.number_lines.specs.PrintedTexts.{PrintedText}
use Rattle.form_commands.specs.FormsAnswers.{IsAnsweredLines, IsAnsweredText, IsCheckedAs, IsDocumentIn, IsStreamed}
use Rattle.form_commands.specs.Inner.FormsInputFaults.{rules_input_fault, refused_rules}
use Rattle.form_commands.specs.Inner.RunSteps.{AnswersLines, Checks, GivesDocument, GivesJsonValue, WritesAnswer, WritesText}
use Rattle.form_commands.specs.Languages.{IsFoundFor, IsKnownForPart}
use Rattle.form_commands.specs.declared.error.FormsError.{FormsError}
use Rattle.form_commands.specs.declared.error.FormsError.TheVariants.{Rules, TooLong, Json, Refused, Language, Numbers, Write, Memory}
use Rattle.form_commands.specs.declared.error.LanguageError.{LanguageError}
use Rattle.form_commands.specs.declared.error.Verdict.{Verdict}

-- ---- The document

-- an input that isn't read has no document
pub no_document : (left : Option (List ℕ)) (error : InputError) (r : Result Value FormsError) → r ≡ Err (rules_input_fault error)
    → GivesInput left (Err error) → (input : List ℕ) × IsInput left input × GivesDocument input r
no_document left cause.Read r is given = let some = some_input left in (some.0, some.1, rw is tt)
no_document left cause.TooLong r is given = (given.0, given.1, rw is given.2)
no_document left cause.Memory r is given = let some = some_input left in (some.0, some.1, rw is tt)

-- the document is that of the bytes that were read
pub document_in : (input bytes : List ℕ) (r : Result Value FormsError) → bytes ≡ input → length input ≤ most_bytes
    → GivesJsonValue bytes r → GivesDocument input r
document_in input bytes (Ok value) is short given = (short, rw (← is) given)
document_in input bytes (Err Rules) is short given = tt
document_in input bytes (Err TooLong) is short given = absurd given
document_in input bytes (Err Json) is short given = (short, rw (← is) given)
document_in input bytes (Err (Refused error)) is short given = given
document_in input bytes (Err (Language error)) is short given = given
document_in input bytes (Err Numbers) is short given = given
document_in input bytes (Err Write) is short given = given
document_in input bytes (Err Memory) is short given = tt

-- ---- What is written

-- without a document nothing is
pub no_answer : (IsAnswer : Data → Result PrintedText LanguageError → Type 0) (input : List ℕ) (old : Option (List ℕ)) (error : FormsError)
    → GivesDocument input (Err error) → IsAnsweredText IsAnswer input old old (Err error)
unfolding IsAnsweredText
no_answer IsAnswer input old Rules given = Keeps-refl old
no_answer IsAnswer input old TooLong given = (given, Keeps-refl old)
no_answer IsAnswer input old Json given = (given, Keeps-refl old)
no_answer IsAnswer input old (Refused error) given = given
no_answer IsAnswer input old (Language error) given = absurd given
no_answer IsAnswer input old Numbers given = given
no_answer IsAnswer input old Write given = absurd given
no_answer IsAnswer input old Memory given = Keeps-refl old

text_answered : (IsAnswer : Data → Result PrintedText LanguageError → Type 0) (input : List ℕ) (document : Data) (old new : Option (List ℕ))
    (printed : PrintedText) (r : Result Verdict FormsError)
    → IsDocumentIn input document → IsAnswer document (Ok printed) → WritesText printed old new r → IsAnsweredText IsAnswer input old new r
unfolding IsAnsweredText
text_answered IsAnswer input document old new printed (Ok verdict) given answer written =
    (document, printed, given, answer, written.0, written.1)
text_answered IsAnswer input document old new printed (Err error) given answer written =
    rw written.0 (document, printed, given, answer, written.1)

-- the answer of a document, or that there is none
pub document_answered : (IsAnswer : Data → Result PrintedText LanguageError → Type 0) (input : List ℕ) (document : Data)
    (old new : Option (List ℕ))
    (answer : Result (Result PrintedText LanguageError) AllocError) (r : Result Verdict FormsError)
    → IsDocumentIn input document → IfOk answer (λ a. IsAnswer document a) → WritesAnswer answer old new r
    → IsAnsweredText IsAnswer input old new r
unfolding IsAnsweredText
document_answered IsAnswer input document old new (Ok (Ok printed)) r given is written =
    text_answered IsAnswer input document old new printed r given is written
document_answered IsAnswer input document old new (Ok (Err error)) r given is written =
    rw written.0 (document, given, is, written.1)
document_answered IsAnswer input document old new (Err error) r given is written = rw written.0 written.1

-- ---- The lines of another input

-- without a document nothing is taken
pub no_lines : (part : Part) (locale input : List ℕ) (before old : Option (List ℕ)) (error : FormsError)
    → GivesDocument input (Err error) → IsAnsweredLines part locale input before before old old (Err error)
unfolding IsAnsweredLines
no_lines part locale input before old Rules given = (Keeps-refl before, Keeps-refl old)
no_lines part locale input before old TooLong given = (given, (Keeps-refl before, Keeps-refl old))
no_lines part locale input before old Json given = (given, (Keeps-refl before, Keeps-refl old))
no_lines part locale input before old (Refused error) given = absurd given
no_lines part locale input before old (Language error) given = absurd given
no_lines part locale input before old Numbers given = absurd given
no_lines part locale input before old Write given = absurd given
no_lines part locale input before old Memory given = inl (Keeps-refl before, Keeps-refl old)

-- the answers by the rules of a document by which the language is known
pub lines_answered : (part : Part) (locale input : List ℕ) (document : Data) (before left old new : Option (List ℕ))
    (r : Result Verdict FormsError)
    → IsDocumentIn input document → IsKnownForPart document part locale → AnswersLines (IsFoundFor document part locale) before left old new r
    → IsAnsweredLines part locale input before left old new r
unfolding IsAnsweredLines IsStreamed
lines_answered part locale input document before left old new (Ok verdict) given known (inl by) =
    (document, by.0, given, inr (known, by.1), by.2)
lines_answered part locale input document before left old new (Err Rules) given known (inl by) = absurd by.2
lines_answered part locale input document before left old new (Err TooLong) given known (inl by) = absurd by.2
lines_answered part locale input document before left old new (Err Json) given known (inl by) = absurd by.2
lines_answered part locale input document before left old new (Err (Refused error)) given known (inl by) = absurd by.2
lines_answered part locale input document before left old new (Err (Language error)) given known (inl by) = absurd by.2
lines_answered part locale input document before left old new (Err Numbers) given known (inl by) =
    (document, by.0, given, inr (known, by.1), by.2)
lines_answered part locale input document before left old new (Err Write) given known (inl by) =
    (document, by.0, given, inr (known, by.1), by.2)
lines_answered part locale input document before left old new (Err Memory) given known (inl by) =
    inr (document, by.0, given, inr (known, by.1), by.2)
lines_answered part locale input document before left old new r given known (inr (inl none)) =
    rw none.2 (document, given, inr (known, none.1), none.3)
lines_answered part locale input document before left old new r given known (inr (inr none)) = rw none.0 (inl none.1)

-- ---- Files of messages

-- without a document nothing is reported
pub no_report : (text_of : MessageFound → List ℕ) (files : List MessageFile) (input : List ℕ) (old : Option (List ℕ)) (error : FormsError)
    → GivesDocument input (Err error) → IsCheckedAs text_of files input old old (Err error)
unfolding IsCheckedAs
no_report text_of files input old Rules given = Keeps-refl old
no_report text_of files input old TooLong given = (given, Keeps-refl old)
no_report text_of files input old Json given = (given, Keeps-refl old)
no_report text_of files input old (Refused error) given = absurd given
no_report text_of files input old (Language error) given = given
no_report text_of files input old Numbers given = given
no_report text_of files input old Write given = absurd given
no_report text_of files input old Memory given = Keeps-refl old

-- the report under the rules of a document
pub report_checked : (text_of : MessageFound → List ℕ) (files : List MessageFile) (input : List ℕ) (value : Data) (old new : Option (List ℕ))
    (r : Result Verdict FormsError)
    → IsDocumentIn input value → Checks text_of value files old new r → IsCheckedAs text_of files input old new r
unfolding IsCheckedAs
report_checked text_of files input value old new r given (inl (document, is, (Ok counts, reported, same))) =
    rw same (counts, (value, document, given, is, reported), refl)
report_checked text_of files input value old new r given (inl (document, is, (Err report.Write, reported, same))) =
    rw same (value, document, given, is, reported)
report_checked text_of files input value old new r given (inl (document, is, (Err report.Memory, reported, same))) = rw same reported
report_checked text_of files input value old new r given (inr (inl (error, is, same, kept))) = rw same (value, given, is, kept)
report_checked text_of files input value old new r given (inr (inr (same, kept))) = rw same kept

-- rules that are refused
pub no_rules : (text_of : MessageFound → List ℕ) (value : Data) (files : List MessageFile) (old : Option (List ℕ)) (error : JsonError)
    (fault : FormsError)
    → IsRefusal error (document_of_json value) → fault ≡ refused_rules error → Checks text_of value files old old (Err fault)
no_rules text_of value files old json.Float fault is same = rw same (inr (inl (json.Float, is, refl, Keeps-refl old)))
no_rules text_of value files old json.Shape fault is same = rw same (inr (inl (json.Shape, is, refl, Keeps-refl old)))
no_rules text_of value files old (json.Rule category error) fault is same =
    rw same (inr (inl (json.Rule category error, is, refl, Keeps-refl old)))
no_rules text_of value files old json.RangeKey fault is same = rw same (inr (inl (json.RangeKey, is, refl, Keeps-refl old)))
no_rules text_of value files old json.RangeValue fault is same = rw same (inr (inl (json.RangeValue, is, refl, Keeps-refl old)))
no_rules text_of value files old (json.Pack error) fault is same = rw same (inr (inl (json.Pack error, is, refl, Keeps-refl old)))
no_rules text_of value files old json.Memory fault is same = rw same (inr (inr (refl, Keeps-refl old)))
