-- The answers to questions of a document, and what is read and written of them.
--     IsListAnswer part locale language printed      the forms of a language
--     Answers Prints part locale document answer      what is printed by the rules of a locale, or
--         why there are none
--     IsAnsweredText IsAnswer input old new result      what a writer took, and the result
--     IsAnsweredLines part locale input before left old new result      the same for the lines of
--         another input
--     IsCheckedAs text_of files input old new result      the same for files of messages, of which what is
--         found is printed so; IsChecked is that of lines
--     forms_origin fault      where a fault comes from: what was read of the rules by then
use Rattle.std.specs.Prelude.{◌≡◌, ◌⊎◌, ℕ, ◌<◌, ◌≤◌, ◌==◌, List, length, Option, Some, None, Result, Ok, Err, if◌then◌else◌}
use Rattle.std.specs.Io.KnownBytes.{Appends, Consumes, IsAtEnd, Keeps}
use Rattle.icu_plurals.specs.DocumentJson.{Document, document_of_json, found}
use Rattle.icu_plurals.specs.FiveRules.{FiveRules}
use Rattle.message_report.specs.FoundInMessages.{MessageFound}
use Rattle.message_report.specs.MessagesReportText.{messages_report_text}
use Rattle.message_report.specs.MessagesRun.{IsReportedAs}
use Rattle.message_report.specs.RulesSource.{RulesSource, source_of, text_in}
use Rattle.message_report.specs.declared.counts.Counts.{Counts}
use Rattle.message_report.specs.declared.error.ReportError.{ReportError}
use Rattle.message_report.specs.declared.error.ReportError.TheVariants as report
use Rattle.message_report.specs.declared.file.MessageFile.{MessageFile}
use Rattle.plural_documents.specs.Inputs.{Origin, from_reader, from_length, from_writer, from_memory, from_answer, most_bytes, json_of}
use Rattle.plural_documents.specs.Inputs.{IsPartWritten}
use Rattle.plural_fallback.specs.LocalesJson.{keys_under, parent_in, part_name}
use Rattle.plural_fallback.specs.declared.locales.Part.{Part}
use Rattle.serde_json.specs.Data.{Data}
use Rattle.number_lines.specs.AnsweredInputs.{IsAnsweredInPart, IsCutOff}
use Rattle.number_lines.specs.InputLines.{input_lines_of}
use Rattle.number_lines.specs.NumberAnswers.{AreLineAnswers, AreNumberAnswers}
use Rattle.number_lines.specs.PrintedTexts.{PrintedText, only_text}
use Rattle.form_commands.specs.FormLines.{IsFormList}
use Rattle.form_commands.specs.GettextLines.{IsGettextLine}
use Rattle.form_commands.specs.Languages.{IsLanguageFor}
use Rattle.form_commands.specs.declared.error.FormsError.{FormsError}
use Rattle.form_commands.specs.declared.error.FormsError.TheVariants.{Rules, TooLong, Json, Refused, Language, Numbers, Write, Memory}
use Rattle.form_commands.specs.declared.error.LanguageError.{LanguageError}
use Rattle.form_commands.specs.declared.error.Verdict.{Verdict}
use Rattle.form_commands.specs.declared.error.Verdict.TheVariants.{Complete, Noted, Faults}
use Rattle.form_commands.specs.declared.language.LanguageRules as code

-- ---- Answers

-- the document that an input writes
abbrev pub IsDocumentIn : List ℕ → Data → Type 0
IsDocumentIn input document = (length input ≤ most_bytes) × (json_of input ≡ Some document)

-- an input within the limit that is no JSON text
abbrev pub IsNoJson : List ℕ → Type 0
IsNoJson input = (length input ≤ most_bytes) × (json_of input ≡ None)

-- the forms of a language
abbrev pub IsListAnswer : Part → List ℕ → code.LanguageRules → PrintedText → Type 0
IsListAnswer part locale language printed = (text : List ℕ) × IsFormList part locale language text × (printed ≡ only_text text)

-- the line for gettext
abbrev pub IsGettextAnswer : code.LanguageRules → PrintedText → Type 0
IsGettextAnswer language printed = (text : List ℕ) × IsGettextLine language.rules text × (printed ≡ only_text text)

-- a line for each word of a list
abbrev pub IsNumbersAnswer : List (List ℕ) → code.LanguageRules → PrintedText → Type 0
IsNumbersAnswer words language printed = AreNumberAnswers language.rules words printed

-- what is printed by the rules of a locale, or why there are none
abbrev pub Answers : (code.LanguageRules → PrintedText → Type 0) → Part → List ℕ → Data → Result PrintedText LanguageError → Type 0
Answers Prints part locale document (Ok printed) =
    (language : code.LanguageRules) × IsLanguageFor document part locale (Ok language) × Prints language printed
Answers Prints part locale document (Err error) = IsLanguageFor document part locale (Err error)

-- ---- What is written

-- whether each number has a category
abbrev pub verdict_of : PrintedText → Verdict
verdict_of printed = if printed.has_fault then Faults else Complete

-- the answer, or a beginning of it; or a fault, and nothing at all
unfoldable pub IsAnsweredText : (Data → Result PrintedText LanguageError → Type 0) → List ℕ → Option (List ℕ) → Option (List ℕ)
    → Result Verdict FormsError → Type 0
IsAnsweredText IsAnswer input old new (Ok verdict) =
    (document : Data) × (printed : PrintedText) × IsDocumentIn input document × IsAnswer document (Ok printed)
    × (verdict ≡ verdict_of printed) × Appends old new printed.text
IsAnsweredText IsAnswer input old new (Err Rules) = Keeps old new
IsAnsweredText IsAnswer input old new (Err TooLong) = (most_bytes < length input) × Keeps old new
IsAnsweredText IsAnswer input old new (Err Json) = IsNoJson input × Keeps old new
IsAnsweredText IsAnswer input old new (Err (Refused error)) = ⊥
IsAnsweredText IsAnswer input old new (Err (Language error)) =
    (document : Data) × IsDocumentIn input document × IsAnswer document (Err error) × Keeps old new
IsAnsweredText IsAnswer input old new (Err Numbers) = ⊥
IsAnsweredText IsAnswer input old new (Err Write) =
    (document : Data) × (printed : PrintedText) × IsDocumentIn input document × IsAnswer document (Ok printed)
    × IsPartWritten old new printed.text
IsAnsweredText IsAnswer input old new (Err Memory) = Keeps old new

-- ---- The lines of another input

-- the answers to all its lines, or a beginning of them
unfoldable pub IsStreamed : FiveRules → Option (List ℕ) → Option (List ℕ) → Option (List ℕ) → Option (List ℕ) → Result Verdict FormsError → Type 0
IsStreamed rules before left old new (Ok verdict) =
    (numbers : List ℕ) × (printed : PrintedText) × Consumes before left numbers × IsAtEnd left
    × AreLineAnswers rules (input_lines_of numbers) printed × (verdict ≡ verdict_of printed) × Appends old new printed.text
IsStreamed rules before left old new (Err Rules) = ⊥
IsStreamed rules before left old new (Err TooLong) = ⊥
IsStreamed rules before left old new (Err Json) = ⊥
IsStreamed rules before left old new (Err (Refused error)) = ⊥
IsStreamed rules before left old new (Err (Language error)) = ⊥
IsStreamed rules before left old new (Err Numbers) = IsCutOff rules before left old new
IsStreamed rules before left old new (Err Write) = IsAnsweredInPart rules before left old new
IsStreamed rules before left old new (Err Memory) = IsAnsweredInPart rules before left old new

-- by the rules of a locale
abbrev pub IsStreamedFor : Part → List ℕ → List ℕ → Option (List ℕ) → Option (List ℕ) → Option (List ℕ) → Option (List ℕ)
    → Result Verdict FormsError → Type 0
IsStreamedFor part locale input before left old new result =
    (document : Data) × (language : code.LanguageRules) × IsDocumentIn input document × IsLanguageFor document part locale (Ok language)
    × IsStreamed language.rules before left old new result

-- nothing is taken, and nothing is written
abbrev pub IsUntouched : Option (List ℕ) → Option (List ℕ) → Option (List ℕ) → Option (List ℕ) → Type 0
IsUntouched before left old new = Keeps before left × Keeps old new

unfoldable pub IsAnsweredLines : Part → List ℕ → List ℕ → Option (List ℕ) → Option (List ℕ) → Option (List ℕ) → Option (List ℕ)
    → Result Verdict FormsError → Type 0
IsAnsweredLines part locale input before left old new (Ok verdict) = IsStreamedFor part locale input before left old new (Ok verdict)
IsAnsweredLines part locale input before left old new (Err Rules) = IsUntouched before left old new
IsAnsweredLines part locale input before left old new (Err TooLong) = (most_bytes < length input) × IsUntouched before left old new
IsAnsweredLines part locale input before left old new (Err Json) = IsNoJson input × IsUntouched before left old new
IsAnsweredLines part locale input before left old new (Err (Refused error)) = ⊥
IsAnsweredLines part locale input before left old new (Err (Language error)) =
    (document : Data) × IsDocumentIn input document × IsLanguageFor document part locale (Err error) × IsUntouched before left old new
IsAnsweredLines part locale input before left old new (Err Numbers) = IsStreamedFor part locale input before left old new (Err Numbers)
IsAnsweredLines part locale input before left old new (Err Write) = IsStreamedFor part locale input before left old new (Err Write)
IsAnsweredLines part locale input before left old new (Err Memory) =
    IsUntouched before left old new ⊎ IsStreamedFor part locale input before left old new (Err Memory)

-- ---- Files of messages

-- the rules of a document, by its keys, texts and parents
abbrev pub rules_source : Data → Document → RulesSource
rules_source value document =
    source_of (λ locale. found locale document.cardinal) (λ locale. found locale document.ordinal) (text_in value)
    (λ part. keys_under (part_name part) value) (parent_in value)

-- the report under the rules that an input writes
abbrev pub IsReportedBy : (MessageFound → List ℕ) → List MessageFile → List ℕ → Option (List ℕ) → Option (List ℕ) → Result Counts ReportError → Type 0
IsReportedBy text_of files input old new result =
    (value : Data) × (document : Document) × IsDocumentIn input value × (document_of_json value ≡ Ok document)
    × IsReportedAs text_of (rules_source value document) files old new result

abbrev pub verdict_of_counts : Counts → Verdict
verdict_of_counts counts = if counts.faults == 0 then (if counts.notes == 0 then Complete else Noted) else Faults

-- the report, or a beginning of it; or a fault, and nothing at all
unfoldable pub IsCheckedAs : (MessageFound → List ℕ) → List MessageFile → List ℕ → Option (List ℕ) → Option (List ℕ)
    → Result Verdict FormsError → Type 0
IsCheckedAs text_of files input old new (Ok verdict) =
    (counts : Counts) × IsReportedBy text_of files input old new (Ok counts) × (verdict ≡ verdict_of_counts counts)
IsCheckedAs text_of files input old new (Err Rules) = Keeps old new
IsCheckedAs text_of files input old new (Err TooLong) = (most_bytes < length input) × Keeps old new
IsCheckedAs text_of files input old new (Err Json) = IsNoJson input × Keeps old new
IsCheckedAs text_of files input old new (Err (Refused error)) =
    (value : Data) × IsDocumentIn input value × (document_of_json value ≡ Err error) × Keeps old new
IsCheckedAs text_of files input old new (Err (Language error)) = ⊥
IsCheckedAs text_of files input old new (Err Numbers) = ⊥
IsCheckedAs text_of files input old new (Err Write) = IsReportedBy text_of files input old new (Err report.Write)
IsCheckedAs text_of files input old new (Err Memory) = Keeps old new

-- printed as lines
abbrev pub IsChecked : List MessageFile → List ℕ → Option (List ℕ) → Option (List ℕ) → Result Verdict FormsError → Type 0
IsChecked = IsCheckedAs messages_report_text

-- ---- What is read

-- where a fault comes from; `IsRead` says what was read of the rules by then
abbrev pub forms_origin : FormsError → Origin
forms_origin Rules = from_reader
forms_origin TooLong = from_length
forms_origin Write = from_writer
forms_origin Memory = from_memory
forms_origin fault = from_answer
