-- Not a definition of the subject: the results of private calls.
use Rattle.std.specs.Prelude.{◌≡◌, ◌⊎◌, ℕ, ◌<◌, List, length, Bool, false, Option, Some, None, Result, Ok, Err, ⊤, String, string_bytes, if◌then◌else◌}
use Rattle.std.specs.Io.KnownBytes.{Appends, Keeps}
use Rattle.std.specs.declared.alloc.AllocError.{AllocError}
use Rattle.std.specs.declared.alloc.Global.{Global}
use Rattle.icu_plurals.specs.DocumentJson.{Document, document_of_json}
use Rattle.icu_plurals.specs.declared.JsonError.{JsonError}
use Rattle.message_report.specs.FoundInMessages.{MessageFound}
use Rattle.message_report.specs.MessagesRun.{IsReportedAs}
use Rattle.message_report.specs.declared.counts.Counts.{Counts}
use Rattle.message_report.specs.declared.error.ReportError.{ReportError}
use Rattle.message_report.specs.declared.file.MessageFile.{MessageFile}
use Rattle.plural_documents.specs.Inputs.{most_bytes, IsPartWritten, json_of}
use Rattle.plural_fallback.specs.UnknownLanguages.{is_unknown}
use Rattle.plural_fallback.specs.declared.error.FallbackError.{FallbackError}
use Rattle.plural_fallback.specs.declared.locales.Part.{Part}
use Rattle.serde_json.specs.Data.{Data}
use Rattle.serde_json.specs.View.{view}
use Rattle.serde_json.specs.declared.Value.{Value}
use Rattle.number_lines.specs.PrintedTexts.{PrintedText}
use Rattle.number_lines.specs.declared.LinesError.{LinesError}
use Rattle.rules_outline.specs.KeptRules.{Serves, key_by}
use Rattle.rules_outline.specs.declared.outline.KeptRules.{KeptRules}
use Rattle.form_commands.specs.FormsAnswers.{IsDocumentIn, IsNoJson, IsStreamed, IsUntouched, rules_source, verdict_of, verdict_of_counts}
use Rattle.form_commands.specs.Inner.FormsInputFaults.{lines_fault, report_fault}
use Rattle.form_commands.specs.Languages.{IsFoundAt, IsKnownForPart, IsKnownIn, IsUnknownForPart, IsUnknownIn, unknown_error}
use Rattle.form_commands.specs.declared.error.FormsError.{FormsError}
use Rattle.form_commands.specs.declared.error.FormsError.TheVariants.{Rules, TooLong, Json, Refused, Language, Numbers, Write, Memory}
use Rattle.form_commands.specs.declared.error.LanguageError.{LanguageError}
use Rattle.form_commands.specs.declared.error.LanguageError.TheVariants.{NotFound}
use Rattle.form_commands.specs.declared.error.Verdict.{Verdict}
use Rattle.form_commands.specs.declared.error.Verdict.TheVariants.{Complete, Faults}
use Rattle.form_commands.specs.declared.language.LanguageRules as code
use Rattle.finding_formats.specs.LocatedFindings.{Located}
use Rattle.finding_formats.specs.LocatedReport.{located_text}
use Rattle.finding_formats.specs.declared.format.Format.{Format}
use Rattle.finding_formats.specs.declared.totals.Totals.{Totals}
use Rattle.form_commands.specs.TranslationReports.{told_verdict}
use Rattle.form_commands.specs.declared.translations.Report.{Report}

-- the result of a report
abbrev pub result_of_report : Result Counts ReportError → Result Verdict FormsError
result_of_report (Ok counts) = Ok (verdict_of_counts counts)
result_of_report (Err error) = Err (report_fault error)

-- the verdict, by whether a line tells why a number has no category
abbrev pub verdict_by : Bool → Verdict
verdict_by has_fault = if has_fault then Faults else Complete

-- the result of lines
abbrev pub result_of_lines : Result Bool LinesError → Result Verdict FormsError
result_of_lines (Ok has_fault) = Ok (verdict_by has_fault)
result_of_lines (Err error) = Err (lines_fault error)

-- ---- The document

-- the value of bytes, or that they have none
abbrev pub GivesJsonValue : List ℕ → Result Value FormsError → Type 0
GivesJsonValue bytes (Ok value) = json_of bytes ≡ Some (view value)
GivesJsonValue bytes (Err Rules) = ⊥
GivesJsonValue bytes (Err TooLong) = ⊥
GivesJsonValue bytes (Err Json) = json_of bytes ≡ None
GivesJsonValue bytes (Err (Refused error)) = ⊥
GivesJsonValue bytes (Err (Language error)) = ⊥
GivesJsonValue bytes (Err Numbers) = ⊥
GivesJsonValue bytes (Err Write) = ⊥
GivesJsonValue bytes (Err Memory) = ⊤

-- the document of an input, or why there is none
abbrev pub GivesDocument : List ℕ → Result Value FormsError → Type 0
GivesDocument input (Ok value) = IsDocumentIn input (view value)
GivesDocument input (Err Rules) = ⊤
GivesDocument input (Err TooLong) = most_bytes < length input
GivesDocument input (Err Json) = IsNoJson input
GivesDocument input (Err (Refused error)) = ⊥
GivesDocument input (Err (Language error)) = ⊥
GivesDocument input (Err Numbers) = ⊥
GivesDocument input (Err Write) = ⊥
GivesDocument input (Err Memory) = ⊤

-- ---- The rules of a locale

-- what stands under the key, or why there is none
abbrev pub IsFoundUnderKey : Data → Part → List ℕ → Result (List ℕ) FallbackError → Result code.LanguageRules LanguageError → Type 0
IsFoundUnderKey document part locale (Ok key) answer = IsFoundAt document part key answer
IsFoundUnderKey document part locale (Err reason) answer = answer ≡ Err (NotFound part locale reason)

abbrev pub IsFoundBy : KeptRules → Part → List ℕ → Result code.LanguageRules LanguageError → Type 0
IsFoundBy kept part locale = IsFoundUnderKey (view kept.document) part locale (key_by string_bytes kept.key)

-- the key that is kept is `root`, which wasn't asked for
abbrev pub is_roots_key : List ℕ → Result (String Global) FallbackError → Bool
is_roots_key locale (Ok key) = is_unknown locale (string_bytes key)
is_roots_key locale (Err reason) = false

abbrev pub has_roots_key : List ℕ → KeptRules → Bool
has_roots_key locale kept = is_roots_key locale kept.key

-- the language of a locale is known by the bytes' value; or it is unknown, and the error says so;
-- or they have none
abbrev pub GivesKnownIn : Part → List ℕ → List ℕ → Result Unit FormsError → Type 0
GivesKnownIn part locale bytes (Ok known) = (whole : Data) × (json_of bytes ≡ Some whole) × IsKnownIn whole locale
GivesKnownIn part locale bytes (Err error) =
    GivesJsonValue bytes (Err error)
    ⊎ ((whole : Data) × (json_of bytes ≡ Some whole) × IsUnknownIn whole locale × (error ≡ Language (unknown_error whole part locale)))

-- the same by a document
abbrev pub TellsKnown : Part → List ℕ → Data → Result Unit FormsError → Type 0
TellsKnown part locale document (Ok known) = IsKnownIn document locale
TellsKnown part locale document (Err error) =
    (error ≡ Memory) ⊎ (IsUnknownIn document locale × (error ≡ Language (unknown_error document part locale)))

-- the language of a locale is unknown by a document, and the error says so
abbrev pub IsToldUnknown : Part → List ℕ → Data → FormsError → Type 0
IsToldUnknown part locale whole error =
    IsUnknownForPart whole part locale × (error ≡ Language (unknown_error whole part locale))

-- what is kept of the bytes' value, where the language is known; or that it is unknown, or that they
-- have none
abbrev pub GivesRulesIn : Part → List ℕ → List ℕ → Result KeptRules FormsError → Type 0
GivesRulesIn part locale bytes (Ok kept) =
    (whole : Data) × (json_of bytes ≡ Some whole) × Serves part locale kept whole × IsKnownForPart whole part locale
GivesRulesIn part locale bytes (Err error) =
    GivesJsonValue bytes (Err error) ⊎ ((whole : Data) × (json_of bytes ≡ Some whole) × IsToldUnknown part locale whole error)

-- the same of an input
abbrev pub GivesRules : Part → List ℕ → List ℕ → Result KeptRules FormsError → Type 0
GivesRules part locale input (Ok kept) =
    (whole : Data) × IsDocumentIn input whole × Serves part locale kept whole × IsKnownForPart whole part locale
GivesRules part locale input (Err error) =
    GivesDocument input (Err error) ⊎ ((whole : Data) × IsDocumentIn input whole × IsToldUnknown part locale whole error)

-- what is printed by the rules that are found, or why there are none
abbrev pub AnswersFirst : (code.LanguageRules → PrintedText → Type 0) → (Result code.LanguageRules LanguageError → Type 0)
    → Result PrintedText LanguageError → Type 0
AnswersFirst Prints IsFound (Ok printed) = (language : code.LanguageRules) × IsFound (Ok language) × Prints language printed
AnswersFirst Prints IsFound (Err error) = IsFound (Err error)

-- ---- What is written

-- the text, or a beginning of it
abbrev pub WritesText : PrintedText → Option (List ℕ) → Option (List ℕ) → Result Verdict FormsError → Type 0
WritesText printed old new (Ok verdict) = (verdict ≡ verdict_of printed) × Appends old new printed.text
WritesText printed old new (Err error) = (error ≡ Write) × IsPartWritten old new printed.text

-- what is printed, or a fault and nothing at all
abbrev pub WritesAnswer : Result (Result PrintedText LanguageError) AllocError → Option (List ℕ) → Option (List ℕ)
    → Result Verdict FormsError → Type 0
WritesAnswer (Ok (Ok printed)) old new result = WritesText printed old new result
WritesAnswer (Ok (Err error)) old new result = (result ≡ Err (Language error)) × Keeps old new
WritesAnswer (Err error) old new result = (result ≡ Err Memory) × Keeps old new

-- ---- The lines of another input

-- the answers by the rules that are found, or that there are none
abbrev pub AnswersLines : (Result code.LanguageRules LanguageError → Type 0) → Option (List ℕ) → Option (List ℕ) → Option (List ℕ) → Option (List ℕ)
    → Result Verdict FormsError → Type 0
AnswersLines IsFound before left old new result =
    ((language : code.LanguageRules) × IsFound (Ok language) × IsStreamed language.rules before left old new result)
    ⊎ (((error : LanguageError) × IsFound (Err error) × (result ≡ Err (Language error))
    × IsUntouched before left old new)
    ⊎ ((result ≡ Err Memory) × IsUntouched before left old new))

-- ---- Files of messages

-- the report under the rules of a document, as the result of a command
abbrev pub Reports : (MessageFound → List ℕ) → Data → Document → List MessageFile → Option (List ℕ) → Option (List ℕ) → Result Verdict FormsError → Type 0
Reports text_of value document files old new result =
    (reported : Result Counts ReportError) × IsReportedAs text_of (rules_source value document) files old new reported
    × (result ≡ result_of_report reported)

-- the same, or nothing at all
abbrev pub Checks : (MessageFound → List ℕ) → Data → List MessageFile → Option (List ℕ) → Option (List ℕ) → Result Verdict FormsError → Type 0
Checks text_of value files old new result =
    ((document : Document) × (document_of_json value ≡ Ok document) × Reports text_of value document files old new result)
    ⊎ (((error : JsonError) × (document_of_json value ≡ Err error) × (result ≡ Err (Refused error)) × Keeps old new)
    ⊎ ((result ≡ Err Memory) × Keeps old new))

-- ---- a report of translators' files before it is written

-- its text is one report in the format, and its verdict that of the totals
abbrev pub IsReport : Format → Bool → Report → Type 0
IsReport format strict report =
    (told : List Located) × (totals : Totals) × (string_bytes report.text ≡ located_text format told totals)
    × (report.verdict ≡ told_verdict strict totals)
