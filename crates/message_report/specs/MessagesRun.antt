-- What is written for files of messages.
--     IsPrintedText text old new result      a text was written, and nothing else
--     IsReportedAs text_of source files old new result      the report of the files, printed so, was
--         written, and nothing else
--     IsReported source files old new result      the same, printed as lines
use Rattle.std.specs.Prelude.{◌≡◌, ℕ, ◌==◌, List, Option, Result, Ok, Err, if◌then◌else◌}
use Rattle.std.specs.Io.KnownBytes.{Appends, Keeps}
use Rattle.plural_documents.specs.Inputs.{IsPartWritten}
use Rattle.message_report.specs.MessagesReport.{IsFoundInFiles}
use Rattle.message_report.specs.MessagesReportText.{counts_found, messages_report_text}
use Rattle.message_report.specs.FoundInMessages.{MessageFound}
use Rattle.message_report.specs.RulesSource.{RulesSource}
use Rattle.message_report.specs.declared.counts.Counts.{Counts}
use Rattle.message_report.specs.declared.error.ReportError.{ReportError}
use Rattle.message_report.specs.declared.error.ReportError.TheVariants.{Write, Memory}
use Rattle.message_report.specs.declared.file.MessageFile.{MessageFile}

-- A text; or the writer failed, and took a beginning of it, or memory ran out, and it took nothing.
abbrev pub IsPrintedText : List ℕ → Option (List ℕ) → Option (List ℕ) → Result (Unit {0}) ReportError → Type 0
IsPrintedText text old new (Ok done) = Appends old new text
IsPrintedText text old new (Err Write) = IsPartWritten old new text
IsPrintedText text old new (Err Memory) = Keeps old new

-- The report and its counts; or the writer failed, and took a beginning of the report, or memory
-- ran out, and it took nothing.
abbrev pub IsReportedAs : (MessageFound → List ℕ) → RulesSource → List MessageFile → Option (List ℕ) → Option (List ℕ)
    → Result Counts ReportError → Type 0
IsReportedAs text_of source files old new (Ok counts) =
    (found : MessageFound) × IsFoundInFiles source files found × (counts ≡ counts_found found) × Appends old new (text_of found)
IsReportedAs text_of source files old new (Err Write) =
    (found : MessageFound) × IsFoundInFiles source files found × IsPartWritten old new (text_of found)
IsReportedAs text_of source files old new (Err Memory) = Keeps old new

-- printed as lines
abbrev pub IsReported : RulesSource → List MessageFile → Option (List ℕ) → Option (List ℕ) → Result Counts ReportError → Type 0
IsReported = IsReportedAs messages_report_text

-- the exit status of a program
abbrev pub counts_status : Counts → ℕ
counts_status counts = if counts.faults == 0 then 0 else 1
