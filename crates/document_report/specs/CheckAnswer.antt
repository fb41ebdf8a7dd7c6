-- The program's answer to its input, and what it reads and writes.
--     AnswersInputAs text_of has_words input answer      the answer: the text of a report, printed
--         so, with its verdict, or the first fault
--     AnswersInputAsText has_words input answer      the same, printed as lines
use Rattle.std.specs.Prelude.{◌≡◌, ℕ, ◌==◌, Bool, List, Option, Result, Ok, Err, if◌then◌else◌}
use Rattle.std.specs.Io.KnownBytes.{Appends, Keeps}
use Rattle.serde_json.specs.Data.{Data}
use Rattle.document_report.specs.CheckedDocument.{document_of_input}
use Rattle.document_report.specs.DocumentReport.{IsReportOf}
use Rattle.document_report.specs.ReportText.{report_text}
use Rattle.plural_documents.specs.Inputs.{IsPartWritten, Origin, from_reader, from_length, from_writer, from_memory, from_answer}
use Rattle.document_report.specs.declared.error.CheckError.{CheckError}
use Rattle.document_report.specs.declared.error.CheckError.TheVariants.{Usage, Read, TooLong, Write, Memory}
use Rattle.document_report.specs.declared.report.Report.{Report}
use Rattle.document_report.specs.declared.report.Verdict.{Verdict}
use Rattle.document_report.specs.declared.report.Verdict.TheVariants.{NoFaults, Faults}

-- ---- The answer

-- a report's text, and whether it has a fault
pub record Answer : Type 0 where
  pub text : List ℕ
  pub verdict : Verdict

abbrev pub verdict_of_report : Report → Verdict
verdict_of_report report = if report.found.faults == 0 then NoFaults else Faults

abbrev pub answer_with : (Report → List ℕ) → Report → Answer
answer_with text_of report = record { text = text_of report; verdict = verdict_of_report report }

-- the answer to a document
abbrev pub IsAnswerTo : (Report → List ℕ) → Data → Answer → Type 0
IsAnswerTo text_of document answer = (report : Report) × IsReportOf document report × (answer ≡ answer_with text_of report)

-- the answer to a document, or why there is none
abbrev pub AnswersDocument : (Report → List ℕ) → Result Data CheckError → Result Answer CheckError → Type 0
AnswersDocument text_of (Ok document) (Ok answer) = IsAnswerTo text_of document answer
AnswersDocument text_of (Ok document) (Err fault) = ⊥
AnswersDocument text_of (Err fault) answer = answer ≡ Err fault

-- arguments are a fault, which comes before the faults of the input
abbrev pub AnswersInputAs : (Report → List ℕ) → Bool → List ℕ → Result Answer CheckError → Type 0
AnswersInputAs text_of has_words input = AnswersDocument text_of (if has_words then Err Usage else document_of_input input)

-- printed as lines
abbrev pub AnswersInputAsText : Bool → List ℕ → Result Answer CheckError → Type 0
AnswersInputAsText = AnswersInputAs report_text

-- ---- What is read and written

-- where a fault comes from; `IsRead` says what was read by then
abbrev pub check_origin : CheckError → Origin
check_origin Read = from_reader
check_origin TooLong = from_length
check_origin Write = from_writer
check_origin Memory = from_memory
check_origin fault = from_answer

-- The result, and what the writer took: the answer's text and nothing else, or a fault and nothing
-- at all. Out of memory, a failed read and a failed write come from outside; a failed write took a
-- beginning of the text, and nothing else.
abbrev pub IsCheckAnswered : (Result Answer CheckError → Type 0) → Option (List ℕ) → Option (List ℕ) → Result Verdict CheckError
    → Type 0
IsCheckAnswered IsAnswer old new (Ok verdict) =
    (answer : Answer) × IsAnswer (Ok answer) × (verdict ≡ answer.verdict) × Appends old new answer.text
IsCheckAnswered IsAnswer old new (Err Memory) = Keeps old new
IsCheckAnswered IsAnswer old new (Err Read) = Keeps old new
IsCheckAnswered IsAnswer old new (Err Write) = (answer : Answer) × IsAnswer (Ok answer) × IsPartWritten old new answer.text
IsCheckAnswered IsAnswer old new (Err fault) = IsAnswer (Err fault) × Keeps old new

-- the exit status of the program: without a report 2, whatever the reason
abbrev pub check_status : CheckError → ℕ
check_status fault = 2

abbrev pub report_status : Verdict → ℕ
report_status NoFaults = 0
report_status Faults = 1
