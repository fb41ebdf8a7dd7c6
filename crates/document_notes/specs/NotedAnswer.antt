-- The answer to the bytes of a document: its report with its notes, and the verdict.
--     AnswersNoted text_of strict bytes document answer      the answer, or why there is no document
use Rattle.std.specs.Prelude.{◌≡◌, ◌&&◌, ◌==◌, not, ℕ, Bool, List, length, Result, Ok, Err, string_bytes, if◌then◌else◌}
use Rattle.document_report.specs.CheckAnswer.{Answer, verdict_of_report}
use Rattle.document_report.specs.DocumentReport.{IsReportOf}
use Rattle.document_report.specs.declared.error.CheckError.{CheckError}
use Rattle.document_report.specs.declared.report.Report.{Report}
use Rattle.document_report.specs.declared.report.Verdict.{Verdict}
use Rattle.document_report.specs.declared.report.Verdict.TheVariants.{Faults}
use Rattle.serde_json.specs.Data.{Data}
use Rattle.document_notes.specs.DocumentNotes.{AreNotesOfBytes, NoteAt}
use Rattle.document_notes.specs.declared.run.Noted.{Noted}

-- a note is a fault, if notes are
abbrev pub noted_verdict : Bool → Report → List NoteAt → Verdict
noted_verdict strict report notes = if strict && not (length notes == 0) then Faults else verdict_of_report report

-- the text of a report and of notes, by a printer
abbrev pub Texts : Type 0
Texts = Report → List NoteAt → List ℕ

abbrev pub answer_with_notes : Texts → Bool → Report → List NoteAt → Answer
answer_with_notes text_of strict report notes =
    record { text = text_of report notes; verdict = noted_verdict strict report notes }

abbrev pub IsNotedAnswer : Texts → Bool → List ℕ → Data → Answer → Type 0
IsNotedAnswer text_of strict bytes document answer =
    (report : Report) × (notes : List NoteAt) × IsReportOf document report × AreNotesOfBytes bytes document notes
    × (answer ≡ answer_with_notes text_of strict report notes)

abbrev pub AnswersNoted : Texts → Bool → List ℕ → Result Data CheckError → Result Answer CheckError → Type 0
AnswersNoted text_of strict bytes (Ok document) (Ok answer) = IsNotedAnswer text_of strict bytes document answer
AnswersNoted text_of strict bytes (Ok document) (Err fault) = ⊥
AnswersNoted text_of strict bytes (Err fault) answer = answer ≡ Err fault

-- the answer of the code, with the bytes of its text
abbrev pub noted_view : Noted → Answer
noted_view noted = record { text = string_bytes noted.text; verdict = noted.verdict }
