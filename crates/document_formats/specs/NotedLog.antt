-- The report of a document with its notes as a log of SARIF 2.1.0, whose results are the findings and
-- then the notes, and whose rules are the codes of both. If notes are faults, their level is that of
-- faults.
--     noted_log file strict report notes      the log
use Rattle.std.specs.Prelude.{ℕ, Bool, List, ◌++◌, None, codes, map, if◌then◌else◌}
use Rattle.serde_json.specs.Data.{Data}
use Rattle.document_notes.specs.DocumentNotes.{NoteAt}
use Rattle.document_notes.specs.NotedText.{note_line, note_place_text}
use Rattle.document_report.specs.ReportText.{findings_in}
use Rattle.document_report.specs.declared.report.Report.{Report}
use Rattle.finding_formats.specs.Logs.{location_data, log_text, result_data, rule_data}
use Rattle.document_formats.specs.DocumentCodes.{all_document_codes, document_code_meaning, document_code_name}
use Rattle.document_formats.specs.DocumentLog.{result_in}
use Rattle.document_formats.specs.NoteCodes.{all_note_codes, note_code_meaning, note_code_name, note_code_of, note_code_place}

-- the level of a note, also if notes are faults
abbrev pub note_level : Bool → List ℕ
note_level strict = if strict then codes "error" else codes "note"

-- the result of a note on the document in a file, whose line isn't known
abbrev pub note_result_in : List ℕ → Bool → NoteAt → Data
note_result_in file strict n =
    result_data (note_level strict) (location_data file None (note_place_text n)) (note_line n) (note_code_name (note_code_of n))
    (note_code_place (note_code_of n))

abbrev pub noted_results : List ℕ → Bool → Report → List NoteAt → List Data
noted_results file strict report notes = map (result_in file) (findings_in report) ++ map (note_result_in file strict) notes

abbrev pub noted_rules : List Data
noted_rules =
    map (λ code. rule_data (document_code_name code) (document_code_meaning code)) all_document_codes
    ++ map (λ code. rule_data (note_code_name code) (note_code_meaning code)) all_note_codes

abbrev pub noted_log : List ℕ → Bool → Report → List NoteAt → List ℕ
noted_log file strict report notes = log_text (codes "plurals_check") noted_rules (noted_results file strict report notes)
