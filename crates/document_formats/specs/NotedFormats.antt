-- The report of a document with its notes in each format.
--     noted_as file format strict report notes      the text, of a file if there is one
use Rattle.std.specs.Prelude.{ℕ, Bool, List, [], ◌∷◌, ◌++◌, codes, length, map, None, Option, Some}
use Rattle.std.specs.List.{flat_map}
use Rattle.document_notes.specs.DocumentNotes.{NoteAt, on_key, on_rule}
use Rattle.document_notes.specs.NotedText.{note_line, document_note_text, noted_text}
use Rattle.document_report.specs.DocumentPlaces.{at_text}
use Rattle.document_report.specs.ReportText.{counts_in, findings_in, report_text}
use Rattle.document_report.specs.declared.counts.Counts.{Counts}
use Rattle.document_report.specs.declared.report.Report.{Report}
use Rattle.finding_formats.specs.JsonLines.{json_line}
use Rattle.finding_formats.specs.WorkflowCommands.{located_commands}
use Rattle.finding_formats.specs.LocatedFindings.{Located, Notice, told_notice}
use Rattle.finding_formats.specs.declared.format.Format.{Format}
use Rattle.finding_formats.specs.declared.format.Format.TheVariants.{Text, Json, Sarif, GitHub}
use Rattle.message_report.specs.declared.severity.Severity.TheVariants as severity
use Rattle.plural_documents.specs.RepeatedKeys.{RepeatedAt}
use Rattle.serde_json.specs.Data.{Data, array, number, unsigned, string, object, member, no_members}
use Rattle.serde_json.specs.View.{items_of}
use Rattle.document_formats.specs.DocumentCommands.{file_report_commands, report_commands}
use Rattle.document_formats.specs.DocumentObjects.{finding_data_in, input_name, document_place_data, with_text_member}
use Rattle.document_formats.specs.NoteCodes.{note_code_name, note_code_of}
use Rattle.document_formats.specs.NotedLog.{noted_log}
use Rattle.document_formats.specs.DocumentLines.{file_report_lines, report_lines}
use Rattle.document_formats.specs.DocumentLog.{file_report_log, report_log}
use Rattle.document_formats.specs.FileText.{file_report_text}

-- ---- the report without notes in each format

abbrev pub report_as : Format → Report → List ℕ
report_as Text report = report_text report
report_as Json report = report_lines report
report_as Sarif report = report_log report
report_as GitHub report = report_commands report

abbrev pub file_report_as : List ℕ → Format → Report → List ℕ
file_report_as file Text report = file_report_text file report
file_report_as file Json report = file_report_lines file report
file_report_as file Sarif report = file_report_log file report
file_report_as file GitHub report = file_report_commands file report

-- the name of a file, or `-`
abbrev pub file_name : Option (List ℕ) → List ℕ
file_name None = input_name
file_name (Some file) = file

-- ---- Lines of JSON

-- a key: `{"key":"one","kind":"member","path":["cardinal","en"]}`
abbrev pub member_data : RepeatedAt → Data
member_data (path, key) =
    object (with_text_member (codes "key") key (with_text_member (codes "kind") (codes "member")
    (member (codes "path") (array (items_of (map string path))) no_members)))

abbrev pub note_place_data : NoteAt → Data
note_place_data (on_rule place note) = document_place_data (at_text place note.category)
note_place_data (on_key repeated) = member_data repeated

-- `{"code":"never-true","text":"n % 10 = 12 is never true"}`
abbrev pub note_cause_data : NoteAt → Data
note_cause_data n =
    object (with_text_member (codes "code") (note_code_name (note_code_of n)) (with_text_member (codes "text") (document_note_text n) no_members))

-- `{"cause":{..},"file":"-","place":{..},"severity":"note","text":"cardinal ru few: note: .."}`
abbrev pub note_data_in : List ℕ → NoteAt → Data
note_data_in file n =
    object (member (codes "cause") (note_cause_data n) (with_text_member (codes "file") file
    (member (codes "place") (note_place_data n) (with_text_member (codes "severity") (codes "note")
    (with_text_member (codes "text") (note_line n) no_members)))))

-- `{"faults":1,"locales":1,"notes":2,"numbers":17,"rules":2}`
abbrev pub noted_numbers_data : Counts → ℕ → Data
noted_numbers_data counts notes =
    object (member (codes "faults") (number (unsigned counts.faults)) (member (codes "locales") (number (unsigned counts.locales))
    (member (codes "notes") (number (unsigned notes)) (member (codes "numbers") (number (unsigned counts.numbers))
    (member (codes "rules") (number (unsigned counts.rules)) no_members)))))

-- the counts, of a file if there is one
abbrev pub last_data : Option (List ℕ) → Counts → ℕ → Data
last_data None counts notes = object (member (codes "counts") (noted_numbers_data counts notes) no_members)
last_data (Some file) counts notes =
    object (member (codes "counts") (noted_numbers_data counts notes) (with_text_member (codes "file") file no_members))

-- the findings, the notes, and the counts
abbrev pub noted_json : Option (List ℕ) → Report → List NoteAt → List ℕ
noted_json file report notes =
    flat_map (λ f. json_line (finding_data_in (file_name file) f)) (findings_in report)
    ++ (flat_map (λ n. json_line (note_data_in (file_name file) n)) notes ++ json_line (last_data file (counts_in report) (length notes)))

-- ---- Commands

abbrev pub note_located : List ℕ → List ℕ → List ℕ → Located
note_located file code text =
    record { line = None; placeholder = None; told = told_notice (record { file = file; severity = severity.Note; code = code; text = text }) }

-- `::notice file=-,title=never-true::cardinal ru few: note: n % 10 = 12 is never true`
abbrev pub note_command_in : List ℕ → NoteAt → List ℕ
note_command_in file n = located_commands (note_located file (note_code_name (note_code_of n)) (note_line n) ∷ [])

abbrev pub noted_commands : List ℕ → Report → List NoteAt → List ℕ
noted_commands file report notes = file_report_commands file report ++ flat_map (note_command_in file) notes

-- ---- All formats

abbrev pub noted_as : Option (List ℕ) → Format → Bool → Report → List NoteAt → List ℕ
noted_as file Text strict report notes = noted_text file report notes
noted_as file Json strict report notes = noted_json file report notes
noted_as file Sarif strict report notes = noted_log (file_name file) strict report notes
noted_as file GitHub strict report notes = noted_commands (file_name file) report notes
