-- The text of a report with notes: a line for each finding, then one for each note, and one with the
-- counts.
--     line_in file line      a line, after the name of a file if there is one
--     noted_text file report notes      the text
use Rattle.std.specs.Prelude.{◌≡◌, ℕ, ◌==◌, List, [], ◌∷◌, ◌++◌, codes, length, Option, Some, None, if◌then◌else◌}
use Rattle.std.specs.Fmt.{decimal}
use Rattle.std.specs.List.{flat_map}
use Rattle.document_report.specs.DocumentFindings.{finding_line}
use Rattle.document_report.specs.DocumentPlaces.{at_text, finding_place_text, named_document_place}
use Rattle.document_report.specs.ReportText.{counts_in, findings_in, report_text}
use Rattle.document_report.specs.declared.counts.Counts.{Counts}
use Rattle.document_report.specs.declared.report.Report.{Report}
use Rattle.plural_documents.specs.PrintedKeys.{ended_line, name_text}
use Rattle.plural_documents.specs.RepeatedKeys.{Path}
use Rattle.rule_notes.specs.RuleNotes.{note_cause_text}
use Rattle.document_notes.specs.DocumentNotes.{NoteAt, on_key, on_rule}

-- `cldr.json: ` before a line of a file
abbrev pub name_in : Option (List ℕ) → List ℕ
name_in None = []
name_in (Some file) = file ++ codes ": "

abbrev pub line_in : Option (List ℕ) → List ℕ → List ℕ
line_in file line = name_in file ++ ended_line line

-- a key behind those that lead to its object: `cardinal en one`
abbrev pub keys_text : Path → List ℕ → List ℕ
keys_text [] key = name_text key
keys_text (first ∷ path) key = named_document_place (name_text first) (keys_text path key)

-- the place of a note: `cardinal ru few`
abbrev pub note_place_text : NoteAt → List ℕ
note_place_text (on_rule place note) = finding_place_text (at_text place note.category)
note_place_text (on_key (path, key)) = keys_text path key

-- what is noted: `range 4..2 is upside down`
abbrev pub document_note_text : NoteAt → List ℕ
document_note_text (on_rule place note) = note_cause_text note.cause
document_note_text (on_key repeated) = codes "key stands more than once"

-- `cardinal ru few: note: range 4..2 is upside down`
abbrev pub note_line : NoteAt → List ℕ
note_line n = note_place_text n ++ (codes ": note: " ++ document_note_text n)

-- nothing, if there is no note
abbrev pub notes_text : ℕ → List ℕ
notes_text notes = if notes == 0 then [] else codes ", notes: " ++ decimal notes

-- `locales: 1, rules: 1, numbers: 0, faults: 0, notes: 1`
abbrev pub counts_with : Counts → List ℕ → List ℕ
counts_with counts notes =
    codes "locales: " ++ (decimal counts.locales ++ (codes ", rules: " ++ (decimal counts.rules ++ (codes ", numbers: "
    ++ (decimal counts.numbers ++ (codes ", faults: " ++ (decimal counts.faults ++ notes)))))))

abbrev pub noted_counts : Counts → ℕ → List ℕ
noted_counts counts notes = counts_with counts (notes_text notes)

abbrev pub noted_text : Option (List ℕ) → Report → List NoteAt → List ℕ
noted_text file report notes =
    flat_map (λ f. line_in file (finding_line f)) (findings_in report)
    ++ (flat_map (λ n. line_in file (note_line n)) notes ++ line_in file (noted_counts (counts_in report) (length notes)))

-- ---- Without notes

-- a report without notes is printed as it is
abbrev pub NoNotesChangeNothing : Type 0
NoNotesChangeNothing = (report : Report) → noted_text None report [] ≡ report_text report
