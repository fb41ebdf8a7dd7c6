-- The text of a report with notes, piece by piece.
use Rattle.std.proofs.Common.{◌≡◌, ℕ, List, [], ◌++◌, length, Option, ap, ◌∙◌, append_assoc}
use Rattle.std.specs.List.{flat_map}
use Rattle.document_report.specs.DocumentFindings.{Finding, finding_line}
use Rattle.document_report.specs.ReportText.{counts_in, findings_in}
use Rattle.document_report.specs.declared.report.Report.{Report}
use Rattle.document_notes.specs.DocumentNotes.{NoteAt}
use Rattle.document_notes.specs.NotedText.{line_in, note_line, noted_counts, noted_text}

abbrev pub finding_lines : Option (List ℕ) → List Finding → List ℕ
finding_lines file = flat_map (λ f. line_in file (finding_line f))

abbrev pub note_lines : Option (List ℕ) → List NoteAt → List ℕ
note_lines file = flat_map (λ n. line_in file (note_line n))

pub text_made : (file : Option (List ℕ)) (report : Report) (notes : List NoteAt) (findings : List Finding) (seen : List NoteAt)
    (start first second end counts : List ℕ) → start ≡ [] → findings ≡ findings_in report → seen ≡ notes
    → first ≡ start ++ finding_lines file findings → second ≡ first ++ note_lines file seen
    → counts ≡ noted_counts (counts_in report) (length notes) → end ≡ second ++ line_in file counts
    → end ≡ noted_text file report notes
text_made file report notes findings seen start first second end counts none found noted first_is second_is counted last =
    let before = finding_lines file (findings_in report) in
    let between = note_lines file notes in
    let one : first ≡ before = first_is ∙ ap (λ t. t ++ finding_lines file findings) none ∙ ap (finding_lines file) found in
    let two : second ≡ before ++ between =
    second_is ∙ ap (λ t. t ++ note_lines file seen) one ∙ ap (λ (l : List NoteAt). before ++ note_lines file l) noted in
    last ∙ ap (λ t. t ++ line_in file counts) two ∙ ap (λ (l : List ℕ). (before ++ between) ++ line_in file l) counted
    ∙ append_assoc before between (line_in file (noted_counts (counts_in report) (length notes)))
