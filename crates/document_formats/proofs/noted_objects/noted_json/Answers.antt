use Rattle.std.proofs.Common.{◌≡◌, ◌++◌, ℕ, List, length, map, option_map, string_bytes, ap, subst, sym, ◌∙◌}
use Rattle.std.proofs.lemmas.List.{length-map}
use Rattle.std.specs.List.{flat_map}
use Rattle.serde_json.specs.Data.{Data}
use Rattle.document_report.specs.DocumentFindings.{Finding, finding_view}
use Rattle.document_report.specs.ReportText.{counts_in, findings_in}
use Rattle.document_report.specs.declared.counts.Counts.{Counts}
use Rattle.document_notes.specs.DocumentNotes.{NoteAt, note_view}
use Rattle.finding_formats.specs.JsonLines.{json_line}
use Rattle.document_formats.specs.DocumentObjects.{finding_data_in}
use Rattle.document_formats.specs.NotedFormats.{last_data, note_data_in}
use Rattle.document_formats.proofs.NotedLines.{in_three}
use Rattle.document_formats.proofs.noted_objects.noted_json.Goals as goal

pub returns : goal.returns
returns c =
    let file = option_map (λ name. name.now) c.args.file in
    let report = c.args.report.now in
    let notes = c.args.notes.now in
    let line : List ℕ → Finding → List ℕ = λ name f. json_line (finding_data_in name f) in
    let noted : List ℕ → NoteAt → List ℕ = λ name n. json_line (note_data_in name n) in
    let counted = c.as_slice-noted.result.now in
    let many : length counted ≡ length notes = sym (length-map counted note_view) ∙ ap (λ (l : List NoteAt). length l) c.as_slice-noted.ensures in
    let last = json_line (last_data file (counts_in report) (length notes)) in
    let name = c.file_name-name.result.now in
    let written = in_three (line name) (noted name) (findings_in report) (map finding_view c.findings-findings.result.now) notes
    (map note_view c.as_slice-noted.result.now) (string_bytes c.new-text.result) (string_bytes c.push_lines.new.text)
    (string_bytes c.push_lines-2.new.text) (string_bytes c.push_value.new.text) last _ c.new-text.ensures.bytes c.findings-findings.ensures
    c.as_slice-noted.ensures c.in_ok-push_lines.ensures c.in_ok-push_lines-2.ensures
    (ap json_line (c.in_ok-last.ensures ∙ ap (λ (counts : Counts). last_data file counts (length counted)) c.counts.ensures
    ∙ ap (last_data file (counts_in report)) many)) c.in_ok-push_value.ensures.ok in
    subst (λ (n : List ℕ). string_bytes c.push_value.new.text
    ≡ flat_map (line n) (findings_in report) ++ (flat_map (noted n) notes ++ last)) c.file_name-name.ensures written
