use Rattle.std.proofs.Common.{◌≡◌, ℕ, List, length, map, option_map, string_bytes, ap, sym, ◌∙◌}
use Rattle.std.proofs.lemmas.List.{length-map}
use Rattle.document_report.specs.DocumentFindings.{finding_view}
use Rattle.document_report.specs.ReportText.{counts_in}
use Rattle.document_report.specs.declared.counts.Counts.{Counts}
use Rattle.document_notes.proofs.NotedTexts.{text_made}
use Rattle.document_notes.specs.DocumentNotes.{NoteAt, note_view}
use Rattle.document_notes.specs.NotedText.{noted_counts}
use Rattle.document_notes.proofs.noted_lines.noted_text.Goals as goal

pub returns : goal.returns
returns c =
    let slice = c.as_slice-2.result.now in
    let many : length slice ≡ length c.args.notes.now =
    sym (length-map slice note_view) ∙ ap (λ (l : List NoteAt). length l) c.as_slice-2.ensures in
    let counted : c.as_str.result.now ≡ noted_counts (counts_in c.args.report.now) (length c.args.notes.now) =
    c.as_str.ensures.value ∙ c.in_ok-counts.ensures ∙ ap (λ (n : ℕ). noted_counts c.counts.result n) many
    ∙ ap (λ (counts : Counts). noted_counts counts (length c.args.notes.now)) c.counts.ensures in
    text_made (option_map (λ name. name.now) c.args.file) c.args.report.now c.args.notes.now
    (map finding_view c.findings.result.now) (map note_view c.as_slice.result.now)
    (string_bytes c.new-text.result) (string_bytes c.push_lines.new.text) (string_bytes c.push_lines-2.new.text)
    (string_bytes c.push_line.new.text) c.as_str.result.now c.new-text.ensures.bytes c.findings.ensures c.as_slice.ensures
    c.in_ok-push_lines.ensures c.in_ok-push_lines-2.ensures counted c.in_ok-push_line.ensures
