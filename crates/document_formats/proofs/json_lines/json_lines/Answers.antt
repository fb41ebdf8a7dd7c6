use Rattle.std.proofs.Common.{◌++◌, ap, map, string_bytes, ◌∙◌}
use Rattle.document_report.specs.DocumentFindings.{finding_view}
use Rattle.document_report.specs.ReportText.{counts_in}
use Rattle.document_formats.specs.DocumentObjects.{document_counts_data, document_finding_data}
use Rattle.finding_formats.proofs.LineLemmas.{objects_and_last}
use Rattle.finding_formats.specs.JsonLines.{json_line}
use Rattle.document_formats.proofs.json_lines.json_lines.Goals as goal

pub returns : goal.returns
returns c =
    let before = string_bytes c.push_lines.new.text in
    rw c.findings.ensures at
    (objects_and_last document_finding_data (map finding_view c.findings.result.now) (document_counts_data (counts_in c.args.report.now))
    (string_bytes c.new-text.result) before (string_bytes c.push_value.new.text) c.new-text.ensures.bytes c.in_ok-push_lines.ensures
    (c.in_ok-push_value.ensures.ok ∙ ap (λ d. before ++ json_line d) (c.in_ok-counts.ensures ∙ ap document_counts_data c.counts.ensures)))
