use Rattle.std.proofs.Common.{◌++◌, ap, map, string_bytes, ◌∙◌}
use Rattle.message_report.specs.MessageFindings.{message_finding_view}
use Rattle.message_report.specs.MessagesReportText.{counts_found}
use Rattle.finding_formats.specs.FindingObjects.{counts_data, finding_data}
use Rattle.finding_formats.specs.JsonLines.{json_line}
use Rattle.finding_formats.proofs.LineLemmas.{objects_and_last}
use Rattle.finding_formats.proofs.json_lines.json_lines.Goals as goal

pub returns : goal.returns
returns c =
    let before = string_bytes c.push_lines.new.text in
    rw c.findings.ensures at
    (objects_and_last finding_data (map message_finding_view c.findings.result.now) (counts_data (counts_found c.args.found.now))
    (string_bytes c.new-text.result) before (string_bytes c.push_value.new.text) c.new-text.ensures.bytes c.in_ok-push_lines.ensures
    (c.in_ok-push_value.ensures.ok ∙ ap (λ d. before ++ json_line d) (c.in_ok-counts.ensures ∙ ap counts_data c.counts.ensures)))
