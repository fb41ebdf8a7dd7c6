use Rattle.std.proofs.Common.{ap, ◌∙◌}
use Rattle.document_report.specs.DocumentFindings.{finding_view}
use Rattle.document_formats.proofs.NoFloats.{finding_without}
use Rattle.document_formats.proofs.json_lines.FileObjectsLinePrinterFinding.push.Goals as goal
use Rattle.serde_json.specs.Written.{has_float}

pub push_value-requires : goal.push_value-requires
push_value-requires c =
    ap has_float c.in_ok-value.ensures ∙ finding_without c.args.self.now.file.now (finding_view c.args.finding.now)
