use Rattle.std.proofs.Common.{ap, ◌∙◌}
use Rattle.finding_formats.proofs.NoFloats.{finding_without}
use Rattle.finding_formats.proofs.json_lines.FindingObjectsLinePrinterFinding.push.Goals as goal
use Rattle.serde_json.specs.Written.{has_float}

pub push_value-requires : goal.push_value-requires
push_value-requires c = ap has_float c.in_ok-value.ensures ∙ finding_without _
