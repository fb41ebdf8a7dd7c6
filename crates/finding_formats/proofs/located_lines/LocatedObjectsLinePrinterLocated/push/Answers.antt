use Rattle.std.proofs.Common.{ap, ◌∙◌}
use Rattle.finding_formats.proofs.NoFloats.{located_without}
use Rattle.finding_formats.proofs.located_lines.LocatedObjectsLinePrinterLocated.push.Goals as goal
use Rattle.serde_json.specs.Written.{has_float}

pub push_value-requires : goal.push_value-requires
push_value-requires c = ap has_float c.in_ok-value.ensures ∙ located_without _
