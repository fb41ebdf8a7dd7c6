use Rattle.std.proofs.Common.{◌++◌, ap, map, string_bytes, ◌∙◌}
use Rattle.finding_formats.specs.JsonLines.{json_line}
use Rattle.finding_formats.specs.LocatedFindings.{located_view}
use Rattle.finding_formats.specs.LocatedObjects.{located_data, totals_data}
use Rattle.finding_formats.proofs.LineLemmas.{objects_then}
use Rattle.finding_formats.proofs.located_lines.located_lines.Goals as goal

pub returns : goal.returns
returns c =
    let before = string_bytes c.push_lines.new.text in
    objects_then located_data (map located_view c.args.located.now) (totals_data c.args.totals) (string_bytes c.new-text.result) before
    (string_bytes c.push_value.new.text) c.new-text.ensures.bytes c.in_ok-push_lines.ensures
    (c.in_ok-push_value.ensures.ok ∙ ap (λ d. before ++ json_line d) c.in_ok-totals.ensures)
