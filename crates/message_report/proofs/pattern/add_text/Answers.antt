use Rattle.std.proofs.Common.{◌≡◌, ◌∙◌}
use Rattle.message_pattern.specs.PatternParts.{parts_view}
use Rattle.message_pattern.specs.StyledParts.{unstyled}
use Rattle.message_report.specs.Inner.ArgumentViews.{languages_view}
use Rattle.message_report.specs.MessagePlaces.{pattern_place_view}
use Rattle.message_report.proofs.EachFound.{on_ok}
use Rattle.message_report.proofs.TextLemmas.{fault_found, pattern_found}
use Rattle.message_report.proofs.pattern.add_text.Goals as goal

pub returns-in-Ok : goal.returns-in-Ok
returns-in-Ok c =
    let shown : parts_view c.parts.result.now ≡ unstyled c.in-Ok.styled = c.parts.ensures ∙ c.into_pattern-pattern.ensures in
    on_ok c.add_arguments.result
    (pattern_found (languages_view c.args.languages.now)
    (pattern_place_view c.args.place) c.args.text.now c.as_bytes.result.now c.in-Ok.styled
    (parts_view c.parts.result.now) c.args.found.now c.add_arguments.new.found c.as_bytes.ensures.value c.in-Ok.ensures shown)
    c.add_arguments.ensures

pub returns-in-Err-Fault : goal.returns-in-Err-Fault
returns-in-Err-Fault c =
    on_ok c.add_no_pattern.result
    (fault_found (languages_view c.args.languages.now)
    (pattern_place_view c.args.place) c.args.text.now c.as_bytes.result.now c.in-Err-Fault.kind
    c.in-Err-Fault.byte c.args.found.now c.add_no_pattern.new.found c.as_bytes.ensures.value
    (rw c.in-Err-Fault.field-0-is at c.in-Err-Fault.ensures))
    (rw c.in-Err-Fault.field-0-is at c.add_no_pattern.ensures)
