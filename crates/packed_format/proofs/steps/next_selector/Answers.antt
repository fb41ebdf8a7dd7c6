use Rattle.std.proofs.Common.{sym, ◌∙◌}
use Rattle.message_pattern.specs.PatternParts.{selector_view}
use Rattle.packed_pattern.specs.Inner.PlacesAhead.{placed_view}
use Rattle.packed_format.proofs.PlacesRead.{selector_end}
use Rattle.packed_format.proofs.steps.next_selector.Goals as goal

pub returns-in-Some-clause-branches : goal.returns-in-Some-clause-branches
returns-in-Some-clause-branches c parts h =
    selector_end (placed_view c.args.placed.now) parts c.args.index c.place.result c.args.depth (selector_view c.in-Some.field-0) h
    c.in-Some.ensures (sym c.depth.ensures ∙ c.if-depth.true) c.place.ensures.place
