use Rattle.std.proofs.Common.{◌≡◌, ◌∙◌, ◌<◌, sym, arith, true}
use Rattle.packed_pattern.specs.Inner.PlacesAhead.{placed_view}
use Rattle.packed_format.specs.Inner.PackedSteps.{has_next_number}
use Rattle.packed_format.proofs.PlacesRead.{no_number, same_numbers}
use Rattle.packed_format.proofs.steps.next_number.Goals as goal

pub returns-then-place-eq0 : goal.returns-then-place-eq0
returns-then-place-eq0 c parts h =
    let has : has_next_number (placed_view c.args.placed.now).part.piece ≡ true =
    sym c.has_next_number.ensures ∙ c.if-not-has_next_number.false in
    no_number (placed_view c.args.placed.now) parts c.args.index c.place-place.result c.args.depth h has
    (sym c.depth.ensures ∙ c.if-depth.false)
    c.place-place.ensures.place c.if-place-eq0.true

pub returns-else-place-eq0 : goal.returns-else-place-eq0
returns-else-place-eq0 c parts h =
    let has : has_next_number (placed_view c.args.placed.now).part.piece ≡ true =
    sym c.has_next_number.ensures ∙ c.if-not-has_next_number.false in
    let some : 0 < c.place-place.result = omega arith in (
      omega arith,
      omega (arith, c.place-place.ensures.few),
      same_numbers (placed_view c.args.placed.now) parts c.args.index c.place-place.result c.args.depth h has
          (sym c.depth.ensures ∙ c.if-depth.false)
          c.place-place.ensures.place some,
    )
