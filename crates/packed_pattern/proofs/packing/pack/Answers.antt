use Rattle.std.proofs.Common.{◌∙◌, ◌<◌, arith, length, refl, ap, sym}
use Rattle.std.specs.Prelude.{Err}
use Rattle.std.proofs.lemmas.List.{length-map}
use Rattle.message_pattern.specs.PatternParts.{part_view, parts_view}
use Rattle.packed_part.specs.PackedParts.{part_items_of}
use Rattle.packed_pattern.proofs.PartsPacked.{all_packable, length-items_of}
use Rattle.packed_pattern.proofs.packing.pack.Goals as goal

pub invariant_of-new : goal.invariant_of-new
invariant_of-new c = record {
  packable = all_packable 0 (parts_view c.parts-parts.result.now) (sym c.first_unpackable.ensures ∙ c.in_default.is);
  few = omega arith;
}

pub first_misplaced-requires : goal.first_misplaced-requires
first_misplaced-requires c κs = (
  (refl, tt),
  (
    omega (arith, length-map c.parts-parts.result.now part_view),
    all_packable 0 (parts_view c.parts-parts.result.now) (sym c.first_unpackable.ensures ∙ c.in_default.is),
  ),
)

pub returns-in-Err-CountLimit-clause-count_limit : goal.returns-in-Err-CountLimit-clause-count_limit
returns-in-Err-CountLimit-clause-count_limit c =
    let parts = c.parts-parts.result.now in
    let many : 65535 < length (part_items_of (parts_view parts)) =
    c.in-Err-CountLimit.ensures.count_limit.0 (ap Err c.in-Err-CountLimit.field-0-is) in
    absurd (omega (arith, length-items_of (parts_view parts), length-map parts part_view))

pub returns-in-Err-CountLimit-clause-start_limit : goal.returns-in-Err-CountLimit-clause-start_limit
returns-in-Err-CountLimit-clause-start_limit c =
    let parts = c.parts-parts.result.now in
    let many : 65535 < length (part_items_of (parts_view parts)) =
    c.in-Err-CountLimit.ensures.count_limit.0 (ap Err c.in-Err-CountLimit.field-0-is) in
    absurd (omega (arith, length-items_of (parts_view parts), length-map parts part_view))
