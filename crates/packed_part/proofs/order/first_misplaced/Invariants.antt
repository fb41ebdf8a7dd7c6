use Rattle.std.proofs.Common.{◌≡◌, ◌+◌, ◌≤◌, length, true}
use Rattle.std.specs.List.{list_all}
use Rattle.message_pattern.specs.PatternParts.{part_view}
use Rattle.packed_part.specs.PartOrder.{before_all, first_misplaced}
use Rattle.packed_part.specs.PackedParts.{is_packable}
use Rattle.packed_part.proofs.order.first_misplaced.Given as goal

-- The first part out of order among the remaining ones is the first of all.
abbrev pub invariant-loop-part : goal.invariant-loop-part
invariant-loop-part g l = record {
  first : first_misplaced l.place (part_view l.before) (g.P.PartSource.parts l.left) ≡ first_misplaced 0 before_all (g.P.PartSource.parts l.fn.parts);
  packable : list_all is_packable (g.P.PartSource.parts l.left) ≡ true;
  depth : (part_view l.before).depth ≤ 255;
  few : l.place + length (g.P.PartSource.parts l.left) ≤ 65535;
}

abbrev pub decreases-loop-part : goal.decreases-loop-part
decreases-loop-part g l = length (g.P.PartSource.parts l.left)
