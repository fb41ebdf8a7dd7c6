use Rattle.std.proofs.Common.{◌≡◌, ◌+◌, ◌≤◌, length}
use Rattle.packed_part.specs.PartPlaces.{branch_place}
use Rattle.packed_part.specs.Inner.PartViews.{behind, sought_view}
use Rattle.packed_part.proofs.places.branch_place.Given as goal

-- The place in what is left is that in all parts, less those that were passed.
abbrev pub invariant-loop-part : goal.invariant-loop-part
invariant-loop-part g l = record {
  place : behind l.count (branch_place (sought_view l.fn.sought) l.depth (g.P.PartSource.parts l.left))
      ≡ branch_place (sought_view l.fn.sought) l.depth (g.P.PartSource.parts l.fn.parts);
  few : l.count + length (g.P.PartSource.parts l.left) ≤ 65535;
}

abbrev pub decreases-loop-part : goal.decreases-loop-part
decreases-loop-part g l = length (g.P.PartSource.parts l.left)
