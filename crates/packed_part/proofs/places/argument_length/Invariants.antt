use Rattle.std.proofs.Common.{◌≡◌, ◌+◌, ◌≤◌, length}
use Rattle.packed_part.specs.PartPlaces.{argument_length}
use Rattle.packed_part.proofs.places.argument_length.Given as goal

-- What is counted and what is left are the length of all.
abbrev pub invariant-loop-part : goal.invariant-loop-part
invariant-loop-part g l = record {
  counted : l.count + argument_length l.depth (g.P.PartSource.parts l.left) ≡ argument_length l.depth (g.P.PartSource.parts l.fn.parts);
  few : l.count + length (g.P.PartSource.parts l.left) ≤ 65535;
}

abbrev pub decreases-loop-part : goal.decreases-loop-part
decreases-loop-part g l = length (g.P.PartSource.parts l.left)
