use Rattle.std.proofs.Common.{◌≤◌, drop, length}
use Rattle.packed_pattern.specs.Inner.PlacesAhead.{AreWalked}
use Rattle.packed_pattern.proofs.walk.is_block.Given as goal

-- The items that were looked at are the last ones.
abbrev pub invariant-loop-left : goal.invariant-loop-left
invariant-loop-left l = record {
  walked : AreWalked l.walk l.left (drop l.left l.list);
  within : l.left ≤ length l.list;
}

abbrev pub decreases-loop-left : goal.decreases-loop-left
decreases-loop-left l = l.left
