use Rattle.std.proofs.Common.{◌≡◌, ◌++◌, drop, map, length}
use Rattle.message_pattern.specs.PatternParts.{parts_view}
use Rattle.packed_part.specs.Inner.PartReading.{part_in}
use Rattle.packed_pattern.proofs.block.parts_of.Given as goal

-- What was taken and what is left are all parts.
abbrev pub invariant-loop-part : goal.invariant-loop-part
invariant-loop-part l = parts_view l.parts.items ++ map part_in (drop l.left.next l.left.list.now) ≡ map part_in l.list

abbrev pub decreases-loop-part : goal.decreases-loop-part
decreases-loop-part l = length (map part_in (drop l.left.next l.left.list.now))
