use Rattle.std.proofs.Common.{◌≡◌, drop}
use Rattle.message_pattern.specs.PatternParts.{parts_view}
use Rattle.packed_pattern.specs.PatternBlocks.{first_unpackable}
use Rattle.packed_pattern.proofs.packing.first_unpackable.Given as goal

-- The first of the remaining parts that can't be packed is the first of all.
abbrev pub invariant-loop-i : goal.invariant-loop-i
invariant-loop-i l = first_unpackable l.i (parts_view (drop l.i l.parts)) ≡ first_unpackable 0 (parts_view l.parts)
