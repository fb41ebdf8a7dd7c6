use Rattle.std.proofs.Common.{◌≡◌, drop}
use Rattle.packed_pattern.specs.PatternBlocks.{first_item_fault}
use Rattle.packed_pattern.proofs.block.first_fault_of.Given as goal

-- The first bad item of the remaining items is the first of all.
abbrev pub invariant-loop-place : goal.invariant-loop-place
invariant-loop-place l = first_item_fault l.place (drop l.place l.list) ≡ first_item_fault 0 l.list
