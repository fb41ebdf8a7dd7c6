use Rattle.std.proofs.Common.{◌≡◌, ◌≤◌, ◌+◌, ◌++◌, length, map, vec_len, vec_capacity}
use Rattle.plural_runtime.specs.PackedTree.{unpacked_range}
use Rattle.plural_runtime.specs.RuleKinds.{item_of}
use Rattle.plural_runtime.specs.Inner.RuleViews.{lent_relation}
use Rattle.plural_runtime.proofs.unpack.ranges_of.Given as goal

-- The items that are made and those of the remaining ranges are all items, and there is room for
-- the latter.
abbrev pub invariant-loop-range : goal.invariant-loop-range
invariant-loop-range l = record {
  room : vec_len l.items + length l.range-iterator ≤ vec_capacity l.items;
  made : l.items.items ++ map item_of l.range-iterator ≡ map unpacked_range (lent_relation l.relation).meaning.ranges;
}
