use Rattle.std.proofs.Common.{◌≡◌, ◌++◌, drop, map}
use Rattle.std.specs.List.{flat_map}
use Rattle.plural_reference.specs.Truth.{ends_of}
use Rattle.plural_runtime.specs.PackedTree.{packed_relation}
use Rattle.plural_runtime.specs.PackedRelations.{relation_bytes, range_bytes}
use Rattle.packed_list.specs.ListBytes.{StaysInFront}
use Rattle.plural_runtime.proofs.tree_bytes.TreeRelationByteItem.write_to.Given as goal

-- What is written and the remaining ranges are the bytes of the relation, and what stood there
-- stays in front.
abbrev pub invariant-loop-item : goal.invariant-loop-item
invariant-loop-item l = record {
  written : l.bytes.items ++ flat_map range_bytes (map ends_of (drop l.item-index l.self.relation.now.range_list.0))
      ≡ l.fn.bytes.items ++ relation_bytes (packed_relation l.self.and_or l.self.relation.now);
  kept : StaysInFront l.fn.bytes.items l.bytes.items;
}
