use Rattle.std.proofs.Common.{◌≡◌, ◌+◌, ◌≤◌, length}
use Rattle.packed_list.proofs.writer.is_many.Given as goal

-- The counted and the remaining items are all items.
abbrev pub invariant-loop-count : goal.invariant-loop-count
invariant-loop-count g l = record {
  count : l.count + length (g.I.ByteItems.items l.left) ≡ length (g.I.ByteItems.items l.fn.items);
  few : l.count ≤ 65535;
}

abbrev pub decreases-loop-count : goal.decreases-loop-count
decreases-loop-count g l = length (g.I.ByteItems.items l.left)
