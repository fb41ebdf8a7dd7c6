use Rattle.std.proofs.Common.{◌≡◌, ◌++◌, length}
use Rattle.std.specs.List.{concat}
use Rattle.packed_list.specs.ListBytes.{StaysInFront}
use Rattle.packed_list.proofs.writer.push_items.Given as goal

-- What is written and the remaining items are all items, and what stood there stays in front.
abbrev pub invariant-loop-item : goal.invariant-loop-item
invariant-loop-item g l = record {
  written : l.bytes.items ++ concat (g.I.ByteItems.items l.left)
      ≡ l.fn.bytes.items ++ concat (g.I.ByteItems.items l.fn.items);
  kept : StaysInFront l.fn.bytes.items l.bytes.items;
}

abbrev pub decreases-loop-item : goal.decreases-loop-item
decreases-loop-item g l = length (g.I.ByteItems.items l.left)
