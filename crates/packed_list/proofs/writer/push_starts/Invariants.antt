use Rattle.std.proofs.Common.{◌≡◌, ◌≤◌, ◌+◌, ◌*◌, ◌++◌, length, false, vec_len, vec_capacity}
use Rattle.std.specs.Prelude.{flat_map, nat_lt}
use Rattle.std.specs.List.{list_any}
use Rattle.packed_list.specs.ListBytes.{starts_from, two_bytes}
use Rattle.packed_list.proofs.writer.push_starts.Given as goal

-- What is written and the remaining starts are all starts, and there is room for the remaining
-- ones.
abbrev pub invariant-loop-item : goal.invariant-loop-item
invariant-loop-item g l = record {
  room : vec_len l.bytes + 2 * length (g.I.ByteItems.items l.left) ≤ vec_capacity l.bytes;
  left : list_any (λ start. nat_lt 65535 start) (starts_from l.start (g.I.ByteItems.items l.left)) ≡ false;
  written : l.bytes.items ++ flat_map two_bytes (starts_from l.start (g.I.ByteItems.items l.left))
      ≡ l.fn.bytes.items ++ flat_map two_bytes (starts_from l.place (g.I.ByteItems.items l.fn.items));
}

abbrev pub decreases-loop-item : goal.decreases-loop-item
decreases-loop-item g l = length (g.I.ByteItems.items l.left)
