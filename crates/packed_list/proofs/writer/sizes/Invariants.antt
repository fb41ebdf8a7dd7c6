use Rattle.std.proofs.Common.{◌≡◌, ◌+◌, ◌<◌, ◌≤◌, ◌^◌, length}
use Rattle.std.specs.Prelude.{nat_lt}
use Rattle.std.specs.List.{concat, list_any}
use Rattle.packed_list.specs.ListBytes.{has_high_start, starts_from}
use Rattle.packed_list.proofs.writer.sizes.Given as goal

-- The remaining starts decide, since none so far is too high.
abbrev pub invariant-loop-item : goal.invariant-loop-item
invariant-loop-item g l = record {
  count : l.count + length (g.I.ByteItems.items l.left) ≡ length (g.I.ByteItems.items l.fn.items);
  few : l.count ≤ 65535;
  left : list_any (λ start. nat_lt 65535 start) (starts_from l.start (g.I.ByteItems.items l.left))
      ≡ has_high_start (g.I.ByteItems.items l.fn.items);
  total : l.start + length (concat (g.I.ByteItems.items l.left)) ≡ length (concat (g.I.ByteItems.items l.fn.items));
  place : l.start < 2 ^ 63 + 131072;
}

abbrev pub decreases-loop-item : goal.decreases-loop-item
decreases-loop-item g l = length (g.I.ByteItems.items l.left)
