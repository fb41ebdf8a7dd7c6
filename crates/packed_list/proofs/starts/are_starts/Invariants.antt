use Rattle.std.proofs.Common.{◌≡◌, ℕ, ◌+◌, ◌*◌, ◌<◌, ◌≤◌, length}
use Rattle.packed_list.specs.ListBytes.{start_at}
use Rattle.packed_list.proofs.starts.are_starts.Given as goal

-- No start so far is bad, and the last one is remembered.
abbrev pub invariant-loop-index : goal.invariant-loop-index
invariant-loop-index l = record {
  last : (k : ℕ) → k + 1 ≡ l.index → l.before ≡ start_at l.bytes k;
  good : (k : ℕ) → k + 1 < l.index → (start_at l.bytes k ≤ start_at l.bytes (k + 1))
      × (2 * l.count + start_at l.bytes (k + 1) ≤ length l.bytes);
}
