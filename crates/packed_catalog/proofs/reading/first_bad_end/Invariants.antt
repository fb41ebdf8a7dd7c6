use Rattle.std.proofs.Common.{◌≡◌, ℕ, suc, ◌<◌, ◌≤◌}
use Rattle.packed_catalog.specs.CatalogFaults.{start_of}
use Rattle.packed_catalog.proofs.reading.first_bad_end.Given as goal

-- No piece so far ends before it begins, and where the last one ends is remembered.
abbrev pub invariant-loop-k : goal.invariant-loop-k
invariant-loop-k l = record {
  last : l.before ≡ start_of l.bytes l.k;
  rises : (j : ℕ) → j < l.k → start_of l.bytes j ≤ start_of l.bytes (suc j);
}
