use Rattle.std.proofs.Common.{◌≡◌, ℕ, ◌-◌, ◌<◌, ◌≤◌}
use Rattle.std.specs.Cmp.Lexicographic.{slice_cmp}
use Rattle.std.specs.declared.cmp.Ordering.TheVariants.{Less}
use Rattle.std.specs.Ordering.{nat_cmp}
use Rattle.std.specs.Prelude.{◌≢◌}
use Rattle.packed_catalog.specs.CatalogFaults.{key_in}
use Rattle.packed_catalog.specs.Inner.CatalogReading.{IsBlock, SharesFront}
use Rattle.packed_catalog.proofs.finding.first_from.Given as goal

-- In a block all keys before the low place are below the key, and none from the high place on. The
-- keys at these two ends have a front in common with it.
abbrev pub invariant-loop-low : goal.invariant-loop-low
invariant-loop-low l = record {
  order : l.low ≤ l.high;
  within : l.high ≤ l.count;
  low_none : l.low ≡ 0 → l.low_shared ≡ 0;
  high_none : l.high ≡ l.count → l.high_shared ≡ 0;
  below : IsBlock l.bytes → (k : ℕ) → k < l.low → slice_cmp nat_cmp (key_in l.bytes k) l.key ≡ Less;
  above : IsBlock l.bytes → (k : ℕ) → l.high ≤ k → k < l.count → slice_cmp nat_cmp (key_in l.bytes k) l.key ≢ Less;
  low_front : IsBlock l.bytes → SharesFront l.low_shared (key_in l.bytes (l.low - 1)) l.key;
  high_front : IsBlock l.bytes → SharesFront l.high_shared (key_in l.bytes l.high) l.key;
}

abbrev pub decreases-loop-low : goal.decreases-loop-low
decreases-loop-low l = l.high - l.low
