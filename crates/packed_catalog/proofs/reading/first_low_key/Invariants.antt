use Rattle.std.proofs.Common.{◌≡◌, ℕ, suc, ◌<◌}
use Rattle.std.specs.Cmp.Lexicographic.{slice_cmp}
use Rattle.std.specs.declared.cmp.Ordering.TheVariants.{Less}
use Rattle.std.specs.Ordering.{nat_cmp}
use Rattle.packed_catalog.specs.CatalogFaults.{key_in}
use Rattle.packed_catalog.proofs.reading.first_low_key.Given as goal

-- The keys so far rise.
abbrev pub invariant-loop-index : goal.invariant-loop-index
invariant-loop-index l = (k : ℕ) → suc k < l.index → slice_cmp nat_cmp (key_in l.bytes k) (key_in l.bytes (suc k)) ≡ Less
