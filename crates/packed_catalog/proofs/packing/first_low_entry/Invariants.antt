use Rattle.std.proofs.Common.{◌≡◌, ℕ, suc, ◌<◌, [], get_or}
use Rattle.std.specs.Cmp.Lexicographic.{slice_cmp}
use Rattle.std.specs.declared.cmp.Ordering.TheVariants.{Less}
use Rattle.std.specs.Ordering.{nat_cmp}
use Rattle.packed_catalog.specs.CatalogBytes.{entry_keys_of, lent_entries}
use Rattle.packed_catalog.proofs.packing.first_low_entry.Given as goal

-- The keys so far rise.
abbrev pub invariant-loop-index : goal.invariant-loop-index
invariant-loop-index l = (k : ℕ) → suc k < l.index
    → slice_cmp nat_cmp (get_or (entry_keys_of (lent_entries l.entries)) k []) (get_or (entry_keys_of (lent_entries l.entries)) (suc k) []) ≡ Less
