-- The definitions at worked examples.
use Rattle.std.proofs.Common.{◌≡◌, List, ℕ, [], ◌∷◌, refl, Some, None, lit<, inr}
use Rattle.packed_catalog.specs.CatalogBytes.{Entry, catalog_bytes, value_under}
use Rattle.packed_catalog.specs.CatalogFaults.{HasCatalogBytesFault, HasBadEnd}
use Rattle.packed_catalog.specs.declared.error.CatalogError.TheVariants.{Header}
use Rattle.packed_catalog.specs.Inner.CatalogReading.{entries_in}

-- "a" has "xy", and "b" the empty value
abbrev two_entries : List Entry
two_entries = record { key = 97 ∷ []; value = 120 ∷ 121 ∷ [] } ∷ record { key = 98 ∷ []; value = [] } ∷ []

abbrev two_entries_packed : List ℕ
two_entries_packed = 2 ∷ 0 ∷ 0 ∷ 0 ∷ 1 ∷ 0 ∷ 0 ∷ 0 ∷ 3 ∷ 0 ∷ 0 ∷ 0 ∷ 4 ∷ 0 ∷ 0 ∷ 0 ∷ 4 ∷ 0 ∷ 0 ∷ 0
    ∷ 97 ∷ 120 ∷ 121 ∷ 98 ∷ []

two_entries_bytes : catalog_bytes two_entries ≡ two_entries_packed
two_entries_bytes = refl

-- and read again
two_entries_again : entries_in two_entries_packed ≡ two_entries
unfolding entries_in
two_entries_again = refl

-- no entry is a count of 0
no_entry : catalog_bytes [] ≡ 0 ∷ 0 ∷ 0 ∷ 0 ∷ []
no_entry = refl

-- the value under a key, and under none
value_of_a : value_under (97 ∷ []) two_entries ≡ Some (120 ∷ 121 ∷ [])
value_of_a = refl

value_of_ab : value_under (97 ∷ 98 ∷ []) two_entries ≡ None
value_of_ab = refl

-- three bytes have no count
three_bytes : HasCatalogBytesFault (0 ∷ 0 ∷ 0 ∷ []) Header
three_bytes = lit< tt

-- one entry needs two ends
one_end : HasCatalogBytesFault (1 ∷ 0 ∷ 0 ∷ 0 ∷ 0 ∷ 0 ∷ 0 ∷ 0 ∷ []) Header
one_end = lit< tt

-- a value that ends before its key
falling_end : HasBadEnd (1 ∷ 0 ∷ 0 ∷ 0 ∷ 1 ∷ 0 ∷ 0 ∷ 0 ∷ 0 ∷ 0 ∷ 0 ∷ 0 ∷ []) 0
falling_end = inr (lit< tt)
