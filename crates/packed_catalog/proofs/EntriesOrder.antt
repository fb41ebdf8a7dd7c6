-- The order of entries that are to be packed.
use Rattle.std.proofs.Common.{◌≡◌, ℕ, zero, suc, ◌+◌, ◌-◌, ◌<◌, ◌≤◌, List, [], ◌∷◌, length, get_or, refl, ap, arith, subst}
use Rattle.std.proofs.lemmas.Cmp.{nat_list_cmp_total}
use Rattle.std.proofs.lemmas.List.{length-map}
use Rattle.std.proofs.lemmas.Map.Keys.{Less-from_sorted, sorted_from_all_adjacent}
use Rattle.std.specs.Cmp.Lexicographic.{slice_cmp}
use Rattle.std.specs.declared.cmp.Ordering.TheVariants.{Less}
use Rattle.std.specs.Ordering.{nat_cmp}
use Rattle.packed_catalog.specs.declared.entry.CatalogEntry.{CatalogEntry}
use Rattle.packed_catalog.specs.CatalogBytes.{AreSorted, Entry, entry_keys_of, lent_entries}
use Rattle.packed_catalog.specs.CatalogFaults.{IsFirstLow}
use Rattle.packed_catalog.proofs.FirstFaults.{no_low_key}

-- how many keys entries have
pub length-keys_of : (entries : List Entry) → length (entry_keys_of entries) ≡ length entries
length-keys_of entries = length-map entries (λ (entry : Entry). entry.key)

-- how many entries are lent_entries
pub length-lent : (entries : List CatalogEntry) → length (lent_entries entries) ≡ length entries
length-lent [] = refl
length-lent (entry ∷ entries) = ap suc (length-lent entries)

-- the key of an entry that is lent_entries
pub key-lent : (entries : List CatalogEntry) (k : ℕ) (d : CatalogEntry) → k < length entries
    → (get_or entries k d).key.now ≡ get_or (entry_keys_of (lent_entries entries)) k []
key-lent [] k d l = absurd (omega arith)
key-lent (entry ∷ entries) zero d l = refl
key-lent (entry ∷ entries) (suc k) d l = key-lent entries k d (omega arith)

-- how the keys of two entries that are lent_entries compare
pub keys_compared : (entries : List CatalogEntry) (i : ℕ) (d : CatalogEntry) → 1 ≤ i → i < length entries
    → slice_cmp nat_cmp (get_or entries (i - 1) d).key.now (get_or entries i d).key.now
    ≡ slice_cmp nat_cmp (get_or (entry_keys_of (lent_entries entries)) (i - 1) []) (get_or (entry_keys_of (lent_entries entries)) i [])
keys_compared entries i d some l = rw (key-lent entries (i - 1) d (omega arith), key-lent entries i d l) refl

-- entries whose keys rise are sorted
pub sorted_from_rising : (entries : List Entry) → ((k : ℕ) → suc k < length entries
    → slice_cmp nat_cmp (get_or (entry_keys_of entries) k []) (get_or (entry_keys_of entries) (suc k) []) ≡ Less) → AreSorted entries
sorted_from_rising entries rises =
    let keys : List (List ℕ) = entry_keys_of entries in
    sorted_from_all_adjacent nat_list_cmp_total keys [] (λ k l. let e : suc k ≡ k + 1 = omega arith in
    subst (λ j. slice_cmp nat_cmp (get_or keys k []) (get_or keys j []) ≡ Less) e (rises k (omega (arith, length-keys_of entries))))

-- sorted entries have no low key
pub sorted_not_low : (entries : List Entry) → AreSorted entries → (index : ℕ) → ¬ (IsFirstLow entries index)
sorted_not_low entries sorted index low =
    let keys : List (List ℕ) = entry_keys_of entries in
    no_low_key (λ k. get_or keys k []) (length entries)
    (λ k l. Less-from_sorted (slice_cmp nat_cmp) keys k (suc k) [] sorted (omega arith) (omega (arith, length-keys_of entries)))
    index low.0 low.1.here
