-- The bytes of a catalogue: the count of its entries, where each key and each value ends, and the
-- keys and values.
use Rattle.std.specs.Prelude.{◌≡◌, ℕ, ◌+◌, ◌/◌, ◌%◌, ◌^◌, ◌<◌, List, [], ◌∷◌, ◌++◌, length, flat_map, map, Option, Some, None, if◌then◌else◌}
use Rattle.std.specs.Cmp.Lexicographic.{slice_cmp}
use Rattle.std.specs.List.{concat}
use Rattle.std.specs.List.Sorted.{IsStrictlySortedBy}
use Rattle.std.specs.Ordering.{nat_cmp}
use Rattle.std.specs.Str.{bytes_eq}
use Rattle.packed_catalog.specs.declared.entry.CatalogEntry.{CatalogEntry}

-- a key, and the value under it
pub record Entry : Type 0 where
  pub key : List ℕ
  pub value : List ℕ

-- the entries that are borrowed
abbrev pub lent_entries : List CatalogEntry → List Entry
lent_entries entries = map (λ (entry : CatalogEntry). record { key = entry.key.now; value = entry.value.now }) entries

-- the keys
abbrev pub entry_keys_of : List Entry → List (List ℕ)
entry_keys_of entries = map (λ (entry : Entry). entry.key) entries

-- the keys and the values, each value after its key
abbrev pub pieces_of : List Entry → List (List ℕ)
pieces_of [] = []
pieces_of (entry ∷ entries) = entry.key ∷ entry.value ∷ pieces_of entries

-- where each piece ends, if the first one starts at the given place
abbrev pub ends_from : ℕ → List (List ℕ) → List ℕ
ends_from place [] = []
ends_from place (piece ∷ pieces) = (place + length piece) ∷ ends_from (place + length piece) pieces

-- a number below 2 ^ 32 as four bytes, low byte first
abbrev pub four_bytes : ℕ → List ℕ
four_bytes n = (n % 256) ∷ (n / 256 % 256) ∷ (n / 256 / 256 % 256) ∷ (n / 256 / 256 / 256) ∷ []

-- the count, where each key and each value ends in the data, and the data: the keys and values
-- without gaps
abbrev pub catalog_bytes : List Entry → List ℕ
catalog_bytes entries = four_bytes (length entries)
    ++ (flat_map four_bytes (ends_from 0 (pieces_of entries)) ++ concat (pieces_of entries))

-- each key is below those after it: the first byte that differs decides, and a key is above its
-- beginnings
abbrev pub AreSorted : List Entry → Type 0
AreSorted entries = IsStrictlySortedBy (slice_cmp nat_cmp) (entry_keys_of entries)

-- the entries can be packed: they are sorted, and four bytes hold their count and the length of the
-- data
pub record CanPackEntries (entries : List Entry) : Type 0 where
  pub sorted : AreSorted entries
  pub count : length entries < 2 ^ 32
  pub data_length : length (concat (pieces_of entries)) < 2 ^ 32

-- the bytes encode the entries
pub record CatalogBytes (entries : List Entry) (bytes : List ℕ) : Type 0 where
  pub can_pack : CanPackEntries entries
  pub spelled : bytes ≡ catalog_bytes entries

-- the value of the first entry with a key
abbrev pub value_under : List ℕ → List Entry → Option (List ℕ)
value_under key [] = None
value_under key (entry ∷ entries) = if bytes_eq entry.key key then Some entry.value else value_under key entries
