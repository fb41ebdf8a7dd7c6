-- What is wrong with bytes that aren't a catalogue, and with the order of entries.
use Rattle.std.specs.Prelude.{◌≡◌, ◌≢◌, ◌⊎◌, ℕ, zero, suc, ◌+◌, ◌*◌, ◌<◌, ◌≤◌, List, [], length, drop, slice_index, slice_index_or, slice_range, ◌++◌, codes}
use Rattle.std.specs.Cmp.Lexicographic.{slice_cmp}
use Rattle.std.specs.declared.cmp.Ordering.TheVariants.{Less}
use Rattle.std.specs.Ordering.{nat_cmp}
use Rattle.packed_catalog.specs.CatalogBytes.{Entry, entry_keys_of}
use Rattle.packed_catalog.specs.declared.error.CatalogError.{CatalogError}
use Rattle.packed_catalog.specs.declared.error.CatalogError.TheVariants.{Header, Length, End, Order}
use Rattle.std.specs.Fmt.{decimal}
use Rattle.packed_catalog.specs.declared.error.CatalogError.TheVariants as errors
use Rattle.packed_catalog.specs.declared.error.PackCatalogError.{PackCatalogError}
use Rattle.packed_catalog.specs.declared.error.PackCatalogError.TheVariants as packing

-- the number in the four bytes at a place, low byte first
abbrev pub four_byte_number_at : List ℕ → ℕ → ℕ
four_byte_number_at bytes place = slice_index bytes place + 256 * slice_index bytes (place + 1)
    + 65536 * slice_index bytes (place + 2) + 16777216 * slice_index bytes (place + 3)

-- the count of entries, as the bytes say
abbrev pub count_in : List ℕ → ℕ
count_in bytes = four_byte_number_at bytes 0

-- the bytes after the count and the ends
abbrev pub data_in : List ℕ → List ℕ
data_in bytes = drop (4 + 8 * count_in bytes) bytes

-- where piece k starts in the data, as the bytes say: where the one before it ends. Piece 2 k is key
-- k, and the next one its value
abbrev pub start_of : List ℕ → ℕ → ℕ
start_of bytes zero = 0
start_of bytes (suc k) = four_byte_number_at bytes (4 * suc k)

-- piece k
abbrev pub piece_in : List ℕ → ℕ → List ℕ
piece_in bytes k = slice_range (data_in bytes) (start_of bytes k) (start_of bytes (suc k))

-- the key of the entry at a place
abbrev pub key_in : List ℕ → ℕ → List ℕ
key_in bytes index = piece_in bytes (2 * index)

-- the key or the value of the entry at a place ends before it begins
abbrev pub HasBadEnd : List ℕ → ℕ → Type 0
HasBadEnd bytes index = (start_of bytes (suc (2 * index)) < start_of bytes (2 * index))
    ⊎ (start_of bytes (suc (suc (2 * index))) < start_of bytes (suc (2 * index)))

-- the key at a place isn't above the one before it
abbrev pub IsLowKey : (ℕ → List ℕ) → ℕ → Type 0
IsLowKey key zero = ⊥
IsLowKey key (suc index) = slice_cmp nat_cmp (key index) (key (suc index)) ≢ Less

-- the first place with a fault
pub record IsFirst (Fault : ℕ → Type 0) (index : ℕ) : Type 0 where
  pub here : Fault index
  pub none_before : (k : ℕ) → k < index → ¬ (Fault k)

-- the bytes have the count and the ends, and the last value ends where the data ends
pub record HasWholeData (bytes : List ℕ) : Type 0 where
  pub header : 4 + 8 * count_in bytes ≤ length bytes
  pub whole : start_of bytes (2 * count_in bytes) ≡ length (data_in bytes)

-- and no piece ends before it begins
pub record HasGoodEnds (bytes : List ℕ) : Type 0 where
  pub data_is : HasWholeData bytes
  pub rises : (k : ℕ) → k < 2 * count_in bytes → start_of bytes k ≤ start_of bytes (suc k)

-- bytes are refused with a fault: the first in this order
abbrev pub HasCatalogBytesFault : List ℕ → CatalogError → Type 0
HasCatalogBytesFault bytes Header = length bytes < 4 + 8 * count_in bytes
HasCatalogBytesFault bytes Length = (4 + 8 * count_in bytes ≤ length bytes) × (start_of bytes (2 * count_in bytes) ≢ length (data_in bytes))
HasCatalogBytesFault bytes (End index) = HasWholeData bytes × (index < count_in bytes) × IsFirst (HasBadEnd bytes) index
HasCatalogBytesFault bytes (Order index) = HasGoodEnds bytes × (index < count_in bytes) × IsFirst (IsLowKey (key_in bytes)) index

-- the entry at a place is the first whose key isn't above the key before it
abbrev pub IsFirstLow : List Entry → ℕ → Type 0
IsFirstLow entries index = (index < length entries) × IsFirst (IsLowKey (λ k. slice_index_or (entry_keys_of entries) k [])) index

-- ---- the texts that the errors print

-- why bytes aren't a catalogue
abbrev pub catalog_error_text : CatalogError → List ℕ
catalog_error_text errors.Header = codes "catalogue header too short"
catalog_error_text errors.Length = codes "catalogue of another length"
catalog_error_text (errors.End place) = codes "bad end in entry " ++ decimal place
catalog_error_text (errors.Order place) = codes "entry " ++ decimal place ++ codes " out of order"

-- why entries can't be packed
abbrev pub pack_catalog_error_text : PackCatalogError → List ℕ
pack_catalog_error_text packing.TooMany = codes "too many entries"
pack_catalog_error_text (packing.Order place) = codes "entry " ++ decimal place ++ codes " out of order"
pack_catalog_error_text packing.TooLong = codes "catalogue too long"
pack_catalog_error_text packing.Memory = codes "out of memory"
