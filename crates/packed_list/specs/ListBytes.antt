-- The bytes of a list of byte items: the count, the starts of all items but the first, and the
-- items.
use Rattle.std.specs.Prelude.{◌≡◌, ℕ, ◌+◌, ◌/◌, ◌%◌, ◌≤◌, List, [], ◌∷◌, ◌++◌, length, drop, flat_map, map, Bool, nat_lt, IsFalse}
use Rattle.std.specs.Prelude.{◌⊎◌, zero, suc, ◌*◌, ◌<◌, slice_get, slice_index, unwrap_or, codes}
use Rattle.std.specs.List.{concat, list_any}
use Rattle.std.specs.Borrow.{Bor}
use Rattle.packed_list.specs.declared.error.ListError.{ListError}
use Rattle.packed_list.specs.declared.error.ListError.TheVariants.{Header, ZeroCount, Start}
use Rattle.packed_list.specs.declared.error.PackError.{PackError}
use Rattle.packed_list.specs.declared.error.PackError.TheVariants.{CountLimit, StartLimit, Memory}

-- the lists that are borrowed
abbrev pub lent : List (Bor (List ℕ)) → List (List ℕ)
lent items = map (λ (item : Bor (List ℕ)). item.now) items

-- a number as two bytes, low byte first
abbrev pub two_bytes : ℕ → List ℕ
two_bytes n = (n % 256) ∷ (n / 256) ∷ []

-- where each item starts in the data, if the first one starts at the given place
abbrev pub starts_from : ℕ → List (List ℕ) → List ℕ
starts_from place [] = []
starts_from place (item ∷ items) = place ∷ starts_from (place + length item) items

-- where each item starts in the data: the sum of the lengths before it
abbrev pub item_starts : List (List ℕ) → List ℕ
item_starts items = starts_from 0 items

-- no item is no byte; else the count, the starts of all items but the first, and the items without
-- gaps
abbrev pub list_bytes : List (List ℕ) → List ℕ
list_bytes [] = []
list_bytes (item ∷ items) = two_bytes (length (item ∷ items))
    ++ (flat_map two_bytes (drop 1 (item_starts (item ∷ items))) ++ concat (item ∷ items))

-- whether a start is above what two bytes hold
abbrev pub has_high_start : List (List ℕ) → Bool
has_high_start items = list_any (λ start. nat_lt 65535 start) (item_starts items)

-- the items can be packed: neither their count nor a start is above what two bytes hold
pub record CanPack (items : List (List ℕ)) : Type 0 where
  pub count : length items ≤ 65535
  pub starts : IsFalse (has_high_start items)

-- the bytes encode the items
pub record ListBytes (items : List (List ℕ)) (bytes : List ℕ) : Type 0 where
  pub can_pack : CanPack items
  pub spelled : bytes ≡ list_bytes items

-- what was there, and perhaps more behind it
abbrev pub StaysInFront : List ℕ → List ℕ → Type 0
StaysInFront old new = (more : List ℕ) × (new ≡ old ++ more)

-- an item of a list, and those after it
pub record ItemAndRest : Type 0 where
  pub item : List ℕ
  pub rest : List (List ℕ)

-- the item at a place, and those after it
abbrev pub item_and_rest : List (List ℕ) → ℕ → ItemAndRest
item_and_rest items k = record { item = unwrap_or (slice_get items k) []; rest = drop (k + 1) items }

-- ---- What is wrong with bytes that aren't a list, in the order in which it is looked for.

-- the number in the two bytes at a place, low byte first
abbrev pub two_byte_number : List ℕ → ℕ → ℕ
two_byte_number bytes place = slice_index bytes place + 256 * slice_index bytes (place + 1)

-- where item k starts in the data, as the bytes say
abbrev pub start_at : List ℕ → ℕ → ℕ
start_at bytes zero = 0
start_at bytes (suc k) = two_byte_number bytes (2 * suc k)

-- one byte, or a count of 2 or more and fewer bytes than the count and the starts take
abbrev pub HasShortHeader : List ℕ → Type 0
HasShortHeader bytes = (length bytes ≡ 1) ⊎ ((2 ≤ two_byte_number bytes 0) × (length bytes < 2 * two_byte_number bytes 0))

-- the count is present and is 0
abbrev pub HasZeroCount : List ℕ → Type 0
HasZeroCount bytes = (2 ≤ length bytes) × (two_byte_number bytes 0 ≡ 0)

-- the header is present, and some start is below the previous one or above the length of the data
pub record HasBadStart (bytes : List ℕ) : Type 0 where
  pub header : 2 * two_byte_number bytes 0 ≤ length bytes
  pub item : ℕ
  pub is_item : item + 1 < two_byte_number bytes 0
  pub is_bad : (start_at bytes (item + 1) < start_at bytes item) ⊎ (length bytes < 2 * two_byte_number bytes 0 + start_at bytes (item + 1))

-- bytes are refused with a fault
abbrev pub HasFault : List ℕ → ListError → Type 0
HasFault bytes Header = HasShortHeader bytes
HasFault bytes ZeroCount = HasZeroCount bytes
HasFault bytes Start = HasBadStart bytes

-- ---- The texts that the errors print

-- why bytes aren't a list
abbrev pub list_error_text : ListError → List ℕ
list_error_text Header = codes "list header too short"
list_error_text ZeroCount = codes "list without items"
list_error_text Start = codes "bad start of a list item"

-- why items can't be packed
abbrev pub pack_error_text : PackError → List ℕ
pack_error_text CountLimit = codes "too many list items"
pack_error_text StartLimit = codes "list too long"
pack_error_text Memory = codes "out of memory"
