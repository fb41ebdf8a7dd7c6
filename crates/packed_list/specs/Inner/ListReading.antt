-- A reader of list bytes, for the view of a list, for bytes that are known to be one, and for laws.
-- Not a definition of the subject.
use Rattle.std.specs.Prelude.{ℕ, suc, ◌+◌, ◌-◌, ◌*◌, ◌<◌, ◌≤◌, List, [], ◌∷◌, length, drop, slice_index, slice_range}
use Rattle.packed_list.specs.ListBytes.{ListBytes, two_byte_number, start_at}

-- each number of a list is a byte
abbrev pub AreBytes : List ℕ → Type 0
AreBytes bytes = (i : ℕ) → slice_index bytes i < 256

-- the numbers in the first n pairs of bytes
abbrev pub numbers : ℕ → List ℕ → List ℕ
numbers (suc n) (low ∷ high ∷ bytes) = (low + 256 * high) ∷ numbers n bytes
numbers _ _ = []

-- the data cut at the given places, from a place on to its end
abbrev pub pieces_from : ℕ → List ℕ → List ℕ → List (List ℕ)
pieces_from from [] bytes = drop from bytes ∷ []
pieces_from from (to ∷ places) bytes = slice_range bytes from to ∷ pieces_from to places bytes

-- the items that bytes hold, if they encode a list
unfoldable pub items_in : List ℕ → List (List ℕ)
items_in [] = []
items_in (byte ∷ bytes) =
    let all = byte ∷ bytes in
    let count = two_byte_number all 0 in
    pieces_from 0 (numbers (count - 1) (drop 2 all)) (drop (2 * count) all)

-- the bytes encode the items that they hold
abbrev pub IsList : List ℕ → Type 0
IsList bytes = ListBytes (items_in bytes) bytes

-- no start is bad
abbrev pub HasGoodStarts : List ℕ → Type 0
HasGoodStarts bytes = (k : ℕ) → k + 1 < two_byte_number bytes 0
    → (start_at bytes k ≤ start_at bytes (k + 1)) × (2 * two_byte_number bytes 0 + start_at bytes (k + 1) ≤ length bytes)
