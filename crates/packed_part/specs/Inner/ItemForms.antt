-- Whether an item is that of the part that it holds. Not a definition of the subject.
use Rattle.std.specs.Prelude.{◌≡◌, ◌≤◌, ℕ, List, [], ◌∷◌, ◌++◌, drop, length}
use Rattle.packed_part.specs.PackedParts.{own_bytes, piece_tag}
use Rattle.packed_part.specs.Inner.PartReading.{piece_in_form, place_room}

-- the bytes are those of the piece that they are read as, and the form is that of the piece
abbrev pub IsOwnForm : ℕ → List ℕ → Type 0
IsOwnForm tag own = (tag ≡ piece_tag (piece_in_form tag own)) × (own ≡ own_bytes (piece_in_form tag own))

-- behind the first byte is a name of so many bytes
abbrev pub IsBeginForm : List ℕ → Type 0
IsBeginForm [] = ⊥
IsBeginForm (count ∷ rest) = count ≤ length rest

-- so are the bytes behind those of the places, which are these
abbrev pub IsForm : ℕ → List ℕ → List ℕ → Type 0
IsForm tag content places =
    (tag ≡ piece_tag (piece_in_form tag (drop (place_room tag) content)))
    × (content ≡ places ++ own_bytes (piece_in_form tag (drop (place_room tag) content)))
