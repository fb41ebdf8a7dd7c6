-- The bytes that a part of a pattern is packed as.
use Rattle.std.specs.Prelude.{ℕ, List, [], ◌∷◌, ◌++◌, length, flat_map, Bool, true, false, ◌&&◌, nat_le, Option, Some, None}
use Rattle.packed_list.specs.ListBytes.{two_bytes}
use Rattle.message_pattern.specs.declared.part.ArgumentKind.{ArgumentKind}
use Rattle.message_pattern.specs.declared.part.ArgumentKind.TheVariants.{Plural, Ordinal, Select}
use Rattle.message_pattern.specs.PatternParts.{Part, PatternPiece, Selector, Exactly, Keyword, Text, Hash, Argument, Begin, Branch, End}
use Rattle.packed_part.specs.PartPlaces.{piece_places}

-- the number of an argument's kind
abbrev pub kind_tag : ArgumentKind → ℕ
kind_tag Plural = 3
kind_tag Ordinal = 4
kind_tag Select = 5

-- the number of a piece's form
abbrev pub piece_tag : PatternPiece → ℕ
piece_tag (Text text) = 0
piece_tag Hash = 1
piece_tag (Argument name) = 2
piece_tag (Begin kind name offset) = kind_tag kind
piece_tag (Branch (Keyword word)) = 6
piece_tag (Branch (Exactly number)) = 7
piece_tag End = 8

-- the digits of an offset, if there is one
abbrev pub offset_digits : Option (List ℕ) → List ℕ
offset_digits None = []
offset_digits (Some digits) = digits

-- the keyword or the number of a selector
abbrev pub selector_bytes : Selector → List ℕ
selector_bytes (Exactly number) = number
selector_bytes (Keyword word) = word

-- what a piece has of its own
abbrev pub own_bytes : PatternPiece → List ℕ
own_bytes (Text text) = text
own_bytes Hash = []
own_bytes (Argument name) = name
own_bytes (Begin kind name offset) = length name ∷ (name ++ offset_digits offset)
own_bytes (Branch selector) = selector_bytes selector
own_bytes End = []

-- the places that a part has, which these parts follow
abbrev pub place_bytes : Part → List Part → List ℕ
place_bytes p rest = flat_map two_bytes (piece_places p.depth p.piece rest)

-- a part: its form, its depth, the bytes of its places, and what it has of its own
abbrev pub part_item_bytes : Part → List ℕ → List ℕ
part_item_bytes p places = piece_tag p.piece ∷ p.depth ∷ (places ++ own_bytes p.piece)

-- the items that parts are packed as
abbrev pub part_items_of : List Part → List (List ℕ)
part_items_of [] = []
part_items_of (p ∷ ps) = part_item_bytes p (place_bytes p ps) ∷ part_items_of ps

-- ---- limits

-- an offset has digits
abbrev pub has_digits : Option (List ℕ) → Bool
has_digits None = true
has_digits (Some []) = false
has_digits (Some (digit ∷ digits)) = true

-- the length of a name fits its byte
abbrev pub is_packable_piece : PatternPiece → Bool
is_packable_piece (Begin kind name offset) = nat_le (length name) 255 && has_digits offset
is_packable_piece _ = true

-- a part that can be packed: it is at most 32 branches deep
abbrev pub is_packable : Part → Bool
is_packable p = nat_le p.depth 32 && is_packable_piece p.piece
