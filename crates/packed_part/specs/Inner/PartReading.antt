-- The part that an item holds, for the view of a block and what reads items. Not a definition of the
-- subject.
use Rattle.std.specs.Prelude.{◌≡◌, ℕ, ◌*◌, ◌==◌, List, [], ◌∷◌, map, take, drop, Bool, true, false, IsTrue, Option, Some, None, if◌then◌else◌}
use Rattle.std.specs.List.{list_all}
use Rattle.packed_list.specs.Inner.ListReading.{items_in, numbers}
use Rattle.message_pattern.specs.declared.part.ArgumentKind.{ArgumentKind}
use Rattle.message_pattern.specs.declared.part.ArgumentKind.TheVariants.{Plural, Ordinal, Select}
use Rattle.message_pattern.specs.PatternParts.{Part, PatternPiece, Exactly, Keyword, Text, Hash, Argument, Begin, Branch, End}
use Rattle.packed_part.specs.PartOrder.{before_all, first_misplaced}
use Rattle.packed_part.specs.PackedParts.{part_items_of, is_packable}

-- the kind that a number names
abbrev pub kind_in : ℕ → ArgumentKind
kind_in tag = if tag == 3 then Plural else if tag == 4 then Ordinal else Select

-- no digits are no offset
abbrev pub offset_in : List ℕ → Option (List ℕ)
offset_in [] = None
offset_in (digit ∷ digits) = Some (digit ∷ digits)

-- the name, as long as the first byte says, and the offset
abbrev pub begin_in : ArgumentKind → List ℕ → PatternPiece
begin_in kind [] = End
begin_in kind (count ∷ s) = Begin kind (take count s) (offset_in (drop count s))

-- how many places a form has
abbrev pub place_count : ℕ → ℕ
place_count tag =
    if tag == 3 then 8
    else if tag == 4 then 8
    else if tag == 5 then 2
    else if tag == 6 then 1
    else if tag == 7 then 2
    else 0

-- how many bytes they take
abbrev pub place_room : ℕ → ℕ
place_room tag = 2 * place_count tag

-- the piece of a form in what it has of its own
abbrev pub piece_in_form : ℕ → List ℕ → PatternPiece
piece_in_form tag own =
    if tag == 0 then Text own
    else if tag == 1 then Hash
    else if tag == 2 then Argument own
    else if tag == 6 then Branch (Keyword own)
    else if tag == 7 then Branch (Exactly own)
    else if tag == 8 then End
    else begin_in (kind_in tag) own

-- the part that an item holds, if it is one
abbrev pub part_in : List ℕ → Part
part_in (tag ∷ depth ∷ content) = record { depth = depth; piece = piece_in_form tag (drop (place_room tag) content) }
part_in _ = record { depth = 0; piece = End }

-- a plural or an ordinal begins
abbrev pub is_plural : PatternPiece → Bool
is_plural (Begin Plural name offset) = true
is_plural (Begin Ordinal name offset) = true
is_plural _ = false

-- the parts that bytes hold, if they are a block
abbrev pub parts_in : List ℕ → List Part
parts_in bytes = map part_in (items_in bytes)

-- the bytes of the places that an item has
abbrev pub places_in : List ℕ → List ℕ
places_in (tag ∷ depth ∷ content) = take (place_room tag) content
places_in _ = []

-- the places that an item has
abbrev pub item_places : List ℕ → List ℕ
item_places (tag ∷ depth ∷ content) = numbers (place_count tag) content
item_places _ = []

-- the items are those of the parts that they hold
pub record AreBlockItems (items : List (List ℕ)) : Type 0 where
  pub packable : IsTrue (list_all is_packable (map part_in items))
  pub nested : first_misplaced 0 before_all (map part_in items) ≡ None
  pub packed : part_items_of (map part_in items) ≡ items
