-- The bytes of a pattern: a packed list whose items are its parts.
use Rattle.std.specs.Prelude.{◌≡◌, ℕ, ◌+◌, List, [], ◌∷◌, ◌++◌, map, Bool, ◌&&◌, not, bytes_eq, IsTrue, Option, Some, None, if◌then◌else◌, codes}
use Rattle.std.specs.Fmt.{decimal}
use Rattle.std.specs.List.{list_all}
use Rattle.packed_list.specs.ListBytes.{ListBytes, HasFault, list_error_text}
use Rattle.message_pattern.specs.PatternAnswers.{IsPattern}
use Rattle.message_pattern.specs.PatternParts.{Part}
use Rattle.packed_pattern.specs.declared.error.BlockError.{BlockError}
use Rattle.packed_pattern.specs.declared.error.BlockError.TheVariants as errors
use Rattle.packed_pattern.specs.declared.error.PackPatternError.{PackPatternError}
use Rattle.packed_pattern.specs.declared.error.PackPatternError.TheVariants as packing
use Rattle.packed_part.specs.PartOrder.{before_all, first_misplaced}
use Rattle.packed_part.specs.PackedParts.{part_item_bytes, part_items_of, place_bytes, is_packable}
use Rattle.packed_part.specs.Inner.PartReading.{part_in, parts_in, places_in}

-- the bytes encode the parts
pub record PatternBlock (parts : List Part) (bytes : List ℕ) : Type 0 where
  pub packable : IsTrue (list_all is_packable parts)
  pub nested : first_misplaced 0 before_all parts ≡ None
  pub packed : ListBytes (part_items_of parts) bytes

-- the bytes encode the parts that they hold
abbrev pub IsPatternBlock : List ℕ → Type 0
IsPatternBlock bytes = PatternBlock (parts_in bytes) bytes

-- ---- What is wrong with the items of a packed list that is no pattern.

-- the item is that of the part that it holds, with these places
abbrev pub is_item_with : List ℕ → List ℕ → Bool
is_item_with item places = bytes_eq item (part_item_bytes (part_in item) places)

-- the item is one of a part, whatever its places
abbrev pub is_part_item : List ℕ → Bool
is_part_item item = is_packable (part_in item) && is_item_with item (places_in item)

-- it has its places before these items
abbrev pub has_places_before : List ℕ → List (List ℕ) → Bool
has_places_before item items = is_item_with item (place_bytes (part_in item) (map part_in items))

-- the fault of the item at a place, before these items
abbrev pub item_fault : ℕ → List ℕ → List (List ℕ) → Option BlockError
item_fault place item items =
    if not (is_part_item item) then Some (errors.Part place)
    else if not (has_places_before item items) then Some (errors.Place place)
    else None

-- a fault, or else that of what follows
abbrev pub or_block_fault : Option BlockError → Option BlockError → Option BlockError
or_block_fault None other = other
or_block_fault (Some fault) other = Some fault

-- the fault of the first bad item, if there is one; the first item is at the given place
abbrev pub first_item_fault : ℕ → List (List ℕ) → Option BlockError
first_item_fault place [] = None
first_item_fault place (item ∷ items) = or_block_fault (item_fault place item items) (first_item_fault (place + 1) items)

-- a part that may not stand where it does
abbrev pub order_fault : Option ℕ → Option BlockError
order_fault None = None
order_fault (Some place) = Some (errors.Order place)

-- the fault of items: that of the first bad one, or else of their order
abbrev pub items_fault : List (List ℕ) → Option BlockError
items_fault items = or_block_fault (first_item_fault 0 items) (order_fault (first_misplaced 0 before_all (map part_in items)))

-- bytes are refused with a fault: they aren't a packed list, or it is that of the items
abbrev pub HasBlockFault : List ℕ → BlockError → Type 0
HasBlockFault bytes (errors.List fault) = HasFault bytes fault
HasBlockFault bytes fault = (items : List (List ℕ)) × ListBytes items bytes × (items_fault items ≡ Some fault)

-- ---- What can't be packed.

-- the place of the first part that can't be packed, if there is one; the first part is at the given
-- place
abbrev pub first_unpackable : ℕ → List Part → Option ℕ
first_unpackable place [] = None
first_unpackable place (p ∷ ps) = if is_packable p then first_unpackable (place + 1) ps else Some place

-- ---- A law

-- the parts of a text stand in order
abbrev pub TextsAreInOrder : Type 0
TextsAreInOrder = (text : List ℕ) (parts : List Part) → IsPattern text parts → first_misplaced 0 before_all parts ≡ None

-- ---- The texts that the errors print

abbrev pub block_error_text : BlockError → List ℕ
block_error_text (errors.List fault) = list_error_text fault
block_error_text (errors.Part place) = codes "bad part " ++ decimal place
block_error_text (errors.Place place) = codes "bad place in part " ++ decimal place
block_error_text (errors.Order place) = codes "part " ++ decimal place ++ codes " out of order"

abbrev pub pack_pattern_error_text : PackPatternError → List ℕ
pack_pattern_error_text packing.CountLimit = codes "too many parts"
pack_pattern_error_text (packing.Part place) = codes "part " ++ decimal place ++ codes " can't be packed"
pack_pattern_error_text (packing.Order place) = codes "part " ++ decimal place ++ codes " out of order"
pack_pattern_error_text packing.StartLimit = codes "pattern too long"
pack_pattern_error_text packing.Memory = codes "out of memory"
