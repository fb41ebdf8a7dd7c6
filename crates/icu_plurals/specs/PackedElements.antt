-- Packed elements: a default, and either nothing else or a list of items after it. A value is four
-- bits of metadata and a text.
--     PackedElements      the default and its items
--     ElementsBytes packed bytes      the bytes encode packed elements
--     elements_of packed      the values by key: if a key occurs twice, that of its first item
--     packed_of elements      what elements are packed as
use Rattle.std.specs.Prelude.{◌≡◌, ℕ, ◌+◌, ◌*◌, ◌<◌, ◌≤◌, ◌==◌, ◌&&◌, List, [], ◌∷◌, ◌++◌, length, map, Bool, IsTrue, Option, Some}
use Rattle.std.specs.Prelude.{None, option_map, unwrap_or, ⊤, nat_lt, if◌then◌else◌}
use Rattle.std.specs.List.{AllByRecursion, find}
use Rattle.std.specs.Str.{is_utf8, bytes_eq}
use Rattle.packed_list.specs.ListBytes.{CanPack, list_bytes, has_high_start}
use Rattle.icu_plurals.specs.Elements.{Elements, unless_equal, element_at}
use Rattle.std.specs.Borrow.{Bor}
use Rattle.plural_operands.specs.Operands.{Operands}
use Rattle.plural_base.specs.FiveRules.{FiveRules}
use Rattle.plural_base.specs.declared.elements_pack_error.ElementsPackError.{ElementsPackError}
use Rattle.plural_base.specs.declared.elements_pack_error.ElementsPackError.TheVariants.{DefaultLimit, StartLimit}

-- metadata, and the bytes of a text
pub record PackedValue : Type 0 where
  pub metadata : ℕ
  pub text : List ℕ

-- a value after the default, and its key: 0 zero, 1 one, 2 two, 3 few, 4 many, 5 exactly 0, 6
-- exactly 1
pub record PackedItem : Type 0 where
  pub key : ℕ
  pub value : PackedValue

-- the default, and the items after it. No items and a list without items differ.
pub record PackedElements : Type 0 where
  pub default : PackedValue
  pub items : Option (List PackedItem)

-- ---- The bytes

-- metadata has four bits, and the text is UTF-8
pub record IsPackedValue (value : PackedValue) : Type 0 where
  pub metadata : value.metadata < 16
  pub text : IsTrue (is_utf8 value.text)

-- the key is one of the seven, and the value is one
pub record IsPackedItem (item : PackedItem) : Type 0 where
  pub key : item.key ≤ 6
  pub value : IsPackedValue item.value

-- the key in bits 4 to 7 of a byte, the metadata in bits 0 to 3, and the text
abbrev pub item_bytes : PackedItem → List ℕ
item_bytes item = (16 * item.key + item.value.metadata) ∷ item.value.text

-- before items the default's length fits a byte, and the items fit a packed list
pub record CanStandBeside (default : PackedValue) (items : List PackedItem) : Type 0 where
  pub length : length default.text ≤ 255
  pub list : CanPack (map item_bytes items)

abbrev pub CanPackItems : PackedValue → Option (List PackedItem) → Type 0
CanPackItems default None = ⊤
CanPackItems default (Some items) = CanStandBeside default items

-- the items, if any
abbrev pub items_of : PackedElements → List PackedItem
items_of packed = unwrap_or packed.items []

-- without items the default's metadata and text; else bit 7 with the metadata, the length of the
-- text, the text, and the packed list of the items
abbrev pub bytes_with : PackedValue → Option (List PackedItem) → List ℕ
bytes_with default None = default.metadata ∷ default.text
bytes_with default (Some items) = (128 + default.metadata) ∷ length default.text ∷ (default.text ++ list_bytes (map item_bytes items))

abbrev pub elements_bytes : PackedElements → List ℕ
elements_bytes packed = bytes_with packed.default packed.items

-- the bytes encode the packed elements
pub record ElementsBytes (packed : PackedElements) (bytes : List ℕ) : Type 0 where
  pub default : IsPackedValue packed.default
  pub items : AllByRecursion IsPackedItem (items_of packed)
  pub can_pack : CanPackItems packed.default packed.items
  pub spelled : bytes ≡ elements_bytes packed

-- ---- the values by key

-- the value of a key: that of the first item that has it
abbrev pub value_of_key : ℕ → List PackedItem → Option PackedValue
value_of_key key items = option_map (λ item. item.value) (find (λ item. item.key == key) items)

abbrev pub elements_of : PackedElements → Elements PackedValue
elements_of packed = record {
  other = packed.default;
  zero = value_of_key 0 (items_of packed);
  one = value_of_key 1 (items_of packed);
  two = value_of_key 2 (items_of packed);
  few = value_of_key 3 (items_of packed);
  many = value_of_key 4 (items_of packed);
  explicit_zero = value_of_key 5 (items_of packed);
  explicit_one = value_of_key 6 (items_of packed);
}

-- ---- What elements are packed as

-- whether metadata and text are the same
abbrev pub is_same_value : PackedValue → PackedValue → Bool
is_same_value value other = (value.metadata == other.metadata) && bytes_eq value.text other.text

-- the item of a key, if its value is present
abbrev pub item_at : ℕ → Option PackedValue → List PackedItem
item_at key None = []
item_at key (Some value) = record { key = key; value = value } ∷ []

-- the item of a category's key, if its value is present and differs from that of other
abbrev pub category_item : ℕ → PackedValue → Option PackedValue → List PackedItem
category_item key other value = item_at key (unless_equal is_same_value other value)

-- in the order of the keys, the category values that differ from that of other, and the explicit
-- values
abbrev pub packed_items : Elements PackedValue → List PackedItem
packed_items e =
    category_item 0 e.other e.zero
    ++ (category_item 1 e.other e.one
    ++ (category_item 2 e.other e.two
    ++ (category_item 3 e.other e.few
    ++ (category_item 4 e.other e.many
    ++ (item_at 5 e.explicit_zero
    ++ item_at 6 e.explicit_one)))))

-- none if there are no items
abbrev pub none_if_empty : List PackedItem → Option (List PackedItem)
none_if_empty [] = None
none_if_empty (item ∷ items) = Some (item ∷ items)

abbrev pub packed_of : Elements PackedValue → PackedElements
packed_of e = record { default = e.other; items = none_if_empty (packed_items e) }

-- ---- Elements of texts alone

-- a borrowed text, with metadata 0
abbrev pub plain_value : Bor (List ℕ) → PackedValue
plain_value text = record { metadata = 0; text = text.now }

-- ---- Which elements can't be packed, and what packing preserves (docs/FORMATS.md).
--     pack_fault packed      why packed elements have no bytes
--     AnswersAs values bytes      every number gets the same value from the bytes as from the
--         elements, under all rules
--     without_repeats values      the elements without the category values that equal that of other

-- items can't be packed after a default: its text has more than 255 bytes, or else an item starts
-- after place 65535
abbrev pub fault_beside : PackedValue → Option (List PackedItem) → Option ElementsPackError
fault_beside default None = None
fault_beside default (Some items) =
    if nat_lt 255 (length default.text) then Some DefaultLimit else (if has_high_start (map item_bytes items) then Some StartLimit else None)

abbrev pub pack_fault : PackedElements → Option ElementsPackError
pack_fault packed = fault_beside packed.default packed.items

-- the bytes encode packed elements, and what they encode gives all operands, under all rules, the
-- same value as the elements
abbrev pub AnswersAs : Elements PackedValue → List ℕ → Type 0
AnswersAs values bytes =
    ((packed : PackedElements) × ElementsBytes packed bytes) × ((packed : PackedElements) → ElementsBytes packed bytes
    → (op : Operands) (rules : FiveRules) → element_at (elements_of packed) op rules ≡ element_at values op rules)

-- the values, without the category values that equal the value of other
abbrev pub without_repeats : Elements PackedValue → Elements PackedValue
without_repeats e = record {
  other = e.other;
  zero = unless_equal is_same_value e.other e.zero;
  one = unless_equal is_same_value e.other e.one;
  two = unless_equal is_same_value e.other e.two;
  few = unless_equal is_same_value e.other e.few;
  many = unless_equal is_same_value e.other e.many;
  explicit_zero = e.explicit_zero;
  explicit_one = e.explicit_one;
}
