-- Not a definition of the subject: a reader of the bytes of packed elements, for views of checked
-- bytes, laws, private contracts.
use Rattle.std.specs.Prelude.{◌≡◌, ◌==◌, ℕ, ◌/◌, ◌%◌, List, [], ◌∷◌, map, take, drop, Bool, false, ◌&&◌, nat_le, if◌then◌else◌}
use Rattle.std.specs.Prelude.{nat_lt, IsTrue, Option, Some, None, unwrap_or, ⊤, ◌+◌, ◌++◌, length}
use Rattle.std.proofs.Props.{props}
use Rattle.std.specs.List.{AllByRecursion, AllByRecursion-prop}
use Rattle.std.specs.Option.{option_or}
use Rattle.std.specs.Str.{is_utf8}
use Rattle.packed_list.specs.ListBytes.{ListBytes, list_bytes}
use Rattle.packed_list.specs.Inner.ListReading.{items_in}
use Rattle.plural_base.specs.declared.category.PluralCategory.{PluralCategory}
use Rattle.plural_base.specs.declared.category.PluralCategory.TheVariants.{Zero, One, Two, Few, Many, Other}
use Rattle.icu_plurals.specs.declared.packed.error.ElementsBytesError.{ElementsBytesError}
use Rattle.icu_plurals.specs.declared.packed.error.ElementsBytesError.TheVariants as errors
use Rattle.icu_plurals.specs.Elements.{Elements}
use Rattle.icu_plurals.specs.ElementsFaults.{ElementsParts, IsShort, HasPadding, first_element_fault}
use Rattle.icu_plurals.specs.PackedElements.{PackedValue, PackedItem, PackedElements, IsPackedItem, CanPackItems, ElementsBytes}
use Rattle.icu_plurals.specs.PackedElements.{items_of, item_bytes}

-- the item that bytes hold
abbrev pub read_item : List ℕ → PackedItem
read_item [] = record { key = 0; value = record { metadata = 0; text = [] } }
read_item (byte ∷ text) = record { key = byte / 16; value = record { metadata = byte % 16; text = text } }

-- the packed elements that bytes hold, with their first byte and what follows it
abbrev pub read_behind : ℕ → List ℕ → PackedElements
read_behind first [] = record { default = record { metadata = first % 16; text = [] }; items = None }
read_behind first (len ∷ bytes) =
    if nat_lt first 128 then record { default = record { metadata = first % 16; text = len ∷ bytes }; items = None }
    else record {
      default = record { metadata = first % 16; text = take len bytes };
      items = Some (map read_item (items_in (drop len bytes)));
    }

-- the packed elements that bytes hold, if they are bytes of packed elements
unfoldable pub read_elements : List ℕ → PackedElements
read_elements [] = record { default = record { metadata = 0; text = [] }; items = None }
read_elements (first ∷ bytes) = read_behind first bytes

-- the bytes encode the packed elements that they hold
abbrev pub AreElements : List ℕ → Type 0
AreElements bytes = ElementsBytes (read_elements bytes) bytes

-- ---- a fact that bytes have in at most one way

CanPackItems-prop : (default : PackedValue) (items : Option (List PackedItem)) → IsProp (CanPackItems default items)
CanPackItems-prop default None = hlevel props
CanPackItems-prop default (Some items) = hlevel props

IsPackedItems-prop : (items : List PackedItem) → IsProp (AllByRecursion IsPackedItem items)
IsPackedItems-prop items = AllByRecursion-prop IsPackedItem (λ item. hlevel props) items

pub ElementsBytes-prop : (packed : PackedElements) (bytes : List ℕ) → IsProp (ElementsBytes packed bytes)
ElementsBytes-prop packed bytes = hlevel (props, IsPackedItems-prop (items_of packed), CanPackItems-prop packed.default packed.items)

-- ---- what is found on the way

-- there is no byte, or the text is cut short
abbrev pub HasPlaceFault : List ℕ → ElementsBytesError → Type 0
HasPlaceFault bytes errors.Empty = bytes ≡ []
HasPlaceFault bytes errors.Short = IsShort bytes
HasPlaceFault bytes fault = ⊥

-- an item has one of the seven keys, and a text that is UTF-8
abbrev pub is_item : List ℕ → Bool
is_item [] = false
is_item (byte ∷ text) = nat_le (byte / 16) 6 && is_utf8 text

-- what is left is a list without a bad item
abbrev pub AreGoodItems : List ℕ → Type 0
AreGoodItems rest = (items : List (List ℕ)) × ListBytes items rest × (first_element_fault 0 items ≡ None)

abbrev pub IsGoodRest : Option (List ℕ) → Type 0
IsGoodRest None = ⊤
IsGoodRest (Some rest) = AreGoodItems rest

abbrev pub AreGoodParts : ElementsParts → Type 0
AreGoodParts parts = (¬ (HasPadding parts.first)) × IsTrue (is_utf8 parts.text) × IsGoodRest parts.rest

-- ---- what parts show

-- the parts are those of packed elements
pub record AreShown (parts : ElementsParts) (packed : PackedElements) : Type 0 where
  pub default_value : record { metadata = parts.first % 16; text = parts.text } ≡ packed.default
  pub text : IsTrue (is_utf8 parts.text)
  pub list : ListBytes (map item_bytes (items_of packed)) (unwrap_or parts.rest [])
  pub fit : AllByRecursion IsPackedItem (items_of packed)

-- the key of a category's value; the value of other is the default
abbrev pub category_key : PluralCategory → Option ℕ
category_key Zero = Some 0
category_key One = Some 1
category_key Two = Some 2
category_key Few = Some 3
category_key Many = Some 4
category_key Other = None

-- ---- One walk over items

-- the value of a key, or else that of an item that has the key
abbrev pub first_value : ℕ → Option PackedValue → PackedItem → Option PackedValue
first_value key value item = if item.key == key then option_or value (Some item.value) else value

-- the values by key, and that of an item, unless its key has one
abbrev pub with_item : Elements PackedValue → PackedItem → Elements PackedValue
with_item e item = record {
  other = e.other;
  zero = first_value 0 e.zero item;
  one = first_value 1 e.one item;
  two = first_value 2 e.two item;
  few = first_value 3 e.few item;
  many = first_value 4 e.many item;
  explicit_zero = first_value 5 e.explicit_zero item;
  explicit_one = first_value 6 e.explicit_one item;
}

-- ---- The bytes of a default and of items

-- what is before the default's text: its metadata alone, or bit 7 with the metadata and the length
-- of the text
abbrev pub head_with : PackedValue → List (List ℕ) → List ℕ
head_with default [] = default.metadata ∷ []
head_with default (item ∷ items) = (128 + default.metadata) ∷ length default.text ∷ []

-- the bytes of a default and the byte items after it
abbrev pub bytes_with_items : PackedValue → List (List ℕ) → List ℕ
bytes_with_items default items = head_with default items ++ (default.text ++ list_bytes items)
