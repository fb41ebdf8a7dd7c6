-- The definitions at worked examples.
use Rattle.std.proofs.Common.{◌≡◌, ℕ, List, [], ◌∷◌, refl, Some, None, codes}
use Rattle.packed_list.specs.Inner.ListReading.{items_in}
use Rattle.icu_plurals.specs.declared.packed.error.ElementsBytesError.TheVariants as errors
use Rattle.icu_plurals.specs.Elements.{Elements, only_other}
use Rattle.icu_plurals.specs.PackedElements.{PackedValue, PackedItem, PackedElements, elements_bytes, elements_of, packed_of}
use Rattle.icu_plurals.specs.ElementsFaults.{first_element_fault}
use Rattle.icu_plurals.specs.Inner.ElementsReading.{read_elements}

-- a text without metadata
abbrev plain : List ℕ → PackedValue
plain text = record { metadata = 0; text = text }

abbrev item : ℕ → List ℕ → PackedItem
item key text = record { key = key; value = plain text }

-- ---- only "abc"

abbrev abc : PackedElements
abc = record { default = plain (codes "abc"); items = None }

-- metadata 0, then the three letters
abc_bytes : elements_bytes abc ≡ 0 ∷ 97 ∷ 98 ∷ 99 ∷ []
abc_bytes = refl

-- these bytes are read as only the default
abc_read : read_elements (0 ∷ 97 ∷ 98 ∷ 99 ∷ []) ≡ abc
unfolding read_elements
abc_read = refl

-- and only other's value is packed as this default
abc_packed : packed_of (only_other (plain (codes "abc"))) ≡ abc
abc_packed = refl

-- ---- other "abc", one "defg"

abbrev abc_defg : PackedElements
abc_defg = record { default = plain (codes "abc"); items = Some (item 1 (codes "defg") ∷ []) }

-- bit 7, the length 3, the letters, then a list of one item: its count, its key and its text
abc_defg_bytes : elements_bytes abc_defg ≡ 128 ∷ 3 ∷ 97 ∷ 98 ∷ 99 ∷ 1 ∷ 0 ∷ 16 ∷ 100 ∷ 101 ∷ 102 ∷ 103 ∷ []
abc_defg_bytes = refl

-- these bytes are read as the default and the item
abc_defg_read : read_elements (128 ∷ 3 ∷ 97 ∷ 98 ∷ 99 ∷ 1 ∷ 0 ∷ 16 ∷ 100 ∷ 101 ∷ 102 ∷ 103 ∷ []) ≡ abc_defg
unfolding read_elements items_in
abc_defg_read = refl

-- ---- other "items", one "item", explicit one "items"

abbrev items : Elements PackedValue
items = record (only_other (plain (codes "items"))) { one = Some (plain (codes "item")); explicit_one = Some (plain (codes "items")) }

-- an explicit value that equals other's is still packed
items_bytes : elements_bytes
    (packed_of items) ≡ 128 ∷ 5 ∷ 105 ∷ 116 ∷ 101 ∷ 109 ∷ 115 ∷ 2 ∷ 0 ∷ 5 ∷ 0 ∷ 16 ∷ 105 ∷ 116 ∷ 101 ∷ 109 ∷ 96 ∷ 105 ∷ 116 ∷ 101
    ∷ 109 ∷ 115 ∷ []
items_bytes = refl

-- the values are found by their keys
items_again : elements_of (packed_of items) ≡ items
items_again = refl

-- a category's value that equals other's isn't packed, unless its metadata differs
equal_bytes : elements_bytes (packed_of (record (only_other (plain (codes "a"))) { one = Some (plain (codes "a")) })) ≡ 0 ∷ 97 ∷ []
equal_bytes = refl

-- metadata 3 with the same text makes an item
metadata_bytes : elements_bytes
    (packed_of (record (only_other (plain (codes "a"))) { one = Some (record { metadata = 3; text = codes "a" }) })) ≡ 128 ∷ 1
    ∷ 97 ∷ 1 ∷ 0 ∷ 19 ∷ 97 ∷ []
metadata_bytes = refl

-- ---- one twice

abbrev one_twice : PackedElements
one_twice = record { default = plain (codes "a"); items = Some (item 1 (codes "b") ∷ item 1 (codes "c") ∷ []) }

-- bytes may have two items of one key
one_twice_read : read_elements (128 ∷ 1 ∷ 97 ∷ 2 ∷ 0 ∷ 2 ∷ 0 ∷ 16 ∷ 98 ∷ 16 ∷ 99 ∷ []) ≡ one_twice
unfolding read_elements items_in
one_twice_read = refl

-- the first of them gives the value
one_twice_values : elements_of one_twice ≡ record (only_other (plain (codes "a"))) { one = Some (plain (codes "b")) }
one_twice_values = refl

-- and only it is packed again
one_twice_again : elements_bytes (packed_of (elements_of one_twice)) ≡ 128 ∷ 1 ∷ 97 ∷ 1 ∷ 0 ∷ 16 ∷ 98 ∷ []
one_twice_again = refl

-- ---- no items, and a list without items

-- a single 0 is an empty default without a list
nothing_read : read_elements (0 ∷ []) ≡ record { default = plain []; items = None }
unfolding read_elements
nothing_read = refl

-- bit 7 and the length 0 are an empty default and an empty list
no_items_read : read_elements (128 ∷ 0 ∷ []) ≡ record { default = plain []; items = Some [] }
unfolding read_elements items_in
no_items_read = refl

-- ---- refusals

-- an item needs its first byte
empty_item : first_element_fault 0 ([] ∷ []) ≡ Some (errors.ItemEmpty 0)
empty_item = refl

-- a key above the last one is reported before a text that isn't UTF-8
seventh_key : first_element_fault 0 ((112 ∷ 255 ∷ []) ∷ []) ≡ Some (errors.Key 0)
seventh_key = refl
