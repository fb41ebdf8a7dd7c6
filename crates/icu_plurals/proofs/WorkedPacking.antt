-- The definitions of packing, and of packed elements as JSON, at worked examples.
use Rattle.std.proofs.Common.{◌≡◌, ℕ, List, [], ◌∷◌, Some, None, refl, replicate}
use Rattle.std.specs.Prelude.{codes, Ok, Err}
use Rattle.serde_json.specs.Data.{Data, null, number, unsigned, string, array, item, no_items, object, member, no_members}
use Rattle.plural_base.specs.declared.elements_pack_error.ElementsPackError.TheVariants.{DefaultLimit, StartLimit}
use Rattle.plural_base.specs.declared.json.error.JsonError.TheVariants.{Shape}
use Rattle.icu_plurals.specs.Elements.{Elements, only_other}
use Rattle.icu_plurals.specs.ElementsJson.{elements_json, packed_of_json}
use Rattle.icu_plurals.specs.PackedElements.{pack_fault, without_repeats, PackedValue, elements_bytes, packed_of}

abbrev plain : List ℕ → PackedValue
plain text = record { metadata = 0; text = text }

-- other "items", one "item", explicit one "items"
abbrev items : Elements PackedValue
items = record (only_other (plain (codes "items"))) { one = Some (plain (codes "item")); explicit_one = Some (plain (codes "items")) }

-- the category's item comes before the explicit one, which is packed although it equals other's
items_bytes : elements_bytes
    (packed_of items) ≡ 128 ∷ 5 ∷ 105 ∷ 116 ∷ 101 ∷ 109 ∷ 115 ∷ 2 ∷ 0 ∷ 5 ∷ 0 ∷ 16 ∷ 105 ∷ 116 ∷ 101 ∷ 109 ∷ 96 ∷ 105 ∷ 116 ∷ 101
    ∷ 109 ∷ 115 ∷ []
items_bytes = refl

-- a value that equals other's is left out, but an explicit one isn't; values with different
-- metadata differ
equal_bytes : elements_bytes (packed_of (record (only_other (plain (codes "x"))) { two = Some (plain (codes "x")) })) ≡ 0 ∷ 120 ∷ []
equal_bytes = refl

-- metadata 1 with the same text makes an item
marked_bytes : elements_bytes
    (packed_of (record (only_other (plain (codes "x"))) { one = Some (record { metadata = 1; text = codes "x" }) })) ≡ 128 ∷ 1
    ∷ 120 ∷ 1 ∷ 0 ∷ 17 ∷ 120 ∷ []
marked_bytes = refl

-- a category's value that equals other's isn't a value of its own
equal_is_no_repeat : without_repeats (record items { two = Some (plain (codes "items")) }) ≡ items
equal_is_no_repeat = refl

-- 255 and 256 bytes as the default, without and with an item
most_beside : pack_fault (packed_of (record (only_other (plain (replicate 255 97))) { one = Some (plain (98 ∷ [])) })) ≡ None
most_beside = refl

-- 256 bytes are too many with an item
too_long_beside : pack_fault (packed_of (record (only_other (plain (replicate 256 97))) { one = Some (plain (98 ∷ [])) })) ≡ Some
    DefaultLimit
too_long_beside = refl

-- without an item they are not
long_alone : pack_fault (packed_of (only_other (plain (replicate 256 97)))) ≡ None
long_alone = refl

-- an item that starts at 65535, and one after it
last_start : pack_fault
    (packed_of (record (only_other (plain [])) { zero = Some (plain (replicate 65534 97)); one = Some (plain (98 ∷ [])) })) ≡ None
last_start = refl

-- 65536 is too high for a start
start_behind : pack_fault
    (packed_of (record (only_other (plain [])) { zero = Some (plain (replicate 65535 97)); one = Some (plain (98 ∷ [])) }))
    ≡ Some StartLimit
start_behind = refl

-- JSON
abbrev pair : ℕ → List ℕ → Data
pair metadata text = array (item (number (unsigned metadata)) (item (string text) no_items))

-- a null is read as an absent value
read_items : packed_of_json
    (object (member (codes "explicit_one") (pair 0 (codes "items"))
    (member (codes "one") (pair 0 (codes "item"))
    (member (codes "other") (pair 0 (codes "items")) (member (codes "two") null no_members))))) ≡ Ok (packed_of items)
read_items = refl

-- and absent values aren't written
written_items : elements_json items ≡ object
    (member (codes "explicit_one") (pair 0 (codes "items"))
    (member (codes "one") (pair 0 (codes "item")) (member (codes "other") (pair 0 (codes "items")) no_members)))
written_items = refl

-- 16 is no metadata
metadata_16 : packed_of_json (object (member (codes "other") (pair 16 (codes "x")) no_members)) ≡ Err Shape
metadata_16 = refl

-- other's value must be present
no_other : packed_of_json (object (member (codes "one") (pair 0 (codes "x")) no_members)) ≡ Err Shape
no_other = refl

-- a list of three is no value
list_of_three : packed_of_json
    (object (member (codes "other") (array (item (number (unsigned 0)) (item (string (codes "x")) (item null no_items))))
    no_members)) ≡ Err Shape
list_of_three = refl
