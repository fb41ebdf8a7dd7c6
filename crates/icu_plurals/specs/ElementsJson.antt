-- What a JSON value means as packed elements, or why it is refused, and the one JSON value that is
-- written for elements (docs/JSON.md). Values are what serde_json's accessors show of them.
use Rattle.std.specs.Prelude.{ℕ, List, codes, Option, Some, None, is_some, option_map, Ok, Err, nat_lt, if◌then◌else◌}
use Rattle.std.specs.Option.{option_and_then}
use Rattle.serde_json.specs.Data.{Data, number, unsigned, string, array, item, no_items, object, Members, no_members, put}
use Rattle.serde_json.specs.Find.{at, get, as_null, as_number, as_str, as_u64}
use Rattle.plural_base.specs.declared.elements_pack_error.ElementsPackError.{ElementsPackError}
use Rattle.plural_base.specs.declared.json.error.JsonError.TheVariants.{Shape, Pack}
use Rattle.plural_base.specs.Json.{Stands, unless_float}
use Rattle.icu_plurals.specs.Elements.{Elements}
use Rattle.icu_plurals.specs.PackedElements.{pack_fault, PackedValue, PackedElements, packed_of}

-- ---- Reading

abbrev pub below_16 : ℕ → Option ℕ
below_16 n = if nat_lt n 16 then Some n else None

-- metadata is a whole number from 0 to 15
abbrev pub metadata_in : Data → Option ℕ
metadata_in value = option_and_then below_16 (option_and_then as_u64 (as_number value))

abbrev pub pair_of : Option ℕ → Option (List ℕ) → Option PackedValue
pair_of (Some metadata) (Some text) = Some (record { metadata = metadata; text = text })
pair_of _ _ = None

-- a value is a list of two: metadata and a text
abbrev pub packed_value_in : Data → Option PackedValue
packed_value_in value =
    if is_some (at 2 value) then None else pair_of (option_and_then metadata_in (at 0 value)) (option_and_then as_str (at 1 value))

-- a value that may be absent or null
abbrev pub optional_in : Option Data → Option (Option PackedValue)
optional_in None = Some None
optional_in (Some value) = if is_some (as_null value) then Some None else option_map Some (packed_value_in value)

-- eight values, if all are of their form
abbrev pub all_eight : Option PackedValue → Option (Option PackedValue) → Option (Option PackedValue) → Option (Option PackedValue)
    → Option (Option PackedValue)
    → Option (Option PackedValue) → Option (Option PackedValue) → Option (Option PackedValue) → Option (Elements PackedValue)
all_eight (Some other) (Some zero) (Some one) (Some two) (Some few) (Some many) (Some explicit_zero) (Some explicit_one) =
    Some (record {
      other = other;
      zero = zero;
      one = one;
      two = two;
      few = few;
      many = many;
      explicit_zero = explicit_zero;
      explicit_one = explicit_one;
    })
all_eight _ _ _ _ _ _ _ _ = None

-- elements are an object with the value of other under its key, and the seven others under theirs;
-- its other keys aren't read
abbrev pub elements_in_json : Data → Option (Elements PackedValue)
elements_in_json value =
    all_eight (option_and_then packed_value_in (get (codes "other") value)) (optional_in (get (codes "zero") value))
    (optional_in (get (codes "one") value))
    (optional_in (get (codes "two") value)) (optional_in (get (codes "few") value)) (optional_in (get (codes "many") value))
    (optional_in (get (codes "explicit_zero") value)) (optional_in (get (codes "explicit_one") value))

abbrev pub unless_fault : PackedElements → Option ElementsPackError → Stands PackedElements
unless_fault packed None = Ok packed
unless_fault packed (Some fault) = Err (Pack fault)

-- elements are packed, if they can be
abbrev pub packs : Elements PackedValue → Stands PackedElements
packs values = unless_fault (packed_of values) (pack_fault (packed_of values))

abbrev pub packed_shape : Option (Elements PackedValue) → Stands PackedElements
packed_shape None = Err Shape
packed_shape (Some values) = packs values

-- the packed elements of a value: a part of another form is refused before elements that can't be
-- packed
abbrev pub packed_of_json : Data → Stands PackedElements
packed_of_json = unless_float (λ value. packed_shape (elements_in_json value))

-- ---- Writing

-- a value is its metadata and its text
abbrev pub value_json : PackedValue → Data
value_json value = array (item (number (unsigned value.metadata)) (item (string value.text) no_items))

-- a value that is present is under its key
abbrev pub with_value : List ℕ → Option PackedValue → Members → Members
with_value key None members = members
with_value key (Some value) members = put key (value_json value) members

-- elements are an object with the keys of the values that are present, and no others
abbrev pub elements_json : Elements PackedValue → Data
elements_json e = object (
    with_value (codes "explicit_one") e.explicit_one (with_value (codes "explicit_zero") e.explicit_zero
    (with_value (codes "many") e.many (with_value (codes "few") e.few (with_value (codes "two") e.two (with_value (codes "one") e.one
    (with_value (codes "zero") e.zero (put (codes "other") (value_json e.other) no_members))))))))
