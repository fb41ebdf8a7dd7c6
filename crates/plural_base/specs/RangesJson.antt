-- What a JSON value means as a range or as the categories of ranges, or why it is refused, and the
-- one JSON value that is written for them (docs/JSON.md). Values are what serde_json's accessors
-- show of them.
use Rattle.std.specs.Prelude.{◌≡◌, ℕ, List, [], ◌∷◌, codes, Option, option_map, Ok}
use Rattle.std.specs.Cmp.Lexicographic.{slice_cmp}
use Rattle.std.specs.List.Sorted.{IsStrictlySortedBy}
use Rattle.std.specs.Option.{option_and_then}
use Rattle.std.specs.Ordering.{nat_cmp}
use Rattle.plural_base.specs.declared.json.error.JsonError.TheVariants.{Shape, RangeKey, RangeValue}
use Rattle.plural_base.specs.declared.ranges.key.UnvalidatedPluralRange.{UnvalidatedPluralRange}
use Rattle.plural_base.specs.declared.ranges.PluralRanges.{PluralRanges}
use Rattle.plural_base.specs.declared.category.raw.RawPluralCategory.{RawPluralCategory}
use Rattle.plural_base.specs.Categories.{raw_name_of}
use Rattle.plural_base.specs.Ranges.{Range, range_key, range_named, range_text, raw_category_named, category_at, no_ranges, with_range}
use Rattle.plural_base.specs.Json.{Stands, ◌>>=◌, there_or, unless_float}
use Rattle.serde_json.specs.Data.{Data, string, object, Members, no_members, member}
use Rattle.serde_json.specs.Find.{get, get_member, as_str, as_object}

-- ---- Reading

-- a range is the text of one
abbrev pub key_meant : Data → Stands UnvalidatedPluralRange
key_meant value = do
  text ← there_or Shape (as_str value)
  range ← there_or RangeKey (range_named text)
  Ok (range_key range.0 range.1)

-- a range's category is its name
abbrev pub category_meant : Data → Stands RawPluralCategory
category_meant value = do
  text ← there_or Shape (as_str value)
  there_or RangeValue (raw_category_named text)

-- each member gives its range its category; the members are in the order of the keys' bytes, a key
-- is checked before its value
abbrev pub members_meant : PluralRanges → Members → Stands PluralRanges
members_meant ranges no_members = Ok ranges
members_meant ranges (member key value members) = do
  range ← there_or RangeKey (range_named key)
  category ← category_meant value
  members_meant (with_range ranges range.0 range.1 category) members

-- categories of ranges are an object with an object under `ranges`; its other keys aren't read
abbrev pub ranges_meant : Data → Stands PluralRanges
ranges_meant value = there_or Shape (option_and_then as_object (get (codes "ranges") value)) >>= members_meant no_ranges

-- the range of a value
abbrev pub key_of_json : Data → Stands UnvalidatedPluralRange
key_of_json = unless_float key_meant

-- the categories of ranges of a value
abbrev pub ranges_of_json : Data → Stands PluralRanges
ranges_of_json = unless_float ranges_meant

-- ---- Writing

-- a range is its text
abbrev pub key_json : RawPluralCategory → RawPluralCategory → Data
key_json start end = string (range_text start end)

-- a category is its name
abbrev pub name_json : RawPluralCategory → Data
name_json category = string (raw_name_of category)

-- the category of the pair whose text it is, if it is a pair's text and the pair has one
abbrev pub category_under : List ℕ → PluralRanges → Option RawPluralCategory
category_under text ranges = option_and_then (λ (range : Range). category_at ranges range.0 range.1) (range_named text)

abbrev pub keys_in : Members → List (List ℕ)
keys_in no_members = []
keys_in (member key value members) = key ∷ keys_in members

-- under a pair's text is its category, and there is no other key; no key occurs twice, and they are
-- in the order of their bytes
pub record AreMembersOf (ranges : PluralRanges) (members : Members) : Type 0 where
  pub under : (text : List ℕ) → get_member text members ≡ option_map name_json (category_under text ranges)
  pub ordered : IsStrictlySortedBy (slice_cmp nat_cmp) (keys_in members)

-- an object with `ranges` alone
abbrev pub object_under : Data → Data
object_under table = object (member (codes "ranges") table no_members)

-- with the members of the ranges in it
abbrev pub IsJsonOfRanges : Data → PluralRanges → Type 0
IsJsonOfRanges value ranges = (members : Members) × (value ≡ object_under (object members)) × AreMembersOf ranges members

-- What is written for ranges is read as the same ranges.
abbrev pub WrittenRangesAreReadAgain : Type 0
WrittenRangesAreReadAgain = (ranges : PluralRanges) (value : Data) → IsJsonOfRanges value ranges → ranges_of_json value ≡ Ok ranges
