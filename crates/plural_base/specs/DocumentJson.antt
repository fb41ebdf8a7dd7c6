-- What a JSON document means: maps from locales to rules and to ranges (docs/JSON.md).
--     found locale rows      what the first row of the locale has
--     rows_for type document      the maps of a type
--     document_of_json value      the maps of a document, or its first refusal
--     document_for locale value      what these maps have for a locale alone, or the first refusal
--     AreRulesAt value rules      both are absent, or the rules come from the texts in the value
--     AreRangesAt value ranges      both are absent, or the ranges are those that the value means
use Rattle.std.specs.Prelude.{◌≡◌, ℕ, List, [], ◌∷◌, codes, Option, Some, None, is_some, Ok, Err, bytes_eq, if◌then◌else◌}
use Rattle.std.specs.Map.{lookup}
use Rattle.std.specs.Option.{option_and_then}
use Rattle.plural_base.specs.declared.json.error.JsonError.TheVariants.{Shape}
use Rattle.plural_base.specs.declared.provider.options.PluralRuleType.{PluralRuleType}
use Rattle.plural_base.specs.declared.provider.options.PluralRuleType.TheVariants.{Cardinal, Ordinal}
use Rattle.plural_base.specs.declared.ranges.PluralRanges.{PluralRanges}
use Rattle.plural_base.specs.FiveRules.{FiveRules, Paired}
use Rattle.plural_base.specs.RangesJson.{ranges_meant}
use Rattle.plural_base.specs.RuleTexts.{AreRulesOf}
use Rattle.plural_base.specs.Json.{Stands, ◌>>=◌, unless_float}
use Rattle.plural_base.specs.RulesJson.{rules_meant, texts_in}
use Rattle.serde_json.specs.Data.{Data, Members, no_members, member}
use Rattle.serde_json.specs.Find.{get, as_null, as_object}

-- ---- Maps

-- locales and what they have, one locale a row
abbrev pub Rows : Type 0 → Type 0
Rows A = List (List ℕ × A)

-- what a locale has
abbrev pub found : {A : Type 0} → List ℕ → Rows A → Option A
found locale rows = lookup (bytes_eq locale) rows

pub record Document : Type 0 where
  pub cardinal : Rows FiveRules
  pub ordinal : Rows FiveRules
  pub ranges : Rows PluralRanges

-- the maps of a type
abbrev pub rows_for : PluralRuleType → Document → Rows FiveRules
rows_for Cardinal document = document.cardinal
rows_for Ordinal document = document.ordinal

-- ---- Reading

-- each member is the row of its key; the members are in the order of the keys' bytes, and the first
-- refusal is the result
abbrev pub rows_meant : {A : Type 0} → (Data → Stands A) → Members → Stands (Rows A)
rows_meant meant no_members = Ok []
rows_meant meant (member locale value members) = do
  first ← meant value
  rows ← rows_meant meant members
  Ok ((locale, first) ∷ rows)

abbrev pub object_meant : {A : Type 0} → (Data → Stands A) → Option Members → Stands (Rows A)
object_meant meant None = Err Shape
object_meant meant (Some members) = rows_meant meant members

-- a map is absent, null or an object
abbrev pub map_meant : {A : Type 0} → (Data → Stands A) → Option Data → Stands (Rows A)
map_meant meant None = Ok []
map_meant meant (Some value) = if is_some (as_null value) then Ok [] else object_meant meant (as_object value)

-- all three maps, or the first refusal
abbrev pub all_maps : Stands (Rows FiveRules) → Stands (Rows FiveRules) → Stands (Rows PluralRanges) → Stands Document
all_maps cardinal ordinal ranges = do
  rows ← cardinal
  others ← ordinal
  tables ← ranges
  Ok (record { cardinal = rows; ordinal = others; ranges = tables })

-- a document is an object with three maps; its other keys aren't read
abbrev pub document_meant : Data → Stands Document
document_meant value =
    if is_some (as_object value)
    then all_maps (map_meant rules_meant (get (codes "cardinal") value)) (map_meant rules_meant (get (codes "ordinal") value))
    (map_meant ranges_meant (get (codes "ranges") value))
    else Err Shape

abbrev pub document_of_json : Data → Stands Document
document_of_json = unless_float document_meant

-- ---- A document for one locale

-- the row of a locale, if it has one
abbrev pub row_of : {A : Type 0} → List ℕ → Option A → Rows A
row_of locale None = []
row_of locale (Some x) = (locale, x) ∷ []

-- what the maps have for a locale, and no other row
abbrev pub of_locale : List ℕ → Document → Document
of_locale locale document = record {
  cardinal = row_of locale (found locale document.cardinal);
  ordinal = row_of locale (found locale document.ordinal);
  ranges = row_of locale (found locale document.ranges);
}

-- the document of a locale, or the refusal
abbrev pub with_locale : List ℕ → Stands Document → Stands Document
with_locale locale stands = stands >>= λ document. Ok (of_locale locale document)

-- the whole document is read: a refusal of another locale is one of this document too
abbrev pub document_for : List ℕ → Data → Stands Document
document_for locale value = with_locale locale (document_of_json value)

-- ---- What a locale has

-- the value of a locale under a key of the document
abbrev pub value_of_locale : List ℕ → List ℕ → Data → Option Data
value_of_locale key locale value = option_and_then (get locale) (get key value)

-- the rules come from the texts in the value, or both are absent
abbrev pub AreRulesAt : Option Data → Option FiveRules → Type 0
AreRulesAt = Paired (λ value rules. AreRulesOf (texts_in value) rules)

-- the ranges are those that the value means, or both are absent
abbrev pub AreRangesAt : Option Data → Option PluralRanges → Type 0
AreRangesAt = Paired (λ value ranges. ranges_meant value ≡ Ok ranges)
