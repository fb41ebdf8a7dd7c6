-- The document that an input writes, and what it has for a locale (docs/JSON.md).
use Rattle.std.specs.Prelude.{ℕ, List, Option, Some, None, Result, Ok, Err, codes}
use Rattle.serde_json.specs.Data.{Data}
use Rattle.serde_json.specs.Find.{get}
use Rattle.icu_plurals.specs.declared.JsonError.{JsonError}
use Rattle.icu_plurals.specs.declared.JsonError.TheVariants.{Shape}
use Rattle.icu_plurals.specs.declared.PluralRuleType.{PluralRuleType}
use Rattle.icu_plurals.specs.DocumentJson.{Document as Maps, found, document_of_json, rows_for}
use Rattle.icu_plurals.specs.ElementsJson.{packed_of_json}
use Rattle.icu_plurals.specs.FiveRules.{FiveRules}
use Rattle.icu_plurals.specs.PackedElements.{PackedElements}
use Rattle.icu_plurals.specs.Providers.{WithRanges}
use Rattle.plural_documents.specs.Inputs.{within_limit, json_of}
use Rattle.plural_documents.specs.Steps.{◌>>=◌, value_or_fault}
use Rattle.plural_queries.specs.declared.error.RunError.{RunError}
use Rattle.plural_queries.specs.declared.error.RunError.TheVariants.{TooLong, Json, Document as BadDocument, Locale}

-- ---- The document

-- a document: its JSON value, and the maps of rules and of ranges that the value means
pub record WholeDocument : Type 0 where
  pub value : Data
  pub maps : Maps

-- a refusal of the document is the program's fault
abbrev pub or_bad : {A : Type 0} → Result A JsonError → Result A RunError
or_bad (Ok x) = Ok x
or_bad (Err refusal) = Err (BadDocument refusal)

-- the document with this value
abbrev pub document_of_value : Data → Result WholeDocument RunError
document_of_value value = do
  maps ← or_bad (document_of_json value)
  Ok (record { value = value; maps = maps })

-- the document of the bytes
abbrev pub document_of : List ℕ → Result WholeDocument RunError
document_of bytes = value_or_fault Json (json_of bytes) >>= document_of_value

-- the document of an input, whose length is checked first
abbrev pub document_in : List ℕ → Result WholeDocument RunError
document_in input = within_limit TooLong document_of input

-- ---- What it has for a locale

-- five rules, and categories of ranges
abbrev pub RangedRules : Type 0
RangedRules = WithRanges FiveRules

-- elements, and five rules that choose among them
pub record RuledElements : Type 0 where
  pub elements : PackedElements
  pub rules : FiveRules

-- the rules of a locale
abbrev pub rules_for : PluralRuleType → List ℕ → WholeDocument → Result FiveRules RunError
rules_for type locale document = value_or_fault Locale (found locale (rows_for type document.maps))

-- the rules of a locale, and its ranges
abbrev pub ranged_for : PluralRuleType → List ℕ → WholeDocument → Result RangedRules RunError
ranged_for type locale document = do
  rules ← rules_for type locale document
  ranges ← value_or_fault Locale (found locale document.maps.ranges)
  Ok (record { rules = rules; ranges = ranges })

-- a document without elements has another shape
abbrev pub elements_at_key : Option Data → Result PackedElements JsonError
elements_at_key None = Err Shape
elements_at_key (Some value) = packed_of_json value

-- the elements with the rules of a locale
abbrev pub ruled_with : PluralRuleType → List ℕ → WholeDocument → PackedElements → Result RuledElements RunError
ruled_with type locale document elements = do
  rules ← rules_for type locale document
  Ok (record { elements = elements; rules = rules })

-- the elements of the document, and the rules of a locale; the elements' fault comes before the
-- locale's
abbrev pub elements_for : PluralRuleType → List ℕ → WholeDocument → Result RuledElements RunError
elements_for type locale document = or_bad (elements_at_key (get (codes "elements") document.value)) >>= ruled_with type locale document
