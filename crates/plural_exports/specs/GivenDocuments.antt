-- What a JSON text has: the block of the rules of a locale, and the bytes of elements
-- (docs/JSON.md).
--     AreRulesIn json locale type answer      the bytes of the block. Faults are looked for in this
--         order: those of the type, of the locale's text, of the JSON text, of the document, the
--         locale isn't present, rules too long
--     AreElementsIn json answer      the packed bytes. Faults: those of the JSON text, of the
--         elements
use Rattle.std.specs.Prelude.{◌≡◌, ℕ, ◌<◌, List, length, ◌==◌, if◌then◌else◌, is_some, Some, None, Result, Ok, Err, IsFalse, IsTrue}
use Rattle.serde_json.specs.Data.{Data}
use Rattle.serde_json.specs.Find.{as_object}
use Rattle.serde_json.specs.Written.{has_float}
use Rattle.icu_plurals.specs.declared.PluralRuleType.{PluralRuleType}
use Rattle.icu_plurals.specs.declared.PluralRuleType.TheVariants.{Cardinal, Ordinal}
use Rattle.icu_plurals.specs.DocumentJson.{Document as Maps, Rows, document_of_json, found, rows_for}
use Rattle.icu_plurals.specs.ElementsJson.{packed_of_json}
use Rattle.icu_plurals.specs.FiveRules.{FiveRules}
use Rattle.icu_plurals.specs.PackedElements.{PackedElements, ElementsBytes}
use Rattle.plural_documents.specs.Inputs.{json_of}
use Rattle.plural_exports.specs.GivenBytes.{ReadsTextBytes}
use Rattle.plural_exports.specs.GivenTexts.{PackRules}
use Rattle.plural_documents.specs.Steps.{Then}
use Rattle.plural_exports.specs.declared.fault.Fault.{Fault}
use Rattle.plural_exports.specs.declared.fault.Fault.TheVariants.{Memory, RuleType, Json, Document, Locale}

-- 0 is cardinal and 1 ordinal
abbrev pub type_numbered : ℕ → Result PluralRuleType Fault
type_numbered n = if n == 0 then Ok Cardinal else (if n == 1 then Ok Ordinal else Err RuleType)

abbrev pub ReadsType : ℕ → Result PluralRuleType Fault → Type 0
ReadsType n answer = answer ≡ type_numbered n

-- the bytes aren't JSON; or there are some, and memory ran out
abbrev pub IsJsonFault : List ℕ → Fault → Type 0
IsJsonFault bytes Memory = 0 < length bytes
IsJsonFault bytes Json = json_of bytes ≡ None
IsJsonFault bytes fault = ⊥

-- the JSON value that the bytes write
abbrev pub ReadsJson : List ℕ → Result Data Fault → Type 0
ReadsJson bytes (Ok value) = json_of bytes ≡ Some value
ReadsJson bytes (Err fault) = IsJsonFault bytes fault

-- ---- Rules

-- the rules of a locale, if present
abbrev pub HasRulesAt : List ℕ → Rows FiveRules → Result FiveRules Fault → Type 0
HasRulesAt locale rows (Ok rules) = found locale rows ≡ Some rules
HasRulesAt locale rows (Err fault) = (found locale rows ≡ None) × (fault ≡ Locale)

-- why a value means no maps; or it is an object without a float, and memory ran out
abbrev pub IsMapsFault : Data → Fault → Type 0
IsMapsFault value Memory = IsFalse (has_float value) × IsTrue (is_some (as_object value))
IsMapsFault value (Document refusal) = document_of_json value ≡ Err refusal
IsMapsFault value fault = ⊥

-- the maps that a value means
abbrev pub MeansMaps : Data → Result Maps Fault → Type 0
MeansMaps value (Ok maps) = document_of_json value ≡ Ok maps
MeansMaps value (Err fault) = IsMapsFault value fault

-- the rules of a type that a JSON text has for a locale
abbrev pub HasRulesFor : List ℕ → List ℕ → PluralRuleType → Result FiveRules Fault → Type 0
HasRulesFor bytes locale type =
    Then (ReadsJson bytes) (λ value. Then (MeansMaps value) (λ maps. HasRulesAt locale (rows_for type maps)))

-- the block of these rules
abbrev pub AreRulesIn : List ℕ → List ℕ → ℕ → Result (List ℕ) Fault → Type 0
AreRulesIn bytes locale n =
    Then (ReadsType n) (λ type. Then (ReadsTextBytes locale) (λ text. Then (HasRulesFor bytes text type) PackRules))

-- ---- Elements

-- why a value means no elements; or it means some, and memory ran out
abbrev pub IsElementsRefusal : Data → Fault → Type 0
IsElementsRefusal value Memory = (elements : PackedElements) × (packed_of_json value ≡ Ok elements)
IsElementsRefusal value (Document refusal) = packed_of_json value ≡ Err refusal
IsElementsRefusal value fault = ⊥

-- the elements that a value means
abbrev pub MeansElements : Data → Result PackedElements Fault → Type 0
MeansElements value (Ok elements) = packed_of_json value ≡ Ok elements
MeansElements value (Err fault) = IsElementsRefusal value fault

-- the bytes of elements
abbrev pub AreBytesOf : PackedElements → Result (List ℕ) Fault → Type 0
AreBytesOf elements (Ok bytes) = ElementsBytes elements bytes
AreBytesOf elements (Err fault) = ⊥

-- the elements of a JSON text
abbrev pub HasElements : List ℕ → Result PackedElements Fault → Type 0
HasElements bytes = Then (ReadsJson bytes) MeansElements

-- their bytes
abbrev pub AreElementsIn : List ℕ → Result (List ℕ) Fault → Type 0
AreElementsIn bytes = Then (HasElements bytes) AreBytesOf
