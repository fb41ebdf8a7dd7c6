-- JSON values that are refused, and the block of the rules that a document has for a locale.
use Rattle.std.proofs.Common.{◌≡◌, ◌↔◌, List, ℕ, Bool, true, false, Option, Some, None, is_some, Result, Ok, Err, IsFalse, IsTrue, refl}
use Rattle.serde_json.specs.Data.{Data}
use Rattle.serde_json.specs.Find.{as_object}
use Rattle.serde_json.specs.Written.{has_float}
use Rattle.icu_plurals.specs.declared.JsonError.{JsonError}
use Rattle.icu_plurals.specs.declared.JsonError.TheVariants as json
use Rattle.icu_plurals.specs.DocumentJson.{Document as Maps, document_of_json, rows_for}
use Rattle.icu_plurals.specs.ElementsJson.{packed_of_json}
use Rattle.icu_plurals.specs.Json.{IsRefusal}
use Rattle.icu_plurals.specs.PackedElements.{PackedElements}
use Rattle.icu_plurals.specs.FiveRules.{FiveRules}
use Rattle.icu_plurals.specs.declared.PluralRuleType.{PluralRuleType}
use Rattle.plural_documents.specs.Steps.{Then}
use Rattle.plural_exports.specs.GivenBytes.{ReadsTextBytes}
use Rattle.plural_exports.specs.GivenDocuments.{AreRulesIn, HasRulesAt, HasRulesFor, MeansElements, MeansMaps, ReadsType}
use Rattle.plural_exports.specs.GivenTexts.{PackRules}
use Rattle.plural_exports.specs.Inner.Conversions.{json_fault}
use Rattle.plural_exports.specs.Inner.GivenResults.{GivesSeen}
use Rattle.plural_exports.specs.declared.fault.Fault.{Fault}
use Rattle.plural_exports.proofs.Texts.{Block, bytes_of}

-- ---- JSON values that are refused

-- what isn't true is false
is_false : (b : Bool) → (IsTrue b → ⊥) → IsFalse b
is_false true none = absurd (none refl)
is_false false none = refl

-- what isn't absent is present
is_present : {A : Type 0} (o : Option A) → (o ≡ None → ⊥) → IsTrue (is_some o)
is_present None none = absurd (none refl)
is_present (Some x) none = refl

-- a value that means no maps
pub maps_refused : (value : Data) (e : JsonError) (r : Result Maps Fault) → r ≡ Err (json_fault e) → IsRefusal e (document_of_json value)
    → ◌≡◌ {A = Result Maps JsonError} (Err e) (Err json.Float) ↔ IsTrue (has_float value)
    → (IsFalse (has_float value) → as_object value ≡ None → ◌≡◌ {A = Result Maps JsonError} (Err e) (Err json.Shape))
    → MeansMaps value r
maps_refused value json.Float r is answers float shape = rw is answers
maps_refused value json.Shape r is answers float shape = rw is answers
maps_refused value (json.Rule category fault) r is answers float shape = rw is answers
maps_refused value json.RangeKey r is answers float shape = rw is answers
maps_refused value json.RangeValue r is answers float shape = rw is answers
maps_refused value (json.Pack fault) r is answers float shape = rw is answers
maps_refused value json.Memory r is answers float shape =
    let no_float : IsFalse (has_float value) = is_false (has_float value)
    (λ holds. (let same : ◌≡◌ {A = Result Maps JsonError} (Err json.Memory) (Err json.Float) = float.1 holds in absurd cc)) in
    rw is (
      no_float,
      is_present (as_object value)
          (λ none. (let same : ◌≡◌ {A = Result Maps JsonError} (Err json.Memory) (Err json.Shape) = shape no_float none in absurd cc)),
    )

-- a value that means no elements
pub elements_refused : (value : Data) (e : JsonError) (r : Result PackedElements Fault) → r ≡ Err (json_fault e)
    → IsRefusal e (packed_of_json value)
    → (◌≡◌ {A = Result PackedElements JsonError} (Err e) (Err json.Memory)
    → (elements : PackedElements) × (packed_of_json value ≡ Ok elements))
    → MeansElements value r
elements_refused value json.Float r is answers packable = rw is answers
elements_refused value json.Shape r is answers packable = rw is answers
elements_refused value (json.Rule category fault) r is answers packable = rw is answers
elements_refused value json.RangeKey r is answers packable = rw is answers
elements_refused value json.RangeValue r is answers packable = rw is answers
elements_refused value (json.Pack fault) r is answers packable = rw is answers
elements_refused value json.Memory r is answers packable = rw is (packable refl)

-- ---- The rules of a locale

-- the locale's text is refused
pub refused_locale : (bytes locale : List ℕ) (n : ℕ) (type : PluralRuleType) (e : Fault) (r : Block)
    → r ≡ Err e → ReadsType n (Ok type) → ReadsTextBytes locale (Err e) → GivesSeen bytes_of (AreRulesIn bytes locale n) r
refused_locale bytes locale n type e r is known h = rw is (Ok type, known, (Err e, h, refl))

-- the document has no rules
pub refused_document : (bytes locale : List ℕ) (n : ℕ) (type : PluralRuleType) (text : List ℕ) (e : Fault)
    → ReadsType n (Ok type) → ReadsTextBytes locale (Ok text) → HasRulesFor bytes text type (Err e) → AreRulesIn bytes locale n (Err e)
refused_document bytes locale n type text e known read h = (Ok type, known, (Ok text, read, (Err e, h, refl)))

-- the rules of its maps are packed, or can't be
pub packed_maps : (bytes locale : List ℕ) (n : ℕ) (type : PluralRuleType) (text : List ℕ) (maps : Maps) (r : Block)
    → ReadsType n (Ok type) → ReadsTextBytes locale (Ok text)
    → ((found : Result FiveRules Fault) → HasRulesAt text (rows_for type maps) found → HasRulesFor bytes text type found)
    → GivesSeen bytes_of (Then (HasRulesAt text (rows_for type maps)) PackRules) r → GivesSeen bytes_of (AreRulesIn bytes locale n) r
packed_maps bytes locale n type text maps (Ok block) known read has (found, at, packed) =
    (Ok type, known, (Ok text, read, (found, has found at, packed)))
packed_maps bytes locale n type text maps (Err e) known read has (found, at, packed) =
    (Ok type, known, (Ok text, read, (found, has found at, packed)))
