-- What the maps of a document have for a locale.
use Rattle.std.proofs.Common.{◌≡◌, ℕ, List, Some, None, Result, Ok, Err, refl, sym, ap, subst, ◌∙◌}
use Rattle.icu_plurals.specs.DocumentJson.{Document as Maps, document_for, document_of_json, found, of_locale, rows_for, with_locale}
use Rattle.icu_plurals.specs.FiveRules.{FiveRules}
use Rattle.icu_plurals.specs.Json.{GivesMeaning, Stands}
use Rattle.icu_plurals.specs.declared.JsonError.{JsonError}
use Rattle.icu_plurals.specs.declared.JsonError.TheVariants as json
use Rattle.icu_plurals.specs.declared.PluralRuleType.{PluralRuleType}
use Rattle.icu_plurals.specs.declared.PluralRuleType.TheVariants.{Cardinal, Ordinal}
use Rattle.icu_plurals.specs.declared.provider.PluralRanges.{PluralRanges}
use Rattle.plural_documents.proofs.JsonTextLemmas.{some_bytes}
use Rattle.plural_documents.proofs.LocaleServes.{row_found}
use Rattle.plural_documents.specs.Inputs.{json_of}
use Rattle.plural_documents.specs.Outlines.{GivesHeldText, HeldText, IsHeld}
use Rattle.plural_documents.specs.Steps.{Then}
use Rattle.plural_documents.specs.declared.JsonTextError.{JsonTextError}
use Rattle.plural_documents.specs.declared.JsonTextError.TheVariants as text
use Rattle.plural_exports.specs.GivenDocuments.{HasRulesAt, HasRulesFor, IsMapsFault, MeansMaps, ReadsJson}
use Rattle.plural_exports.specs.GivenRanges.{HasRangesAt, HasRangesFor}
use Rattle.plural_exports.specs.Inner.Conversions.{json_fault, json_text_fault}
use Rattle.plural_exports.specs.Inner.GivenResults.{HasMapsFor}
use Rattle.plural_exports.specs.declared.fault.Fault.{Fault}
use Rattle.plural_exports.specs.declared.fault.Fault.TheVariants.{Memory}
use Rattle.serde_json.specs.Data.{Data}

-- ---- A text

-- no JSON text
pub text_refused : (bytes locale : List ℕ) (e : JsonTextError) (r : Result Maps Fault) → r ≡ Err (json_text_fault e)
    → GivesHeldText None bytes (Err e)
    → HasMapsFor bytes locale r
text_refused bytes locale text.Json r is none = rw is (Err (json_text_fault text.Json), none, refl)
text_refused bytes locale text.Memory r is some = rw is (Err (json_text_fault text.Memory), some, refl)

-- what is held of it
pub held_of : (bytes : List ℕ) (held : HeldText) (whole : Data) → held ≡ record { bytes = bytes; names = None } → json_of bytes ≡ Some whole
    → IsHeld held whole
held_of bytes held whole same reads = subst (λ (t : HeldText). IsHeld t whole) (sym same) (whole, reads, refl)

-- ---- A document

refusal_of : (locale : List ℕ) (stands : Stands Maps) (e : JsonError) → with_locale locale stands ≡ Err e → stands ≡ Err e
refusal_of locale (Ok maps) e is = absurd (cc)
refusal_of locale (Err refusal) e is = let same : refusal ≡ e = cc in rw same refl

module _ (bytes locale : List ℕ) (value : Data) (reads : json_of bytes ≡ Some value) where
  refused : (e : JsonError) (fault : Fault) → IsMapsFault value fault → Then (ReadsJson bytes) MeansMaps (Err fault)
  refused e fault is = (Ok value, reads, is)

  -- it is refused, or memory ran out
  pub document_refused : (e : JsonError) (r : Result Maps Fault) → r ≡ Err (json_fault e)
      → GivesMeaning {A = Maps} (λ maps. maps) (Err e) (document_for locale value) → HasMapsFor bytes locale r
  document_refused json.Float r is why = rw is (refused json.Float _ (refusal_of locale (document_of_json value) json.Float why))
  document_refused json.Shape r is why = rw is (refused json.Shape _ (refusal_of locale (document_of_json value) json.Shape why))
  document_refused (json.Rule category fault) r is why =
      rw is (refused (json.Rule category fault) _ (refusal_of locale (document_of_json value) (json.Rule category fault) why))
  document_refused json.RangeKey r is why = rw is (refused json.RangeKey _ (refusal_of locale (document_of_json value) json.RangeKey why))
  document_refused json.RangeValue r is why =
      rw is (refused json.RangeValue _ (refusal_of locale (document_of_json value) json.RangeValue why))
  document_refused (json.Pack fault) r is why =
      rw is (refused (json.Pack fault) _ (refusal_of locale (document_of_json value) (json.Pack fault) why))
  document_refused json.Memory r is why = rw is (Err Memory, some_bytes bytes value reads, refl)

  maps_of : (some : Maps) (stands : Stands Maps) → with_locale locale stands ≡ Ok some
      → (maps : Maps) × (stands ≡ Ok maps) × (some ≡ of_locale locale maps)
  maps_of some (Ok maps) is = let same : some ≡ of_locale locale maps = cc in (maps, refl, same)
  maps_of some (Err e) is = absurd (cc)

  -- or these are of the locale
  pub maps_given : (some : Maps) → document_for locale value ≡ Ok some → HasMapsFor bytes locale (Ok some)
  maps_given some is = let there = maps_of some (document_of_json value) is in (value, there.0, reads, there.1, there.2)

-- ---- A locale

before : {C : Type 0} (Last : Maps → Result C Fault → Type 0) (bytes : List ℕ) (fault : Fault)
    → Then (ReadsJson bytes) MeansMaps (Err fault)
    → Then (ReadsJson bytes) (λ value. Then (MeansMaps value) Last) (Err fault)
before {C} Last bytes fault (Ok value, reads, refused) = (Ok value, reads, (Err fault, refused, refl))
before {C} Last bytes fault (Err other, reads, same) = let is : fault ≡ other = cc in (Err other, reads, rw is refl)

module _ (bytes locale : List ℕ) where
  -- a document without rules for the locale
  pub rules_refused : (type : PluralRuleType) (fault : Fault) → HasMapsFor bytes locale (Err fault)
      → HasRulesFor bytes locale type (Err fault)
  rules_refused type fault refused = before (λ maps. HasRulesAt locale (rows_for type maps)) bytes fault refused

  pub ranges_refused : (fault : Fault) → HasMapsFor bytes locale (Err fault) → HasRangesFor bytes locale (Err fault)
  ranges_refused fault refused = before (λ maps. HasRangesAt locale maps.ranges) bytes fault refused

  same_rules : (type : PluralRuleType) (maps : Maps)
      → found locale (rows_for type (of_locale locale maps)) ≡ found locale (rows_for type maps)
  same_rules Cardinal maps = row_found locale (found locale maps.cardinal)
  same_rules Ordinal maps = row_found locale (found locale maps.ordinal)

  rules_at : (type : PluralRuleType) (some maps : Maps) → some ≡ of_locale locale maps → (r : Result FiveRules Fault)
      → HasRulesAt locale (rows_for type some) r → HasRulesAt locale (rows_for type maps) r
  rules_at type some maps is (Ok rules) has = rw (← same_rules type maps, ← is) has
  rules_at type some maps is (Err fault) (none, why) = (rw (← same_rules type maps, ← is) none, why)

  -- the document has the rules that these maps have
  pub rules_found : (type : PluralRuleType) (some : Maps) → HasMapsFor bytes locale (Ok some) → (r : Result FiveRules Fault)
      → HasRulesAt locale (rows_for type some) r → HasRulesFor bytes locale type r
  rules_found type some (value, maps, reads, means, is) r has = (Ok value, reads, (Ok maps, means, rules_at type some maps is r has))

  same_ranges : (some maps : Maps) → some ≡ of_locale locale maps → found locale maps.ranges ≡ found locale some.ranges
  same_ranges some maps is =
      sym (row_found locale (found locale maps.ranges)) ∙ ap (λ (m : Maps). found locale m.ranges) (sym is)

  ranges_at : (some maps : Maps) → some ≡ of_locale locale maps → (r : Result PluralRanges Fault) → HasRangesAt locale some.ranges r
      → HasRangesAt locale maps.ranges r
  ranges_at some maps is (Ok ranges) has = same_ranges some maps is ∙ has
  ranges_at some maps is (Err fault) (none, why) = (same_ranges some maps is ∙ none, why)

  pub ranges_found : (some : Maps) → HasMapsFor bytes locale (Ok some) → (r : Result PluralRanges Fault) → HasRangesAt locale some.ranges r
      → HasRangesFor bytes locale r
  ranges_found some (value, maps, reads, means, is) r has = (Ok value, reads, (Ok maps, means, ranges_at some maps is r has))
