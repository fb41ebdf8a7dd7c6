-- The rules that a document has for a locale: those of the first key along the locale's chain,
-- unless the language is unknown.
--     IsFoundFor document part locale answer      the rules of the first key, or why there are none
--     IsUnknownForPart document part locale      the first key is `root`, which wasn't asked for, and the
--         document has no other one for cardinal or ordinal numbers
--     IsLanguageFor document part locale answer      the rules, or why there are none
use Rattle.std.specs.Prelude.{◌≡◌, ◌⊎◌, ℕ, List, true, false, Option, Some, None, Result, Ok, Err, ◌↔◌}
use Rattle.serde_json.specs.Data.{Data}
use Rattle.serde_json.specs.View.{view}
use Rattle.icu_plurals.specs.FiveRules.{FiveRules}
use Rattle.icu_plurals.specs.Json.{Stands}
use Rattle.icu_plurals.specs.RulesJson.{rules_of_json, text_under}
use Rattle.icu_plurals.specs.declared.JsonError.{JsonError}
use Rattle.icu_plurals.specs.declared.JsonError.TheVariants.{Shape, Rule}
use Rattle.plural_fallback.specs.Chain.{next_of}
use Rattle.plural_fallback.specs.LocaleNames.{language}
use Rattle.plural_fallback.specs.LocalesJson.{keys_under, parent_in, part_name}
use Rattle.plural_fallback.specs.UnknownLanguages.{IsKnownLanguage, IsUnknownLanguage, is_unknown}
use Rattle.plural_fallback.specs.declared.error.FallbackError.{FallbackError}
use Rattle.plural_fallback.specs.declared.locales.Part.{Part}
use Rattle.plural_fallback.specs.declared.locales.Part.TheVariants.{Cardinal, Ordinal}
use Rattle.rules_outline.specs.LocaleKeys.{HasNoKey, IsKeyOf, value_at_key}
use Rattle.form_commands.specs.declared.error.LanguageError.{LanguageError}
use Rattle.form_commands.specs.SimilarKeys.{similar_keys}
use Rattle.form_commands.specs.declared.error.LanguageError.TheVariants.{NotFound, Refused, Unknown}
use Rattle.form_commands.specs.declared.language.LanguageRules.{LanguageRules}
use Rattle.std.specs.Option.{option_and_then}
use Rattle.icu_plurals.specs.declared.PluralCategory.{PluralCategory}
use Rattle.plural_reference.specs.FaultPlaces.{TextFaultyAt}
use Rattle.icu_plurals.specs.declared.provider.rules.reference.ParseError.{ParseError}
use Rattle.icu_plurals.specs.declared.provider.rules.runtime.ast.RuleError.TheVariants.{Parse}

-- ---- where the text of a rule that is refused has its fault (docs/CONDITIONS.md)

-- the text of a category has this fault at this byte
abbrev pub HasFaultAt : Option Data → PluralCategory → ParseError → ℕ → Type 0
HasFaultAt value category kind byte =
    (text : List ℕ) × (option_and_then (text_under category) value ≡ Some text) × TextFaultyAt text kind byte

-- the byte of a text that isn't read; the other reasons have none
abbrev pub IsFaultByte : Option Data → JsonError → Option ℕ → Type 0
IsFaultByte value (Rule (Some category) (Parse kind)) found = (byte : ℕ) → (found ≡ Some byte) ↔ HasFaultAt value category kind byte
IsFaultByte value reason found = found ≡ None

-- ---- The rules of a key

-- the rules that a value under a key means, or why it is refused
abbrev pub rules_in : Option Data → Stands FiveRules
rules_in None = Err Shape
rules_in (Some value) = rules_of_json value

-- the value under the key and its rules, or why it is refused, and where
abbrev pub IsFoundAt : Data → Part → List ℕ → Result LanguageRules LanguageError → Type 0
IsFoundAt document part key (Ok language) =
    (language.key.now ≡ key) × (value_at_key document part key ≡ Some (view language.value.now))
    × (rules_of_json (view language.value.now) ≡ Ok language.rules)
IsFoundAt document part key (Err error) =
    (reason : JsonError) × (byte : Option ℕ) × (rules_in (value_at_key document part key) ≡ Err reason)
    × IsFaultByte (value_at_key document part key) reason byte × (error ≡ Refused part key reason byte)

-- ---- The rules of a locale

-- those of the first key, or why there are none
abbrev pub IsFoundFor : Data → Part → List ℕ → Result LanguageRules LanguageError → Type 0
IsFoundFor document part locale answer =
    ((key : List ℕ) × IsKeyOf document part locale key × IsFoundAt document part key answer)
    ⊎ ((reason : FallbackError) × HasNoKey document part locale reason × (answer ≡ Err (NotFound part locale reason)))

-- ---- An unknown language

-- the first key is `root`, and neither `root` nor `und` was asked for
abbrev pub HasRootsKey : Data → Part → List ℕ → Type 0
HasRootsKey document part locale = (key : List ℕ) × IsKeyOf document part locale key × (is_unknown locale key ≡ true)

-- it is another one, or there is none
abbrev pub HasAnotherKey : Data → Part → List ℕ → Type 0
HasAnotherKey document part locale =
    ((key : List ℕ) × IsKeyOf document part locale key × (is_unknown locale key ≡ false))
    ⊎ ((reason : FallbackError) × HasNoKey document part locale reason)

-- another one is found for cardinal numbers, or for ordinal ones
abbrev pub IsKnownIn : Data → List ℕ → Type 0
IsKnownIn document locale =
    IsKnownLanguage (keys_under (part_name Cardinal) document) (keys_under (part_name Ordinal) document) (next_of (parent_in document)) locale

abbrev pub IsUnknownIn : Data → List ℕ → Type 0
IsUnknownIn document locale =
    IsUnknownLanguage (keys_under (part_name Cardinal) document) (keys_under (part_name Ordinal) document) (next_of (parent_in document)) locale

-- the key of the part is that of `root`, and none is found for other numbers
abbrev pub IsUnknownForPart : Data → Part → List ℕ → Type 0
IsUnknownForPart document part locale = HasRootsKey document part locale × IsUnknownIn document locale

abbrev pub IsKnownForPart : Data → Part → List ℕ → Type 0
IsKnownForPart document part locale = HasAnotherKey document part locale ⊎ IsKnownIn document locale

-- of an unknown language the error that names the keys of the part which are similar to it
abbrev pub unknown_error : Data → Part → List ℕ → LanguageError
unknown_error document part locale =
    Unknown part locale (similar_keys (language locale) (keys_under (part_name part) document))

-- the rules of a known language, or why there are none
abbrev pub IsLanguageFor : Data → Part → List ℕ → Result LanguageRules LanguageError → Type 0
IsLanguageFor document part locale answer =
    (IsUnknownForPart document part locale × (answer ≡ Err (unknown_error document part locale)))
    ⊎ (IsKnownForPart document part locale × IsFoundFor document part locale answer)
