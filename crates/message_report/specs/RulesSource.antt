-- Where the rules of a locale come from: a provider over keys, the texts under these, and the parents
-- of locales.
--     HasRules source type locale rules      the rules of the first key of the locale's chain, if
--         there are some, and the language isn't unknown
--     HasText source type locale category text      the text of a category's rule under that key, if
--         there is one
--     text_in document part key category      that of a JSON document
use Rattle.std.specs.Prelude.{◌≡◌, ◌⊎◌, ℕ, List, Option, Some, None}
use Rattle.std.specs.Option.{option_and_then}
use Rattle.serde_json.specs.Data.{Data}
use Rattle.serde_json.specs.Find.{get}
use Rattle.icu_plurals.specs.RulesJson.{text_under}
use Rattle.icu_plurals.specs.declared.PluralCategory.{PluralCategory}
use Rattle.icu_plurals.specs.FiveRules.{FiveRules}
use Rattle.icu_plurals.specs.declared.PluralRuleType.{PluralRuleType}
use Rattle.icu_plurals.specs.declared.PluralRuleType.TheVariants.{Cardinal, Ordinal}
use Rattle.plural_fallback.specs.Chain.{next_of}
use Rattle.plural_fallback.specs.FirstKeys.{key_at, locale_at, IsFirstKey, Misses}
use Rattle.plural_fallback.specs.LocalesJson.{part_name}
use Rattle.plural_fallback.specs.UnknownLanguages.{IsKnownLanguage, IsUnknownLanguage}
use Rattle.plural_fallback.specs.declared.error.FallbackError.{FallbackError}
use Rattle.plural_fallback.specs.declared.first_key.TheConstants.{MOST_LOCALES}
use Rattle.plural_fallback.specs.declared.locales.Part.{Part}
use Rattle.plural_fallback.specs.declared.locales.Part.TheVariants as part

-- the rules of a type under a key, the text of a category there, the keys that have some, and the
-- parents of locales
pub record RulesSource : Type 0 where
  pub under : PluralRuleType → List ℕ → Option FiveRules
  pub texts : PluralRuleType → List ℕ → PluralCategory → Option (List ℕ)
  pub keys : PluralRuleType → List (List ℕ)
  pub parent : List ℕ → Option (List ℕ)

-- the part of a type
abbrev pub part_of : PluralRuleType → Part
part_of Cardinal = part.Cardinal
part_of Ordinal = part.Ordinal

-- one of two by the type
abbrev pub of_type : {A : Type 0} → A → A → PluralRuleType → A
of_type cardinal ordinal Cardinal = cardinal
of_type cardinal ordinal Ordinal = ordinal

-- the source of a provider's two maps, with texts, keys and parents
abbrev pub source_of : (List ℕ → Option FiveRules) → (List ℕ → Option FiveRules) → (Part → List ℕ → PluralCategory → Option (List ℕ))
    → (Part → List (List ℕ)) → (List ℕ → Option (List ℕ)) → RulesSource
source_of cardinal ordinal texts keys parent = record {
  under = of_type cardinal ordinal;
  texts = λ type. texts (part_of type);
  keys = λ type. keys (part_of type);
  parent = parent;
}

-- the key after so many steps of the chain
abbrev pub chain_key : RulesSource → PluralRuleType → List ℕ → ℕ → Option (List ℕ)
chain_key source type locale = key_at (source.keys type) (next_of source.parent) locale

-- the language of a locale is known, or it is unknown
abbrev pub IsKnownInSource : RulesSource → List ℕ → Type 0
IsKnownInSource source locale = IsKnownLanguage (source.keys Cardinal) (source.keys Ordinal) (next_of source.parent) locale

abbrev pub IsUnknown : RulesSource → List ℕ → Type 0
IsUnknown source locale = IsUnknownLanguage (source.keys Cardinal) (source.keys Ordinal) (next_of source.parent) locale

-- the rules under the first key of the chain; or the language is unknown, or there is no key among
-- the first locales, or no rules under it
abbrev pub HasRules : RulesSource → PluralRuleType → List ℕ → Option FiveRules → Type 0
HasRules source type locale (Some rules) =
    (key : List ℕ) × IsFirstKey MOST_LOCALES (chain_key source type locale) key × (source.under type key ≡ Some rules)
    × IsKnownInSource source locale
HasRules source type locale None =
    IsUnknown source locale
    ⊎ ((error : FallbackError)
    × Misses MOST_LOCALES (locale_at (next_of source.parent) locale) (chain_key source type locale) (λ key. source.under type key ≡ None) error)

-- ---- Texts

-- the text of a category under a key of a part
abbrev pub text_in : Data → Part → List ℕ → PluralCategory → Option (List ℕ)
text_in document part key category =
    option_and_then (text_under category) (option_and_then (get key) (get (part_name part) document))

-- that under the first key of the chain, if there is a key among the first locales
abbrev pub HasText : RulesSource → PluralRuleType → List ℕ → PluralCategory → Option (List ℕ) → Type 0
HasText source type locale category text =
    ((key : List ℕ) × IsFirstKey MOST_LOCALES (chain_key source type locale) key × (text ≡ source.texts type key category))
    ⊎ ((error : FallbackError)
    × Misses MOST_LOCALES (locale_at (next_of source.parent) locale) (chain_key source type locale) (λ _. ⊥) error × (text ≡ None))
