-- The rules of a language, unless it is unknown.
use Rattle.std.proofs.Common.{◌≡◌, ◌⊎◌, ℕ, List, false, Option, Some, None, inl, inr, refl, ap, ◌∙◌, sym}
use Rattle.icu_plurals.specs.FiveRules.{FiveRules}
use Rattle.icu_plurals.specs.declared.PluralCategory.{PluralCategory}
use Rattle.icu_plurals.specs.declared.PluralRuleType.{PluralRuleType}
use Rattle.icu_plurals.specs.declared.PluralRuleType.TheVariants.{Cardinal, Ordinal}
use Rattle.plural_fallback.specs.Chain.{next_of}
use Rattle.plural_fallback.specs.FirstKeys.{IsFirstKey, Misses, locale_at}
use Rattle.plural_fallback.specs.UnknownLanguages.{is_unknown}
use Rattle.plural_fallback.specs.declared.error.FallbackError.{FallbackError}
use Rattle.plural_fallback.specs.declared.first_key.TheConstants.{MOST_LOCALES}
use Rattle.plural_fallback.specs.declared.locales.Part.{Part}
use Rattle.message_report.specs.Inner.LanguageViews.{GivesKnown}
use Rattle.message_report.specs.RulesSource.{HasRules, HasText, IsKnownInSource, RulesSource, chain_key, source_of}

module _ (cardinal ordinal : List ℕ → Option FiveRules) (texts : Part → List ℕ → PluralCategory → Option (List ℕ))
    (keys : Part → List (List ℕ))
    (parent : List ℕ → Option (List ℕ)) (locale : List ℕ) where
  abbrev source : RulesSource
  source = source_of cardinal ordinal texts keys parent

  -- a language with a key of a type is known
  known_by : (type : PluralRuleType) (key : List ℕ) → IsFirstKey MOST_LOCALES (chain_key source type locale) key
      → (is_unknown locale key ≡ false) ⊎ IsKnownInSource source locale → IsKnownInSource source locale
  known_by Cardinal key first (inl own) = inl (key, first, own)
  known_by Ordinal key first (inl own) = inr (key, first, own)
  known_by Cardinal key first (inr known) = known
  known_by Ordinal key first (inr known) = known

  -- what the first key has
  pub known_rules : (type : PluralRuleType) (key : List ℕ) (rules : FiveRules) (given : Option FiveRules)
      → IsFirstKey MOST_LOCALES (chain_key source type locale) key → source.under type key ≡ Some rules
      → GivesKnown keys (next_of parent) locale key rules given → HasRules source type locale given
  known_rules type key rules (Some given) first has gives =
      (key, first, has ∙ ap (λ (r : FiveRules). Some r) (sym gives.0), known_by type key first gives.1)
  known_rules type key rules None first has gives = inl gives

  -- that it has none
  pub no_rules : (type : PluralRuleType) (error : FallbackError)
      → Misses MOST_LOCALES (locale_at (next_of parent) locale) (chain_key source type locale) (λ key. source.under type key ≡ None) error
      → HasRules source type locale None
  no_rules type error none = inr (error, none)

  -- the text under the first key
  pub first_text : (type : PluralRuleType) (category : PluralCategory) (key : List ℕ) (text : Option (List ℕ))
      → IsFirstKey MOST_LOCALES (chain_key source type locale) key → text ≡ source.texts type key category
      → HasText source type locale category text
  first_text type category key text first is = inl (key, first, is)

  -- there is no key
  pub no_text : (type : PluralRuleType) (category : PluralCategory) (error : FallbackError)
      → Misses MOST_LOCALES (locale_at (next_of parent) locale) (chain_key source type locale) (λ _. ⊥) error
      → HasText source type locale category None
  no_text type category error none = inr (error, none, refl)
