-- Not a definition of the subject: a language of the code, in the words of the definitions.
use Rattle.std.specs.Prelude.{Bool, true, ◌≡◌, ◌⊎◌, ℕ, List, Option, Some, None, false}
use Rattle.icu_plurals.specs.declared.PluralCategory.{PluralCategory}
use Rattle.icu_plurals.specs.declared.PluralCategory.TheVariants.{Zero, One, Two, Few, Many, Other}
use Rattle.plural_checker.specs.declared.coverage.CategorySet.{CategorySet}
use Rattle.message_report.specs.FormFaults.{Language, no_samples}
use Rattle.message_report.specs.Inner.KnownNumbers.{chosen_of}
use Rattle.message_report.specs.declared.category_numbers.CategoryNumbers.{CategoryNumbers}
use Rattle.message_report.specs.declared.language.Language.{Language as CodeLanguage}
use Rattle.message_report.specs.declared.language_numbers.LanguageNumbers.{LanguageNumbers}
use Rattle.message_report.specs.declared.rare_samples.TwoSamples.{TwoSamples}
use Rattle.icu_plurals.specs.FiveRules.{FiveRules}
use Rattle.plural_fallback.specs.UnknownLanguages.{IsKnownLanguage, IsUnknownLanguage, is_unknown}
use Rattle.plural_fallback.specs.declared.locales.Part.{Part}
use Rattle.plural_fallback.specs.declared.locales.Part.TheVariants.{Cardinal, Ordinal}

abbrev pub numbers_at : LanguageNumbers → PluralCategory → CategoryNumbers
numbers_at language Zero = language.numbers.zero
numbers_at language One = language.numbers.one
numbers_at language Two = language.numbers.two
numbers_at language Few = language.numbers.few
numbers_at language Many = language.numbers.many
numbers_at language Other = language.other

abbrev pub is_in_set : CategorySet → PluralCategory → Bool
is_in_set set Zero = set.zero
is_in_set set One = set.one
is_in_set set Two = set.two
is_in_set set Few = set.few
is_in_set set Many = set.many
is_in_set set Other = true

-- without samples
abbrev pub numbers_view : LanguageNumbers → Language
numbers_view language = record {
  has = is_in_set language.categories;
  numbers = λ category own_zero own_one. chosen_of (numbers_at language category) own_zero own_one;
  samples = λ category. no_samples;
}

abbrev pub samples_at : CodeLanguage → PluralCategory → TwoSamples
samples_at language Zero = language.samples.zero
samples_at language One = language.samples.one
samples_at language Two = language.samples.two
samples_at language Few = language.samples.few
samples_at language Many = language.samples.many
samples_at language Other = language.samples_of_other

abbrev pub language_view : CodeLanguage → Language
language_view language = record {
  has = is_in_set language.numbers.categories;
  numbers = λ category own_zero own_one. chosen_of (numbers_at language.numbers category) own_zero own_one;
  samples = samples_at language;
}

-- ---- what was loaded for a locale is given, unless its language is unknown

-- the rules under the first key of a part, where that is of the language, or another part has one
abbrev pub GivesKnown : (Part → List (List ℕ)) → (List ℕ → Option (List ℕ)) → List ℕ → List ℕ → FiveRules → Option FiveRules → Type 0
GivesKnown keys next locale key rules (Some given) =
    (given ≡ rules) × ((is_unknown locale key ≡ false) ⊎ IsKnownLanguage (keys Cardinal) (keys Ordinal) next locale)
GivesKnown keys next locale key rules None = IsUnknownLanguage (keys Cardinal) (keys Ordinal) next locale
