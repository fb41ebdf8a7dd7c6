-- A language of the code is that of its rules.
use Rattle.std.proofs.Common.{◌≡◌, ◌↔◌, ℕ, Bool, false, List, Option, refl, sym, ap, subst, ◌∙◌}
use Rattle.std.specs.Prelude.{IsTrue}
use Rattle.icu_plurals.specs.declared.PluralCategory.{PluralCategory}
use Rattle.icu_plurals.specs.declared.PluralCategory.TheVariants.{Zero, One, Two, Few, Many, Other}
use Rattle.icu_plurals.specs.FiveRules.{FiveRules, first_category}
use Rattle.icu_plurals.specs.Operands.{of_whole}
use Rattle.icu_plurals.specs.PackedTruth.{packed_truth}
use Rattle.plural_checker.specs.LanguageTexts.{categories_with_rule}
use Rattle.plural_checker.specs.declared.coverage.CategorySet.{CategorySet}
use Rattle.number_categories.specs.declared.least_numbers.LeastNumbers.{LeastNumbers}
use Rattle.number_categories.specs.WholeNumbers.{AreTwoLeastFrom, AreTwoLeastOf, AreTwoLeastOfEach, least_at}
use Rattle.message_report.specs.MessageForms.{Chooses}
use Rattle.message_report.specs.FormFaults.{has_category_rule, AreRareSamples, HasNumbersOf, IsLanguageOf}
use Rattle.message_report.specs.Inner.KnownNumbers.{AreNumbersOf, chosen_of}
use Rattle.message_report.specs.Inner.LanguageViews.{is_in_set, language_view, numbers_at, numbers_view, samples_at}
use Rattle.message_report.specs.declared.category_numbers.CategoryNumbers.{CategoryNumbers}
use Rattle.message_report.specs.declared.language.Language.{Language}
use Rattle.message_report.specs.declared.language_numbers.LanguageNumbers.{LanguageNumbers}
use Rattle.message_report.specs.declared.rare_samples.TwoSamples.{TwoSamples}
use Rattle.message_report.proofs.ChosenLemmas.{are_two_least}

-- what is known of a category's numbers, given the categories of 0 and of 1
pub numbers_are : (rules : FiveRules) (category first next : PluralCategory) (least : LeastNumbers)
    (numbers : CategoryNumbers) → first ≡ first_category (packed_truth (of_whole 0)) rules
    → next ≡ first_category (packed_truth (of_whole 1)) rules → AreTwoLeastOfEach rules 2 least
    → (IsTrue numbers.zero ↔ first ≡ category) → (IsTrue numbers.one ↔ next ≡ category)
    → numbers.from_two ≡ least_at least category → AreNumbersOf rules category numbers
numbers_are rules category first next least numbers zero one found is_zero is_one is_seen = record {
  zero = ((λ yes. sym zero ∙ is_zero.0 yes), (λ has. is_zero.1 (zero ∙ has)));
  one = ((λ yes. sym one ∙ is_one.0 yes), (λ has. is_one.1 (one ∙ has)));
  from_two = subst (AreTwoLeastFrom rules category 2) (sym is_seen) (found.at category);
}

-- its categories are those of the rules, and its numbers are known by the rules
pub numbers_known : (rules : FiveRules) (language : LanguageNumbers) → language.categories ≡ categories_with_rule rules
    → AreNumbersOf rules Zero language.numbers.zero → AreNumbersOf rules One language.numbers.one
    → AreNumbersOf rules Two language.numbers.two → AreNumbersOf rules Few language.numbers.few
    → AreNumbersOf rules Many language.numbers.many → AreNumbersOf rules Other language.other
    → HasNumbersOf rules (numbers_view language)
numbers_known rules language categories zero one two few many other = record {
  has = λ category. ap (λ (set : CategorySet). is_in_set set category) categories ∙ ruled category;
  numbers = at;
}
  where
    ruled : (category : PluralCategory) → is_in_set (categories_with_rule rules) category ≡ has_category_rule rules category
    ruled Zero = refl
    ruled One = refl
    ruled Two = refl
    ruled Few = refl
    ruled Many = refl
    ruled Other = refl

    known : (category : PluralCategory) → AreNumbersOf rules category (numbers_at language category)
    known Zero = zero
    known One = one
    known Two = two
    known Few = few
    known Many = many
    known Other = other

    at : (category : PluralCategory) → IsTrue (is_in_set language.categories category) → (own_zero own_one : Bool)
        → AreTwoLeastOf (Chooses rules category own_zero own_one) (chosen_of (numbers_at language category) own_zero own_one).first
        (chosen_of (numbers_at language category) own_zero own_one).second
    at category has own_zero own_one =
        are_two_least rules category own_zero own_one (numbers_at language category) (known category)

-- and its samples are those of the categories that no whole number has
module _ (rules : FiveRules) (IsText : PluralCategory → Option (List ℕ) → Type 0) (language : Language) where
  abbrev pub HasSamples : PluralCategory → TwoSamples → Type 0
  HasSamples category samples =
      IsTrue ((numbers_view language.numbers).has category)
      → AreRareSamples rules IsText category ((numbers_view language.numbers).numbers category false false).first samples

  pub language_is : HasNumbersOf rules (numbers_view language.numbers) → HasSamples Zero language.samples.zero
      → HasSamples One language.samples.one → HasSamples Two language.samples.two → HasSamples Few language.samples.few
      → HasSamples Many language.samples.many → HasSamples Other language.samples_of_other
      → IsLanguageOf rules IsText (language_view language)
  language_is known zero one two few many other = record {
    numbers = record { has = known.has; numbers = known.numbers };
    samples = at;
  }
    where
      at : (category : PluralCategory) → HasSamples category (samples_at language category)
      at Zero = zero
      at One = one
      at Two = two
      at Few = few
      at Many = many
      at Other = other
