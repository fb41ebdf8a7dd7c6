use Rattle.std.proofs.Common.{◌≡◌, ap, subst, sym, ◌∙◌}
use Rattle.icu_plurals.specs.FiveRules.{FiveRules, first_category, rules_of}
use Rattle.icu_plurals.specs.Operands.{of_whole}
use Rattle.icu_plurals.specs.PackedTruth.{packed_truth}
use Rattle.icu_plurals.specs.declared.PluralCategory.TheVariants.{Zero, One, Two, Few, Many, Other}
use Rattle.plural_checker.specs.LanguageTexts.{categories_with_rule}
use Rattle.message_report.specs.FormFaults.{HasNumbersOf}
use Rattle.message_report.specs.Inner.LanguageViews.{numbers_view}
use Rattle.message_report.specs.declared.language_numbers.LanguageNumbers.{LanguageNumbers}
use Rattle.message_report.proofs.LanguageLemmas.{numbers_are, numbers_known}
use Rattle.message_report.proofs.language_numbers.LanguageNumbers.of.Goals as goal

pub returns : goal.returns
returns c =
    let rules = c.from_data-rules.result in
    let set = c.of_rules-categories.result in
    let least = c.two_least_of_each-least.result in
    let zero = c.category_for-of_zero.result in
    let one = c.category_for-of_one.result in
    let language : LanguageNumbers = record {
      categories = set;
      numbers = record {
        zero = c.numbers_of.result;
        one = c.numbers_of-2.result;
        two = c.numbers_of-3.result;
        few = c.numbers_of-4.result;
        many = c.numbers_of-5.result;
      };
      other = c.numbers_of-6.result;
    } in
    let same : rules ≡ rules_of c.args.given.now = c.from_data-rules.ensures ∙ ap rules_of c.as_borrowed.ensures in
    let of_zero : zero ≡ first_category (packed_truth (of_whole 0)) rules = cc in
    let of_one : one ≡ first_category (packed_truth (of_whole 1)) rules = cc in
    let found = c.two_least_of_each-least.ensures in
    subst (λ (rules : FiveRules). HasNumbersOf rules (numbers_view language)) same
    (numbers_known rules language (c.of_rules-categories.ensures ∙ ap categories_with_rule (sym same))
    (numbers_are rules Zero zero one least c.numbers_of.result of_zero of_one found
    c.numbers_of.ensures.zero c.numbers_of.ensures.one c.numbers_of.ensures.from_two)
    (numbers_are rules One zero one least c.numbers_of-2.result of_zero of_one found
    c.numbers_of-2.ensures.zero c.numbers_of-2.ensures.one c.numbers_of-2.ensures.from_two)
    (numbers_are rules Two zero one least c.numbers_of-3.result of_zero of_one found
    c.numbers_of-3.ensures.zero c.numbers_of-3.ensures.one c.numbers_of-3.ensures.from_two)
    (numbers_are rules Few zero one least c.numbers_of-4.result of_zero of_one found
    c.numbers_of-4.ensures.zero c.numbers_of-4.ensures.one c.numbers_of-4.ensures.from_two)
    (numbers_are rules Many zero one least c.numbers_of-5.result of_zero of_one found
    c.numbers_of-5.ensures.zero c.numbers_of-5.ensures.one c.numbers_of-5.ensures.from_two)
    (numbers_are rules Other zero one least c.numbers_of-6.result of_zero of_one found
    c.numbers_of-6.ensures.zero c.numbers_of-6.ensures.one c.numbers_of-6.ensures.from_two))
