use Rattle.std.proofs.Common.{◌≡◌, ℕ, List, Option, ap, subst, sym, ◌∙◌}
use Rattle.icu_plurals.specs.FiveRules.{FiveRules, rules_of}
use Rattle.icu_plurals.specs.declared.PluralCategory.{PluralCategory}
use Rattle.message_report.specs.FormFaults.{HasNumbersOf, IsLanguageOf}
use Rattle.message_report.specs.Inner.LanguageViews.{language_view, numbers_view}
use Rattle.message_report.specs.RulesSource.{HasText}
use Rattle.message_report.specs.declared.language.Language.{Language}
use Rattle.message_report.proofs.LanguageLemmas.{language_is}
use Rattle.message_report.proofs.language.Language.of.Goals as goal

pub returns : goal.returns
returns g c =
    let rules = c.from_data-rules.result in
    let IsText : PluralCategory → Option (List ℕ) → Type 0 =
    HasText (g.S.RulesOfLocales.source c.args.source.now) c.args.rule_type c.args.locale.now in
    let language : Language = record {
      numbers = c.of-numbers.result;
      samples = record {
        zero = c.samples_of.result;
        one = c.samples_of-2.result;
        two = c.samples_of-3.result;
        few = c.samples_of-4.result;
        many = c.samples_of-5.result;
      };
      samples_of_other = c.samples_of-6.result;
    } in
    let same : rules ≡ rules_of c.args.given.now = c.from_data-rules.ensures ∙ ap rules_of c.as_borrowed.ensures in
    let known : HasNumbersOf rules (numbers_view language.numbers) =
    subst (λ (r : FiveRules). HasNumbersOf r (numbers_view language.numbers)) (sym same) c.of-numbers.ensures in
    subst (λ (r : FiveRules). IsLanguageOf r IsText (language_view language)) same
    (language_is rules IsText language known c.samples_of.ensures c.samples_of-2.ensures c.samples_of-3.ensures c.samples_of-4.ensures
    c.samples_of-5.ensures c.samples_of-6.ensures)
