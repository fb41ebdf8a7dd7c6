use Rattle.std.proofs.Common.{◌≡◌, Result, Ok, rules, subst}
use Rattle.icu_plurals.specs.declared.DecimalError.{DecimalError}
use Rattle.icu_plurals.specs.declared.PluralCategory.{PluralCategory}
use Rattle.icu_plurals.specs.DecimalChoice.{IsTextAnswer}
use Rattle.plural_checker.proofs.SampleLemmas.{has_category, has_other, no_number}
use Rattle.plural_checker.proofs.category_samples.sample_in.Goals as goal

pub returns-in_default-category_for_text : goal.returns-in_default-category_for_text
returns-in_default-category_for_text c =
    no_number c.args.rules.now c.args.category c.args.word.now c.in-Some.sample c.as_str.result.now c.in-Some.ensures.0 c.in-Some.ensures.1
    c.as_str.ensures c.category_for_text.result c.category_for_text.ensures c.in_default-category_for_text.not-Ok

pub returns-then-eq : goal.returns-then-eq
returns-then-eq c =
    let own : c.in-Ok.chosen ≡ c.args.category = search rules in
    let answers : IsTextAnswer c.args.rules.now c.as_str.result.now (Ok c.in-Ok.chosen) =
    subst (λ (answer : Result PluralCategory DecimalError). IsTextAnswer c.args.rules.now c.as_str.result.now answer) c.in-Ok.is
    c.category_for_text.ensures in
    has_category c.args.rules.now c.args.category c.args.word.now c.in-Some.sample c.as_str.result.now c.in-Some.ensures.0 c.in-Some.ensures.1
    c.as_str.ensures c.in-Ok.chosen answers own

pub returns-else-eq : goal.returns-else-eq
returns-else-eq c =
    let other : c.in-Ok.chosen ≡ c.args.category → ⊥ = search rules in
    let answers : IsTextAnswer c.args.rules.now c.as_str.result.now (Ok c.in-Ok.chosen) =
    subst (λ (answer : Result PluralCategory DecimalError). IsTextAnswer c.args.rules.now c.as_str.result.now answer) c.in-Ok.is
    c.category_for_text.ensures in
    has_other c.args.rules.now c.args.category c.args.word.now c.in-Some.sample c.as_str.result.now c.in-Some.ensures.0 c.in-Some.ensures.1
    c.as_str.ensures c.in-Ok.chosen answers other
