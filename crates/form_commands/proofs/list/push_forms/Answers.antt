use Rattle.std.proofs.Common.{List, string_bytes, subst, sym}
use Rattle.icu_plurals.specs.declared.PluralCategory.{PluralCategory}
use Rattle.icu_plurals.specs.FiveRules.{categories_of}
use Rattle.form_commands.proofs.FormLemmas.{Completes, all_grown, none_yet, one_more}
use Rattle.form_commands.proofs.list.push_forms.Goals as goal

pub loop-category-init : goal.loop-category-init
loop-category-init c =
    let all = categories_of c.args.language.now.rules in
    let text = string_bytes c.args.text.now in
    subst (λ (cs : List PluralCategory). Completes c.args.language.now all cs text text) (sym c.categories-categories.ensures.there)
    (none_yet c.args.language.now all text)

pub loop-category-preserved : goal.loop-category-preserved
loop-category-preserved c =
    one_more c.args.language.now c.in-Some.category (categories_of c.args.language.now.rules) c.loop-category.categories c.next.new.self
    (string_bytes c.args.text.now) (string_bytes c.loop-category.text) (string_bytes c.push_form.new.text)
    c.in-Some.ensures.steps c.loop-category.invariant c.in_ok-push_form.ensures

pub returns : goal.returns
returns c =
    all_grown c.args.language.now (categories_of c.args.language.now.rules) c.loop-category.categories
    (string_bytes c.args.text.now) (string_bytes c.loop-category.text) c.in_default.ensures.steps.0
    c.loop-category.invariant
