use Rattle.icu_plurals.specs.FiveRules.{categories_of}
use Rattle.form_commands.proofs.GettextLemmas.{forms_begin, forms_end, forms_go_on}
use Rattle.form_commands.proofs.gettext.forms_of.Goals as goal

pub loop-category-init : goal.loop-category-init
loop-category-init c =
    forms_begin c.args.rules.now (categories_of c.args.rules.now) c.categories-categories.result c.new-forms.result.items
    c.categories-categories.ensures.there c.new-forms.ensures.items

pub loop-category-preserved : goal.loop-category-preserved
loop-category-preserved c =
    forms_go_on c.args.rules.now c.in-Some.category (categories_of c.args.rules.now) c.loop-category.categories c.next.new.self
    c.loop-category.forms.items c.push_form.new.forms.items c.in-Some.ensures.steps c.loop-category.invariant c.in_ok-push_form.ensures

pub returns : goal.returns
returns c =
    forms_end c.args.rules.now (categories_of c.args.rules.now) c.loop-category.categories c.loop-category.forms.items
    c.in_default.ensures.steps.0 c.loop-category.invariant
