use Rattle.std.proofs.Common.{length}
use Rattle.icu_plurals.specs.FiveRules.{categories_of}
use Rattle.form_commands.proofs.GettextLemmas.{FormsLeft}
use Rattle.form_commands.proofs.gettext.forms_of.Given as goal

-- the forms of the categories that are left complete those so far
abbrev pub invariant-loop-category : goal.invariant-loop-category
invariant-loop-category l = FormsLeft l.rules l.categories (categories_of l.rules) l.forms.items

abbrev pub decreases-loop-category : goal.decreases-loop-category
decreases-loop-category l = length l.categories
