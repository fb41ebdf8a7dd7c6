use Rattle.std.proofs.Common.{length, string_bytes}
use Rattle.icu_plurals.specs.FiveRules.{categories_of}
use Rattle.form_commands.proofs.FormLemmas.{Completes}
use Rattle.form_commands.proofs.list.push_forms.Given as goal

-- the lines of the categories that are left complete those of all
abbrev pub invariant-loop-category : goal.invariant-loop-category
invariant-loop-category l =
    Completes l.language (categories_of l.language.rules) l.categories (string_bytes l.initial.text) (string_bytes l.text)

abbrev pub decreases-loop-category : goal.decreases-loop-category
decreases-loop-category l = length l.categories
