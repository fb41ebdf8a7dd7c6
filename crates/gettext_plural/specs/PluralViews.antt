-- What a `PluralForms` says: the number of forms, and the tree of its expression.
use Rattle.std.specs.Prelude.{Result, Ok, Err}
use Rattle.gettext_plural.specs.declared.expression.Expression.{Expression}
use Rattle.gettext_plural.specs.declared.expression.Expression.TheVariants.{Number, N, Negated', Joined', Chosen'}
use Rattle.gettext_plural.specs.declared.error.PluralFormsError as error
use Rattle.gettext_plural.specs.declared.forms.PluralForms.{PluralForms}
use Rattle.gettext_plural.specs.PluralExpressions.{Formula, Forms, number, the_n, negated, joined, chosen}

abbrev pub formula_view : Expression → Formula
formula_view (Number k) = number k
formula_view N = the_n
formula_view (Negated' p a) = negated (formula_view a)
formula_view (Joined' o p a q b) = joined o (formula_view a) (formula_view b)
formula_view (Chosen' p a q b r c) = chosen (formula_view a) (formula_view b) (formula_view c)

abbrev pub forms_of : PluralForms → Forms
forms_of forms = record { count = forms.count; formula = formula_view forms.expression }

-- what is returned, as what it says
abbrev pub forms_read : Result PluralForms error.PluralFormsError → Result Forms error.PluralFormsError
forms_read (Ok forms) = Ok (forms_of forms)
forms_read (Err e) = Err e
