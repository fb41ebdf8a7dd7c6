use Rattle.std.proofs.Common.{refl, ◌∙◌}
use Rattle.std.specs.Prelude.{unwrap_or}
use Rattle.plural_reference.specs.ExactnessLaws.{IsKept}
use Rattle.plural_base.specs.FiveRules.{moduli_of}
use Rattle.icu_plurals.specs.Elements.{of_category}
use Rattle.icu_plurals.proofs.ExplicitNumbers.{explicit_at-exact}
use Rattle.icu_plurals.proofs.laws.kept_element_is_exact.Goals as goal

pub returns : goal.returns
returns c = λ elements rules x exponent value written choice texts conditions exact given read within are_exact.
    let kept : IsKept x exponent (moduli_of rules) choice.0 exact =
    record { written = written; within = within; are_kept = choice.1; are_exact = are_exact } in
    let explicit = explicit_at-exact c.kept_operands_agree.ensures.relations x exponent (moduli_of rules) choice.0 exact kept elements in
    let category = c.kept_choice_is_exact.ensures rules x exponent _ written (choice.0, choice.1, refl) texts conditions exact
    given read within are_exact in
    choice.2 ∙ (λ k. unwrap_or (explicit k) (of_category elements (category k)))
