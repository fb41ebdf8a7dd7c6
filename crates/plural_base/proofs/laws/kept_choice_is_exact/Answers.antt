use Rattle.std.proofs.Common.{◌∙◌}
use Rattle.plural_reference.specs.ExactnessLaws.{IsKept}
use Rattle.plural_base.specs.FiveRules.{moduli_of}
use Rattle.plural_base.proofs.bound.ExactCategories.{first_category-exact}
use Rattle.plural_base.proofs.laws.kept_choice_is_exact.Goals as goal

pub returns : goal.returns
returns c = λ rules x exponent category written choice texts conditions exact given read within are_exact.
    let kept : IsKept x exponent (moduli_of rules) choice.0 exact =
    record { written = written; within = within; are_kept = choice.1; are_exact = are_exact } in
    choice.2
    ∙ first_category-exact c.kept_operands_agree.ensures.conditions c.texts_give_one_answer.ensures x exponent choice.0 exact texts
    conditions rules kept given read
