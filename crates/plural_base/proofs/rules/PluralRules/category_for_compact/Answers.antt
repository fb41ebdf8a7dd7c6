use Rattle.std.proofs.Common.{◌∙◌}
use Rattle.plural_reference.specs.ExactnessLaws.{IsKept}
use Rattle.plural_base.specs.FiveRules.{moduli_of}
use Rattle.plural_base.proofs.bound.ExactCategories.{first_category-exact}
use Rattle.plural_base.proofs.rules.PluralRules.category_for_compact.Goals as goal

pub returns-clause-exact : goal.returns-clause-exact
returns-clause-exact c = λ texts conditions exact given read within are_exact.
    let digits = c.args.number.now.significand.absolute in
    let exponent = c.args.number.now.exponent in
    let rules = c.args.self.now in
    let kept : IsKept digits exponent (moduli_of rules) c.from-operands.result exact =
    record { written = c.from-operands.ensures.1; within = within; are_kept = c.from-operands.ensures.0; are_exact = are_exact } in
    c.category_for.ensures.first
    ∙ first_category-exact c.kept_operands_agree.ensures.conditions c.texts_give_one_answer.ensures digits exponent c.from-operands.result
    exact
    texts conditions rules kept given read
