use Rattle.std.proofs.Common.{◌∙◌}
use Rattle.plural_reference.specs.ExactnessLaws.{IsKept}
use Rattle.plural_base.specs.FiveRules.{moduli_of}
use Rattle.plural_base.proofs.bound.ExactCategories.{first_category-exact}
use Rattle.plural_base.proofs.rules.PluralRules.category_for_decimal.Goals as goal

pub returns-clause-exact : goal.returns-clause-exact
returns-clause-exact c = λ texts conditions exact given read within are_exact.
    let digits = c.args.number.now.absolute in
    let rules = c.args.self.now in
    let kept : IsKept digits 0 (moduli_of rules) c.from.result exact =
    record { written = c.from.ensures.1; within = within; are_kept = c.from.ensures.0; are_exact = are_exact } in
    c.category_for.ensures.first
    ∙ first_category-exact c.kept_operands_agree.ensures.conditions c.texts_give_one_answer.ensures digits 0 c.from.result exact
    texts conditions rules kept given read
