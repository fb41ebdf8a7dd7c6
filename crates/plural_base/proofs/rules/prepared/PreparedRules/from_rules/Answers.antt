use Rattle.std.proofs.Common.{◌∙◌, ap, subst}
use Rattle.std.specs.Prelude.{None, slice_index_or}
use Rattle.plural_base.specs.FiveRules.{FiveRules}
use Rattle.plural_base.specs.Inner.FractionClasses.{AreAllFractionsTold}
use Rattle.plural_base.specs.Inner.WholeNumbers.{AreAllTold}
use Rattle.plural_base.specs.ToldCategories.{ends_of_rules, first_above}
use Rattle.plural_base.proofs.integers.Guesses.{all_are_told, fractions_are_told}
use Rattle.plural_base.proofs.rules.prepared.PreparedRules.from_rules.Goals as goal

pub invariant_of-result : goal.invariant_of-result
invariant_of-result c =
    let bound = c.bound_of-bound.result in
    let cycle = c.cycle_categories-cycle.result in
    let fractions = c.fraction_categories.result in
    let P : FiveRules → Type 0 = λ rules. AreAllTold rules bound cycle in
    let Q : FiveRules → Type 0 = λ rules.
    AreAllFractionsTold rules (slice_index_or fractions 0 None) (slice_index_or fractions 1 None) in
    let told = subst P c.rules.view_is c.cycle_categories-cycle.ensures in
    let of_fractions = subst Q c.rules.view_is c.fraction_categories.ensures in (
      c.low_categories-low.ensures,
      all_are_told _ bound cycle told,
      fractions_are_told _ _ _ of_fractions,
      c.bound_of-bound.ensures ∙ ap (λ rules. first_above (ends_of_rules rules)) c.rules.view_is,
      told,
      of_fractions,
    )
