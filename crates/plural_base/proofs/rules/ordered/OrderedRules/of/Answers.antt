use Rattle.std.proofs.Common.{◌∙◌, subst, sym}
use Rattle.plural_base.specs.FiveRules.{FiveRules}
use Rattle.plural_base.specs.Inner.OrderedRules.{ChooseSame}
use Rattle.plural_base.proofs.choice.OrderedTruth.{like_choice}
use Rattle.plural_base.proofs.rules.ordered.OrderedRules.of.Goals as goal

pub invariant_of-result : goal.invariant_of-result
invariant_of-result c =
    subst (λ (five : FiveRules). ChooseSame c.in_ok-ordered.ordered five) (c.rules.view_is ∙ sym c.taken.ensures)
    (like_choice c.in_ok-ordered.ordered _ c.in_ok-ordered.ensures)
