use Rattle.std.proofs.Common.{◌≡◌, flat_map}
use Rattle.std.specs.List.{list_all}
use Rattle.plural_base.specs.Inner.RulesSteps.{divides_ten_to_18}
use Rattle.plural_base.specs.FiveRules.{moduli_of_relation}
use Rattle.plural_base.proofs.exactness.moduli_divide.Given as goal

abbrev pub invariant-loop-item : goal.invariant-loop-item
invariant-loop-item l =
    (goal.iterator-loop-item).can_next l.item-iterator × (goal.iterator-loop-item).is_finite l.item-iterator
    × (list_all divides_ten_to_18 (flat_map moduli_of_relation l.rule) ≡ list_all divides_ten_to_18
    (flat_map moduli_of_relation l.item-iterator))
