use Rattle.std.proofs.Common.{◌≡◌, ◌++◌, map}
use Rattle.plural_operands.specs.Operands.{Operands}
use Rattle.plural_base.specs.Inner.OrderedRules.{told_at}
use Rattle.plural_base.proofs.rules.ordered.rule.OrderedRule.of.Given as goal

-- the relations so far are like those of the rule, and the others remain
abbrev pub invariant-loop-item : goal.invariant-loop-item
invariant-loop-item l =
    (goal.iterator-loop-item).can_next l.item-iterator × (goal.iterator-loop-item).is_finite l.item-iterator
    × ((o : Operands) → map (told_at o) l.rule ≡ map (told_at o) l.relations.items ++ map (told_at o) l.item-iterator)
