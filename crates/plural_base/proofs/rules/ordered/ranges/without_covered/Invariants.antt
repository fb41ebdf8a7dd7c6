use Rattle.plural_base.proofs.choice.OrderedLists.{IsKept}
use Rattle.plural_base.proofs.rules.ordered.ranges.without_covered.Given as goal

-- what is kept of the ranges so far
abbrev pub invariant-loop-range : goal.invariant-loop-range
invariant-loop-range l = IsKept l.ranges l.kept.items l.range-index
