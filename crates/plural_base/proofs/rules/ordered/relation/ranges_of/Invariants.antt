use Rattle.std.proofs.Common.{◌≡◌, take}
use Rattle.plural_runtime.specs.Inner.RuleViews.{lent_relation}
use Rattle.plural_base.proofs.rules.ordered.relation.ranges_of.Given as goal

-- the ranges so far
abbrev pub invariant-loop-index : goal.invariant-loop-index
invariant-loop-index l = l.ranges.items ≡ take l.index (lent_relation l.relation).meaning.ranges
