use Rattle.std.proofs.Common.{length}
use Rattle.std.specs.Prelude.{Contains}
use Rattle.plural_base.specs.FiveRules.{categories_of}
use Rattle.number_categories.proofs.sought.has_category.Given as goal

-- the category is among those that are left, if rules have it
abbrev pub invariant-loop-own : goal.invariant-loop-own
invariant-loop-own l = Contains (categories_of l.rules) l.category → Contains l.left l.category

abbrev pub decreases-loop-own : goal.decreases-loop-own
decreases-loop-own l = length l.left
