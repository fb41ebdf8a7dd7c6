use Rattle.std.specs.Prelude.{◌≡◌, ◌≤◌, ◌-◌, IsSome, Some}
use Rattle.plural_base.specs.declared.category.PluralCategory.{PluralCategory}
use Rattle.number_categories.specs.WholeNumbers.{least_at}
use Rattle.number_categories.specs.Inner.SoughtNumbers.{AreSeenBelow}
use Rattle.number_categories.proofs.number_walk.see_each.Given as goal

-- the numbers before this one are seen; the category that is passed over has two
abbrev pub invariant-loop-number : goal.invariant-loop-number
invariant-loop-number l = record {
  seen : AreSeenBelow l.initial.asked l.sought.start l.number l.seen;
  two : (c : PluralCategory) → l.common ≡ Some c → IsSome (least_at l.seen c).second;
  same : l.asked ≡ l.initial.asked;
  from : l.start ≤ l.number;
  within : l.number ≤ l.end;
}

abbrev pub decreases-loop-number : goal.decreases-loop-number
decreases-loop-number l = l.end - l.number
