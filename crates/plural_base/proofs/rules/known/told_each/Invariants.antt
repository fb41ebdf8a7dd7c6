use Rattle.std.proofs.Common.{ℕ, ◌<◌, take, false, true}
use Rattle.std.specs.List.{list_any}
use Rattle.plural_runtime.specs.Inner.RuleViews.{lent_relation}
use Rattle.plural_base.specs.Inner.Masks.{IsToldAt}
use Rattle.plural_base.specs.Inner.WholeNumbers.{Fits, range_or}
use Rattle.plural_base.proofs.rules.known.told_each.Given as goal

abbrev pub invariant-loop-k : goal.invariant-loop-k
invariant-loop-k l =
    (class value : ℕ) → class < 128 → Fits l.known class value
    → IsToldAt class (list_any (range_or false l.known class value) (take l.k (lent_relation l.relation).meaning.ranges))
    (list_any (range_or true l.known class value) (take l.k (lent_relation l.relation).meaning.ranges)) l.told
