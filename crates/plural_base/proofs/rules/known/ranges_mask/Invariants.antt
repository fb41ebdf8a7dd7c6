use Rattle.std.proofs.Common.{ℕ, ◌≡◌, ◌<◌, take}
use Rattle.plural_reference.specs.Truth.{is_in_ranges}
use Rattle.plural_runtime.specs.Inner.RuleViews.{lent_relation}
use Rattle.plural_base.specs.Inner.Masks.{has_bit}
use Rattle.plural_base.proofs.rules.known.ranges_mask.Given as goal

abbrev pub invariant-loop-place : goal.invariant-loop-place
invariant-loop-place l =
    (k : ℕ) → k < 128 → has_bit l.mask k ≡ is_in_ranges (take l.place (lent_relation l.relation).meaning.ranges) k
