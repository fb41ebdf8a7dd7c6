use Rattle.std.proofs.Common.{◌≡◌, ℕ, ◌<◌, ◌≤◌, ◌-◌, ◌%◌, false}
use Rattle.plural_base.specs.Inner.Masks.{has_bit}
use Rattle.plural_base.proofs.rules.masks.repeated.Given as goal

-- Below the width the mask is repeated, and from there on there is nothing.
abbrev pub invariant-loop-width : goal.invariant-loop-width
invariant-loop-width l =
    (0 < l.width) × (l.width % l.modulus ≡ 0)
    × ((k : ℕ) → k < 128 → k < l.width → has_bit l.found k ≡ has_bit l.mask (k % l.modulus))
    × ((k : ℕ) → k < 128 → l.width ≤ k → has_bit l.found k ≡ false)

abbrev pub decreases-loop-width : goal.decreases-loop-width
decreases-loop-width l = 128 - l.width
