use Rattle.std.proofs.Common.{◌≡◌, ◌-◌, ◌*◌, ◌^◌, ◌≤◌}
use Rattle.plural_checker.proofs.short_number.without_zeros.Given as goal

-- what is left and its zeros write the same number
abbrev pub invariant-loop-left : goal.invariant-loop-left
invariant-loop-left l = (l.left ≤ l.shown) × (l.written ≡ l.rest * 10 ^ (l.shown - l.left))

abbrev pub decreases-loop-left : goal.decreases-loop-left
decreases-loop-left l = l.left
