use Rattle.std.proofs.Common.{◌≡◌, ◌<◌, ◌≤◌, ℕ, length, get_or}
use Rattle.fixed_decimal.proofs.rounding.end_before.Given as goal

abbrev pub invariant-loop-end : goal.invariant-loop-end
invariant-loop-end l = (l.end ≤ length l.digits) × ((k : ℕ) → l.end ≤ k → k < length l.digits → get_or l.digits k 0 ≡ l.digit)

abbrev pub decreases-loop-end : goal.decreases-loop-end
decreases-loop-end l = l.end
