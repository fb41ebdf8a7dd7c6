use Rattle.std.proofs.Common.{◌≤◌, length}
use Rattle.fixed_decimal.specs.Inner.TextParts.{AreZeroBytes}
use Rattle.fixed_decimal.proofs.span.end_before_last_zeros.Given as goal

abbrev pub invariant-loop-end : goal.invariant-loop-end
invariant-loop-end l = (l.end ≤ length l.text) × AreZeroBytes l.text l.end (length l.text)

abbrev pub decreases-loop-end : goal.decreases-loop-end
decreases-loop-end l = l.end
