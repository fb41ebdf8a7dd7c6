use Rattle.std.proofs.Common.{◌-◌, ◌≤◌, length}
use Rattle.fixed_decimal.specs.Inner.TextParts.{AreZeroBytes}
use Rattle.fixed_decimal.proofs.span.zeros_at_front.Given as goal

abbrev pub invariant-loop-at : goal.invariant-loop-at
invariant-loop-at l = (l.at ≤ length l.text) × AreZeroBytes l.text 0 l.at

abbrev pub decreases-loop-at : goal.decreases-loop-at
decreases-loop-at l = length l.text - l.at
