use Rattle.std.proofs.Common.{◌≡◌, length}
use Rattle.fixed_decimal.specs.Digits.{value_of}
use Rattle.message_format.proofs.difference.is_above_zero.Given as goal

-- zeros alone were passed
abbrev pub invariant-zeros : goal.invariant-zeros
invariant-zeros l = value_of l.left ≡ value_of l.digits

abbrev pub decreases-zeros : goal.decreases-zeros
decreases-zeros l = length l.left
