use Rattle.std.proofs.Common.{◌≡◌, ◌≤◌, length}
use Rattle.fixed_decimal.specs.Digits.{AreDigits, value_of}
use Rattle.message_format.proofs.difference.without_zeros.Given as goal

-- zeros alone were passed
abbrev pub invariant-zeros : goal.invariant-zeros
invariant-zeros l = record {
  value : value_of l.left ≡ value_of l.digits;
  digits : AreDigits l.left;
  least : l.least ≤ length l.left;
}

abbrev pub decreases-zeros : goal.decreases-zeros
decreases-zeros l = length l.left
