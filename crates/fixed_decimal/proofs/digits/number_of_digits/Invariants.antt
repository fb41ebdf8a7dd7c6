use Rattle.std.proofs.Common.{◌≡◌, take}
use Rattle.fixed_decimal.specs.Digits.{value_of}
use Rattle.fixed_decimal.proofs.digits.number_of_digits.Given as goal

abbrev pub invariant-loop-digit : goal.invariant-loop-digit
invariant-loop-digit l = l.number ≡ value_of (take l.digit-index l.digits)
