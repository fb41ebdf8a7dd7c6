use Rattle.std.proofs.Common.{◌≡◌, take}
use Rattle.fixed_decimal.specs.Digits.{value_of}
use Rattle.fixed_decimal.specs.Inner.TextParts.{digits_in}
use Rattle.fixed_decimal.proofs.exponent.value_of_digits.Given as goal

abbrev pub invariant-loop-byte : goal.invariant-loop-byte
invariant-loop-byte l = l.value ≡ value_of (digits_in (take l.byte-index l.digits))
