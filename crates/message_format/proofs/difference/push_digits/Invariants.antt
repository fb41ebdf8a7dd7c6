use Rattle.std.proofs.Common.{◌≡◌, ◌++◌, length}
use Rattle.fixed_decimal.specs.Digits.{AreDigits, text_of}
use Rattle.message_format.proofs.difference.push_digits.Given as goal

-- the text so far and that of the digits that are left
abbrev pub invariant-digits : goal.invariant-digits
invariant-digits l = record {
  text : l.text.items ++ text_of l.left ≡ l.initial.text.items ++ text_of l.digits;
  digits : AreDigits l.left;
}

abbrev pub decreases-digits : goal.decreases-digits
decreases-digits l = length l.left
