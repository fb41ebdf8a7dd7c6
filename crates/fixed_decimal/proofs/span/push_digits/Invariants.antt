use Rattle.std.proofs.Common.{◌≡◌, ◌+◌, ◌++◌, take}
use Rattle.smallvec.specs.SmallVec.{small_vec_len}
use Rattle.fixed_decimal.specs.Inner.TextParts.{digits_in}
use Rattle.fixed_decimal.proofs.span.push_digits.Given as goal

abbrev pub invariant-loop-byte : goal.invariant-loop-byte
invariant-loop-byte l =
    (l.digits.items ≡ l.fn.digits.items ++ digits_in (take l.byte-index l.text))
    × (small_vec_len l.digits ≡ small_vec_len l.fn.digits + l.byte-index)
    × (l.digits.capacity ≡ l.fn.digits.capacity)
