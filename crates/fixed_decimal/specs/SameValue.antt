-- Numbers of the same value: `1.0` has that of `1`, and `1.2c3` that of `1200`.
--     digit_of x k      the digit at 10 to the power k: the exponent moves the point
--     HaveSameValue x y      the same digit at each power of ten, and the same side of 0
--     EqualsWritten x text      the text writes a number of the same value
use Rattle.std.specs.Prelude.{◌≡◌, ◌↔◌, ◌<◌, ℕ, List, ℤ, pos, ◌-ℤ◌}
use Rattle.fixed_decimal.specs.Places.{digit_at}
use Rattle.fixed_decimal.specs.Written.{CompactNumber, WritesCompact, IsCompactOverLimit}
use Rattle.fixed_decimal.specs.declared.sign.Sign.TheVariants.{Negative}

-- the digit at a power of ten, 0 outside the written places: the exponent moves the point
abbrev pub digit_of : CompactNumber → ℤ → ℕ
digit_of x k = digit_at x.significand.absolute (k -ℤ pos x.exponent)

-- the digits are the same at each power of ten
abbrev pub HaveSameDigits : CompactNumber → CompactNumber → Type 0
HaveSameDigits x y = (k : ℤ) → digit_of x k ≡ digit_of y k

-- the sign is a minus, and a digit isn't 0
abbrev pub IsBelowZero : CompactNumber → Type 0
IsBelowZero x = (x.significand.sign ≡ Negative) × (k : ℤ) × (0 < digit_at x.significand.absolute k)

-- the numbers have the same value
pub record HaveSameValue (x y : CompactNumber) : Type 0 where
  pub digits : HaveSameDigits x y
  pub signs : IsBelowZero x ↔ IsBelowZero y

-- the text writes a number, within the limits of numbers, of the same value
abbrev pub EqualsWritten : CompactNumber → List ℕ → Type 0
EqualsWritten x text = (y : CompactNumber) × WritesCompact text y × (IsCompactOverLimit y → ⊥) × HaveSameValue x y
