-- Digits of two numbers in columns, for private contracts.
use Rattle.std.specs.Prelude.{◌≡◌, ℕ, ◌+◌, ◌-◌, ◌*◌, ◌^◌, ◌≤◌, max, pos, ◌-ℤ◌, Bool, true, false, List, ◌++◌, length, take, drop, replicate}
use Rattle.fixed_decimal.specs.Digits.{AreDigits, value_of}
use Rattle.fixed_decimal.specs.Places.{Places}
use Rattle.fixed_decimal.specs.declared.decimal.Decimal.{Decimal}
use Rattle.fixed_decimal.specs.declared.sign.Sign.{Sign}
use Rattle.fixed_decimal.specs.declared.sign.Sign.TheVariants as sign
use Rattle.message_format.specs.declared.difference.Aligned.{Aligned}
use Rattle.message_format.specs.FormatOffsets.{units, signed}

-- zeros, and the digits behind them
abbrev pub behind_zeros : Aligned → List ℕ
behind_zeros a = replicate a.before 0 ++ (a.number.now.whole ++ a.number.now.fraction)

-- and zeros behind these, up to a count of columns
abbrev pub lined : ℕ → Aligned → List ℕ
lined columns a = behind_zeros a ++ replicate (columns - length (behind_zeros a)) 0

-- digits of a difference in as many columns, and what is borrowed before the first
pub record IsBorrowed (high low ds : List ℕ) (borrow : ℕ) : Type 0 where
  pub value : value_of ds + value_of low ≡ value_of high + borrow * 10 ^ length ds
  pub digits : AreDigits ds
  pub upper : length ds ≡ length high
  pub lower : length ds ≡ length low
  pub most : borrow ≤ 1

-- digits of a sum, and what is carried before the first
pub record IsCarried (first second ds : List ℕ) (carry : ℕ) : Type 0 where
  pub value : value_of ds + carry * 10 ^ length ds ≡ value_of first + value_of second
  pub digits : AreDigits ds
  pub upper : length ds ≡ length first
  pub lower : length ds ≡ length second
  pub most : carry ≤ 1

-- digits of a sum, one more
pub record IsSum (first second ds : List ℕ) : Type 0 where
  pub value : value_of ds ≡ value_of first + value_of second
  pub digits : AreDigits ds
  pub places : length ds ≡ length first + 1

-- a minus, or no sign
abbrev pub sign_when : Bool → Sign
sign_when true = sign.Negative
sign_when false = sign.None

-- the count of fraction digits of a difference
abbrev pub most_fraction : Decimal → Places → ℕ
most_fraction x o = max (length x.absolute.fraction) (length o.fraction)

-- the digits of the absolute value of a difference
pub record IsDistance (x : Decimal) (o : Places) (below : Bool) (ds : List ℕ) : Type 0 where
  pub value : signed (sign_when below) (value_of ds)
      ≡ signed x.sign (units (most_fraction x o) x.absolute) -ℤ pos (units (most_fraction x o) o)
  pub digits : AreDigits ds
  pub places : most_fraction x o + 1 ≤ length ds

-- the number with these digits, of which the last are those of the fraction
abbrev pub decimal_of_digits : Bool → ℕ → List ℕ → Decimal
decimal_of_digits negative fraction ds = record {
  sign = sign_when negative;
  absolute = record { whole = take (length ds - fraction) ds; fraction = drop (length ds - fraction) ds };
}
