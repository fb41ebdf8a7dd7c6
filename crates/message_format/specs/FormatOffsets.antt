-- A number less an offset, as it is written: `1.50` less `1` is `0.50`, and `0` less `2` is `-2`.
use Rattle.std.specs.Prelude.{◌≡◌, ℕ, ◌-◌, ◌<◌, max, ℤ, pos, neg_ℤ, ◌-ℤ◌, [], ◌∷◌, ◌++◌, length, replicate, slice_index}
use Rattle.fixed_decimal.specs.Digits.{value_of}
use Rattle.fixed_decimal.specs.Places.{Places, IsWritten}
use Rattle.fixed_decimal.specs.Written.{CompactNumber}
use Rattle.fixed_decimal.specs.declared.decimal.Decimal.{Decimal}
use Rattle.fixed_decimal.specs.declared.sign.Sign.{Sign}
use Rattle.fixed_decimal.specs.declared.sign.Sign.TheVariants as sign

-- The number in units of the last of this many fraction places: `1.5` is 150 hundredths.
abbrev pub units : ℕ → Places → ℕ
units places x = value_of (x.whole ++ x.fraction ++ replicate (places - length x.fraction) 0)

-- with the sign
abbrev pub signed : Sign → ℕ → ℤ
signed sign.None n = pos n
signed sign.Negative n = neg_ℤ (pos n)
signed sign.Positive n = pos n

-- the sign that is written before a number: a minus below 0, else none
abbrev pub IsSignOf : Sign → ℕ → Type 0
IsSignOf sign.None n = Unit {0}
IsSignOf sign.Negative n = 0 < n
IsSignOf sign.Positive n = ⊥

-- The number with the value of x less o, with as many fraction digits as the one of them that has
-- more, and without a 0 before other integer digits.
pub record IsDifference (x : Decimal) (o : Places) (d : Decimal) : Type 0 where
  pub written : IsWritten d.absolute
  pub places : length d.absolute.fraction ≡ max (length x.absolute.fraction) (length o.fraction)
  pub value : signed d.sign (units (length d.absolute.fraction) d.absolute)
      ≡ signed x.sign (units (length d.absolute.fraction) x.absolute) -ℤ pos (units (length d.absolute.fraction) o)
  pub sign : IsSignOf d.sign (units (length d.absolute.fraction) d.absolute)
  pub shortest : slice_index d.absolute.whole 0 ≡ 0 → d.absolute.whole ≡ 0 ∷ []

-- a decimal without an exponent
abbrev pub plain : Decimal → CompactNumber
plain d = record { significand = d; exponent = 0 }
