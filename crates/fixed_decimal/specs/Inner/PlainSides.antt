-- Not a definition of the subject: the digits of a plain number as they stand in its text.
use Rattle.std.specs.Prelude.{◌≡◌, ◌<◌, ◌≤◌, ◌⊎◌, ℕ, Bool, List, [], ◌∷◌, nat_eq, length, slice_index}
use Rattle.fixed_decimal.specs.Places.{most_places}
use Rattle.fixed_decimal.specs.Written.{CompactNumber}
use Rattle.fixed_decimal.specs.Inner.TextParts.{IsDigitByte, AllDigitBytes, digits_in}
use Rattle.fixed_decimal.specs.declared.sign.Sign.TheVariants as sign

-- the byte is the digit 0
abbrev pub is_zero : ℕ → Bool
is_zero b = nat_eq b 48

-- there are bytes, and `0` is the first only if it is the only one
pub record IsShortest (text : List ℕ) : Type 0 where
  pub nonempty : 0 < length text
  pub shortest : slice_index text 0 ≡ 48 → length text ≡ 1

-- nothing, or a point, which is 46, and digits
abbrev pub IsFraction : List ℕ → List ℕ → Type 0
IsFraction text digits = ((digits ≡ []) × (text ≡ [])) ⊎ ((0 < length digits) × (text ≡ 46 ∷ digits))

-- no digit is at the front
abbrev pub EndsDigits : List ℕ → Type 0
EndsDigits text = 0 < length text → ¬ (IsDigitByte (slice_index text 0))

-- the digits before and behind the point
pub record AreSides (whole fraction : List ℕ) : Type 0 where
  pub whole_digits : AllDigitBytes whole
  pub fraction_digits : AllDigitBytes fraction
  pub shortest : IsShortest whole
  pub whole_within : length whole ≤ most_places
  pub fraction_within : length fraction ≤ most_places

-- the number that they write
abbrev pub plain_number : List ℕ → List ℕ → CompactNumber
plain_number whole fraction =
    record {
      significand = record { sign = sign.None; absolute = record { whole = digits_in whole; fraction = digits_in fraction } };
      exponent = 0;
    }
