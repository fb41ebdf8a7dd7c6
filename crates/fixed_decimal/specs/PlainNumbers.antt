-- Numbers that are written plainly: by digits, and a point and digits if there is a fraction.
--     IsPlain text x      the text writes the number x so
--     IsPlainInteger text      it writes a plain number without a fraction
use Rattle.std.specs.Prelude.{◌≡◌, ℕ, List, [], length, slice_index}
use Rattle.fixed_decimal.specs.Places.{IsWritten}
use Rattle.fixed_decimal.specs.Shown.{unsigned_text}
use Rattle.fixed_decimal.specs.Written.{CompactNumber}
use Rattle.fixed_decimal.specs.declared.sign.Sign.TheVariants as sign

-- no sign, no exponent, and 0 is the first of the integer digits only if it is the only one
pub record IsPlain (text : List ℕ) (x : CompactNumber) : Type 0 where
  pub digits : IsWritten x.significand.absolute
  pub no_sign : x.significand.sign ≡ sign.None
  pub no_leading_zero : slice_index x.significand.absolute.whole 0 ≡ 0 → length x.significand.absolute.whole ≡ 1
  pub no_exponent : x.exponent ≡ 0
  pub form : text ≡ unsigned_text x.significand.absolute

-- such a number without a fraction
abbrev pub IsPlainInteger : List ℕ → Type 0
IsPlainInteger text = (x : CompactNumber) × IsPlain text x × (x.significand.absolute.fraction ≡ [])
