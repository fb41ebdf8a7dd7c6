-- Texts and the numbers that they write. A text is a list of bytes.
--     WritesUnsigned text x      digits, digits `.` digits, or `.` digits; with no digit before the
--         point, the integer digit is 0
--     WritesDecimal text x      an unsigned decimal, after a sign or none
--     WritesCompact text x      a decimal, then nothing, or `c` and one to three digits
use Rattle.std.specs.Prelude.{ℕ, ◌≡◌, ◌<◌, ◌≤◌, ◌⊎◌, List, [], ◌∷◌, ◌++◌, length, codes}
use Rattle.fixed_decimal.specs.declared.decimal.Decimal.{Decimal}
use Rattle.fixed_decimal.specs.Digits.{AreDigits, value_of, text_of}
use Rattle.fixed_decimal.specs.Places.{Places, IsWritten, IsOverLimit}
use Rattle.fixed_decimal.specs.declared.sign.Sign.{Sign}
use Rattle.fixed_decimal.specs.declared.sign.Sign.TheVariants as sign
use Rattle.fixed_decimal.specs.declared.error.DecimalError.{DecimalError}
use Rattle.fixed_decimal.specs.declared.error.DecimalError.TheVariants.{Syntax, Limit, Memory}

-- the decimal before the letter, and the exponent after it
pub record CompactNumber : Type 0 where
  pub significand : Decimal
  pub exponent : ℕ

-- ---- Texts

-- the three forms of the digits
abbrev pub StandsAs : List ℕ → Places → Type 0
StandsAs text x =
    ((x.fraction ≡ []) × (text ≡ text_of x.whole))
    ⊎ ((0 < length x.fraction) × (text ≡ text_of x.whole ++ codes "." ++ text_of x.fraction))
    ⊎ ((0 < length x.fraction) × (x.whole ≡ 0 ∷ []) × (text ≡ codes "." ++ text_of x.fraction))

-- the digits are in one of them
pub record WritesUnsigned (text : List ℕ) (x : Places) : Type 0 where
  pub digits : IsWritten x
  pub form : StandsAs text x

-- no sign, `-` or `+`
abbrev pub sign_text : Sign → List ℕ
sign_text sign.None = []
sign_text sign.Negative = codes "-"
sign_text sign.Positive = codes "+"

-- the sign, then the digits
abbrev pub WritesDecimal : List ℕ → Decimal → Type 0
WritesDecimal text x = (digits : List ℕ) × WritesUnsigned digits x.absolute × (text ≡ sign_text x.sign ++ digits)

-- the most digits of an exponent
abbrev pub most_exponent_digits : ℕ
most_exponent_digits = 3

-- `c` and one to three digits
pub record WritesCompactExponent (text : List ℕ) (exponent : ℕ) (ds : List ℕ) : Type 0 where
  pub digits : AreDigits ds
  pub least : 1 ≤ length ds
  pub most : length ds ≤ most_exponent_digits
  pub value : exponent ≡ value_of ds
  pub form : text ≡ codes "c" ++ text_of ds

-- nothing, for 0, or a written exponent
abbrev pub HasExponent : List ℕ → ℕ → Type 0
HasExponent text exponent = ((text ≡ []) × (exponent ≡ 0)) ⊎ ((ds : List ℕ) × WritesCompactExponent text exponent ds)

-- a decimal, then its exponent
abbrev pub WritesCompact : List ℕ → CompactNumber → Type 0
WritesCompact text x =
    (front rest : List ℕ) × WritesDecimal front x.significand × HasExponent rest x.exponent × (text ≡ front ++ rest)

-- too many places, or an exponent above 255
abbrev pub IsCompactOverLimit : CompactNumber → Type 0
IsCompactOverLimit x = IsOverLimit x.significand.absolute ⊎ (255 < x.exponent)

-- ---- The statements of the law `texts_write_one_number`: a text writes at most one number.
--     OneUnsigned, OneSigned, OneCompact      as an unsigned decimal, as a decimal, as a compact
--         decimal

abbrev pub OneUnsigned : Type 0
OneUnsigned = (text : List ℕ) (x y : Places) → WritesUnsigned text x → WritesUnsigned text y → x ≡ y

abbrev pub OneSigned : Type 0
OneSigned = (text : List ℕ) (x y : Decimal) → WritesDecimal text x → WritesDecimal text y → x ≡ y

abbrev pub OneCompact : Type 0
OneCompact = (text : List ℕ) (x y : CompactNumber) → WritesCompact text x → WritesCompact text y → x ≡ y

-- ---- The texts that the errors print

abbrev pub error_text : DecimalError → List ℕ
error_text Syntax = codes "bad number"
error_text Limit = codes "number out of limits"
error_text Memory = codes "out of memory"
