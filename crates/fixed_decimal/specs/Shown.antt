-- The texts that decimals print. The same number is read from them again.
--     unsigned_text x      the integer digits, then `.` and the fraction digits if there are any
--     decimal_text x      the sign before them
--     compact_text x      then `c` and the exponent, unless it is 0
use Rattle.std.specs.Prelude.{ℕ, zero, suc, ◌≤◌, List, [], ◌∷◌, ◌++◌, codes, decimal}
use Rattle.fixed_decimal.specs.declared.decimal.Decimal.{Decimal}
use Rattle.fixed_decimal.specs.Digits.{text_of}
use Rattle.fixed_decimal.specs.Places.{Places, IsWritten}
use Rattle.fixed_decimal.specs.Written.{CompactNumber, WritesUnsigned, WritesDecimal, WritesCompact, sign_text}

-- the point and the digits after it
abbrev pub fraction_text : List ℕ → List ℕ
fraction_text [] = []
fraction_text (d ∷ ds) = codes "." ++ text_of (d ∷ ds)

-- the digits on both sides
abbrev pub unsigned_text : Places → List ℕ
unsigned_text x = text_of x.whole ++ fraction_text x.fraction

-- the sign that is written, and the digits
abbrev pub decimal_text : Decimal → List ℕ
decimal_text x = sign_text x.sign ++ unsigned_text x.absolute

-- the letter and the exponent in decimal
abbrev pub exponent_text : ℕ → List ℕ
exponent_text zero = []
exponent_text (suc e) = codes "c" ++ decimal (suc e)

-- the significand, and its exponent
abbrev pub compact_text : CompactNumber → List ℕ
compact_text x = decimal_text x.significand ++ exponent_text x.exponent

-- ---- The statements of the law `numbers_are_read_again`: the text that a number prints writes
-- this number.

abbrev pub UnsignedReadAgain : Type 0
UnsignedReadAgain = (x : Places) → IsWritten x → WritesUnsigned (unsigned_text x) x

abbrev pub DecimalReadAgain : Type 0
DecimalReadAgain = (x : Decimal) → IsWritten x.absolute → WritesDecimal (decimal_text x) x

abbrev pub CompactReadAgain : Type 0
CompactReadAgain =
    (x : CompactNumber) → IsWritten x.significand.absolute → x.exponent ≤ 255 → WritesCompact (compact_text x) x
