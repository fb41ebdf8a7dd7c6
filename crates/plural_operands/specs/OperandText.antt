-- Texts that name operands.
--     WritesOperands text o      an optional `-`; a count; optionally `.` and digits; optionally
--         `e` and a count
--     ReadsOperands text r      the result of reading the text
--     WritesInteger text n      1 to 18 digits alone
-- A count is digits, which may follow a `+`. All of the integer part is kept, and nothing is moved
-- by the exponent.
use Rattle.std.specs.Prelude.{◌≡◌, ◌≢◌, ℕ, ◌<◌, ◌≤◌, ◌^◌, ◌⊎◌, List, [], ◌++◌, length, codes, Result, Ok, Err}
use Rattle.fixed_decimal.specs.Digits.{AreDigits, value_of, text_of}
use Rattle.plural_operands.specs.Operands.{Operands, HasFraction, kept_places}
use Rattle.plural_operands.specs.declared.operands.error.OperandsError.{OperandsError}
use Rattle.plural_operands.specs.declared.operands.error.OperandsError.TheVariants.{Empty, Invalid}

-- at least one digit, of a value below 2 ^ 64
pub record IsWord (ds : List ℕ) : Type 0 where
  pub nonempty : 0 < length ds
  pub digits : AreDigits ds
  pub below : value_of ds < 2 ^ 64

-- digits, which may follow a `+`
abbrev pub WritesCount : List ℕ → ℕ → Type 0
WritesCount text n =
    (ds : List ℕ) × IsWord ds × (value_of ds ≡ n) × ((text ≡ text_of ds) ⊎ (text ≡ codes "+" ++ text_of ds))

-- nothing, or `.` and digits
abbrev pub WritesFraction : List ℕ → Operands → Type 0
WritesFraction text o =
    ((text ≡ []) × HasFraction o 0 0)
    ⊎ ((ds : List ℕ) × IsWord ds × (text ≡ codes "." ++ text_of ds) × HasFraction o (length ds) (value_of ds))

-- nothing, or `e` and a count
abbrev pub WritesExponent : List ℕ → ℕ → Type 0
WritesExponent text c = ((text ≡ []) × (c ≡ 0)) ⊎ ((rest : List ℕ) × WritesCount rest c × (text ≡ codes "e" ++ rest))

abbrev pub WritesUnsignedOperands : List ℕ → Operands → Type 0
WritesUnsignedOperands text o =
    (whole fraction exponent : List ℕ)
    × WritesCount whole o.i × WritesFraction fraction o × WritesExponent exponent o.c
    × (text ≡ whole ++ (fraction ++ exponent))

abbrev pub WritesOperands : List ℕ → Operands → Type 0
WritesOperands text o =
    WritesUnsignedOperands text o
    ⊎ ((rest : List ℕ) × WritesUnsignedOperands rest o × (text ≡ codes "-" ++ rest))

-- Empty is the fault of the empty text alone, Invalid that of every other text that names no
-- operands.
abbrev pub FailsOperands : List ℕ → OperandsError → Type 0
FailsOperands text Empty = text ≡ []
FailsOperands text Invalid = (text ≢ []) × ((o : Operands) → ¬ (WritesOperands text o))

abbrev pub ReadsOperands : List ℕ → Result Operands OperandsError → Type 0
ReadsOperands text (Ok o) = WritesOperands text o
ReadsOperands text (Err e) = FailsOperands text e

-- ---- Integers

-- 1 to 18 digits, which write the number
pub record WritesInteger (text : List ℕ) (n : ℕ) : Type 0 where
  pub ds : List ℕ
  pub digits : AreDigits ds
  pub some : 0 < length ds
  pub few : length ds ≤ kept_places
  pub spelled : text ≡ text_of ds
  pub value : n ≡ value_of ds

-- ---- The texts that its errors print

abbrev pub operands_error_text : OperandsError → List ℕ
operands_error_text Empty = codes "Input to the Operands parsing was empty"
operands_error_text Invalid = codes "Input to the Operands parsing was invalid"
