-- Not a definition of the subject: the parts of a text of operands, for private contracts.
use Rattle.std.specs.Prelude.{ℕ, List, [], ◌∷◌, ◌++◌, ◌≡◌, ◌==◌, if◌then◌else◌, length, Option, Some, None}
use Rattle.std.specs.Char.{IsAsciiDigit}
use Rattle.fixed_decimal.specs.Digits.{value_of, text_of}
use Rattle.plural_operands.specs.Operands.{Operands, HasFraction}
use Rattle.plural_operands.specs.OperandText.{IsWord, WritesCount, WritesExponent}

-- the result is what the text writes, or none if it writes nothing
abbrev pub IsReading : {A : Type 0} → (A → Type 0) → Option A → Type 0
IsReading Writes (Some a) = Writes a
IsReading {A} Writes None = (a : A) → ¬ (Writes a)

-- the text after a sign, or the whole text if it hasn't that sign
abbrev pub without_sign : ℕ → List ℕ → List ℕ
without_sign sign [] = []
without_sign sign (b ∷ bytes) = if b == sign then bytes else (b ∷ bytes)

-- no digit begins the text
abbrev pub BeginsWithNoDigit : List ℕ → Type 0
BeginsWithNoDigit [] = Unit {0}
BeginsWithNoDigit (b ∷ bytes) = ¬ (IsAsciiDigit b)

-- all digits at the front, of a value that 64 bits hold, and the rest
pub record HasWord (text ds rest : List ℕ) : Type 0 where
  pub word : IsWord ds
  pub spelled : text ≡ text_of ds ++ rest
  pub whole : BeginsWithNoDigit rest

-- digits that may follow a `+`, the number that they write, and the rest
abbrev pub HasCount : List ℕ → ℕ → List ℕ → Type 0
HasCount text n rest = (front : List ℕ) × WritesCount front n × (text ≡ front ++ rest) × BeginsWithNoDigit rest

-- after an integer and its point: digits and optionally an exponent
abbrev pub WritesBehindPoint : ℕ → List ℕ → Operands → Type 0
WritesBehindPoint i text o =
    (ds rest : List ℕ)
    × (o.i ≡ i)
    × IsWord ds
    × HasFraction o (length ds) (value_of ds)
    × WritesExponent rest o.c
    × (text ≡ text_of ds ++ rest)
