-- The operands of a number (UTS 35 Part 3, Plural Operand Meanings). i is its integer part; v and w
-- count the fraction digits that it shows, with and without trailing zeros; f and t are these
-- digits as a number, with and without trailing zeros; c is the compact exponent, which e names
-- too.
--     of_whole n      the operands of a whole number: no fraction, no exponent
--     of_wide n      those that are kept of an integer of 128 bits
--     kept_places, kept_limit      18 and 10 ^ 18: what is kept of a longer number
use Rattle.std.specs.Prelude.{ℕ, ◌+◌, ◌%◌, ◌^◌, nat_lt, if◌then◌else◌, ◌≡◌, ◌-◌, ◌/◌, ◌≤◌, List, ◌++◌, length, take, drop, nat_le, ◌==◌, ◌*◌, Option, Some, None, codes}
use Rattle.plural_operands.specs.declared.operand.Operand.{Operand}
use Rattle.plural_operands.specs.declared.operand.Operand.TheVariants.{N, I, V, W, F, T, C, E}
use Rattle.std.specs.Int.{◌∣◌}
use Rattle.fixed_decimal.specs.Digits.{value_of}
use Rattle.fixed_decimal.specs.Places.{Places, shift_right}

pub record Operands : Type 0 where
  pub i : ℕ
  pub v : ℕ
  pub w : ℕ
  pub f : ℕ
  pub t : ℕ
  pub c : ℕ

-- the operand's value at six operand numbers: n is i, and has no value if w isn't 0
abbrev pub operand_value : Operand → Operands → Option ℕ
operand_value N number = if number.w == 0 then Some number.i else None
operand_value I number = Some number.i
operand_value V number = Some number.v
operand_value W number = Some number.w
operand_value F number = Some number.f
operand_value T number = Some number.t
operand_value C number = Some number.c
operand_value E number = Some number.c

-- an operand's letter
abbrev pub operand_text : Operand → List ℕ
operand_text N = codes "n"
operand_text I = codes "i"
operand_text V = codes "v"
operand_text W = codes "w"
operand_text F = codes "f"
operand_text T = codes "t"
operand_text C = codes "c"
operand_text E = codes "e"

-- the number in parts of 10 ^ v
abbrev pub parts : Operands → ℕ
parts number = number.i * 10 ^ number.v + number.f

-- the operands of a whole number without a fraction or an exponent
abbrev pub of_whole : ℕ → Operands
of_whole n = record { i = n; v = 0; w = 0; f = 0; t = 0; c = 0 }

-- the most digits that are kept on each side of the point
abbrev pub kept_places : ℕ
kept_places = 18

-- the least number with more digits; of such a number what its last digits write is kept, plus this
abbrev pub kept_limit : ℕ
kept_limit = 10 ^ kept_places

-- of_whole below 10 ^ 18; from there on i is what the last 18 digits write, plus 10 ^ 18
abbrev pub of_wide : ℕ → Operands
of_wide n = of_whole (if nat_lt n kept_limit then n else n % kept_limit + kept_limit)

-- ---- Which operands a written number has (UTS 35 Part 3, Plural Operand Meanings). The number is
-- given by its digits x and its compact exponent e: the point goes e places to the right before the
-- digits count.
--     AreExact x e o      the exact operands, whatever the number's length
--     AreKept x e o      the kept operands: the last 18 integer digits and the first 18 fraction
--         digits count

-- The count of the fraction digits that are shown, and the number that they write. w is the least
-- count of them with the number divisible by 10 ^ (shown - w), and t is the quotient.
pub record HasFraction (o : Operands) (shown written : ℕ) : Type 0 where
  pub v : o.v ≡ shown
  pub f : o.f ≡ written
  pub w_divides : 10 ^ (shown - o.w) ∣ written
  pub w_least : (k : ℕ) → 10 ^ (shown - k) ∣ written → o.w ≤ k
  pub t : o.t ≡ written / 10 ^ (shown - o.w)

-- ---- Exact operands

-- the whole number that all digits write: the number itself is that many parts of 10 ^ (count of
-- its fraction digits)
abbrev pub all_digits_value : Places → ℕ
all_digits_value y = value_of (y.whole ++ y.fraction)

-- of the digits as they are, and an exponent
pub record IsExactAt (y : Places) (e : ℕ) (o : Operands) : Type 0 where
  pub i : o.i ≡ all_digits_value y / 10 ^ length y.fraction
  pub fraction : HasFraction o (length y.fraction) (all_digits_value y % 10 ^ length y.fraction)
  pub c : o.c ≡ e

abbrev pub AreExact : Places → ℕ → Operands → Type 0
AreExact x e o = IsExactAt (shift_right e x) e o

-- ---- Kept operands

-- the number that at most 18 digits write; of more, what the last 18 write, plus 10 ^ 18
abbrev pub kept_whole : List ℕ → ℕ
kept_whole ds =
    if nat_le (length ds) kept_places then value_of ds else value_of (drop (length ds - kept_places) ds) + kept_limit

-- of the digits as they are, and an exponent
pub record IsKeptAt (y : Places) (e : ℕ) (o : Operands) : Type 0 where
  pub i : o.i ≡ kept_whole y.whole
  pub fraction : HasFraction o (length (take kept_places y.fraction)) (value_of (take kept_places y.fraction))
  pub c : o.c ≡ e

abbrev pub AreKept : Places → ℕ → Operands → Type 0
AreKept x e o = IsKeptAt (shift_right e x) e o
