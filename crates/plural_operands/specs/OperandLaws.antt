-- What holds of the operands of every number.
use Rattle.std.specs.Prelude.{◌≡◌, ℕ, ◌%◌, ◌<◌, ◌≤◌, ◌↔◌, List, length}
use Rattle.fixed_decimal.specs.Places.{Places, IsWritten, shift_right}
use Rattle.plural_operands.specs.Operands.{Operands, kept_places, kept_limit, of_whole, of_wide, parts, AreKept, AreExact, all_digits_value}
use Rattle.plural_operands.specs.OperandText.{WritesOperands}

-- exactly one value is of this kind
abbrev pub ThereIsOne : {A : Type 0} → (A → Type 0) → Type 0
ThereIsOne {A = A} Is = (x : A) × Is x × ((y : A) → Is y → y ≡ x)

-- a whole number below 10 ^ 18 has the same operands at 64 and at 128 bits
abbrev pub SameBelowLimit : Type 0
SameBelowLimit = (n : ℕ) → n < kept_limit → of_wide n ≡ of_whole n

-- from there on both integer parts are at least 10 ^ 18, and have the same remainder by it
abbrev pub CongruentFromLimit : Type 0
CongruentFromLimit = (n : ℕ) → kept_limit ≤ n →
    (kept_limit ≤ (of_wide n).i)
    × (kept_limit ≤ (of_whole n).i)
    × ((of_wide n).i % kept_limit ≡ (of_whole n).i % kept_limit)

-- with at most 18 places on each side the kept operands are the exact ones
abbrev pub AllIsKept : Type 0
AllIsKept = (x : Places) (e : ℕ) (o : Operands) → IsWritten x →
    length (shift_right e x).whole ≤ kept_places
    → length (shift_right e x).fraction ≤ kept_places
    → AreKept x e o ↔ AreExact x e o

-- a number has exactly one list of kept operands, and one of exact ones
abbrev pub OneKept : Type 0
OneKept = (x : Places) (e : ℕ) → ThereIsOne (AreKept x e)

abbrev pub OneExact : Type 0
OneExact = (x : Places) (e : ℕ) → ThereIsOne (AreExact x e)

-- a text names at most one list of operands
abbrev pub OneNamed : Type 0
OneNamed = (text : List ℕ) (x y : Operands) → WritesOperands text x → WritesOperands text y → x ≡ y

-- the exact operands determine the number: i * 10 ^ v + f is what all its digits write
abbrev pub TellTheNumber : Type 0
TellTheNumber = (x : Places) (e : ℕ) (o : Operands) → AreExact x e o →
    (parts o ≡ all_digits_value (shift_right e x)) × (o.v ≡ length (shift_right e x).fraction)
