-- Within the bound the kept operands of a number decide a rule as the number itself does.
use Rattle.std.specs.Prelude.{◌≡◌, ℕ, ◌+◌, ◌-◌, ◌*◌, ◌%◌, ◌^◌, ◌<◌, ◌≤◌, ◌↔◌, List, [], ◌∷◌, length, IsTrue, true, false, pos, ◌-ℤ◌}
use Rattle.std.specs.Int.{◌∣◌}
use Rattle.std.specs.List.{AllByRecursion}
use Rattle.fixed_decimal.specs.Digits.{IsNumeral, value_of}
use Rattle.fixed_decimal.specs.Places.{Places, IsWritten, HasDigitFrom, shift_right}
use Rattle.plural_operands.specs.Operands.{Operands, kept_limit, AreKept, AreExact}
use Rattle.plural_reference.specs.Truth.{RelationMeaning, holds_value, is_in_ranges, is_true_of, relation_truth, remainder}
use Rattle.plural_reference.specs.Truth.{meaning_of, groups_of}
use Rattle.plural_reference.specs.Exactness.{exact_value, exact_relation_truth, exact_truth, IsWithinBound, IsAdmitted}
use Rattle.plural_operands.specs.Operands.{parts}
use Rattle.plural_reference.specs.declared.ast.Condition.{Condition}
use Rattle.plural_operands.specs.declared.operand.Operand.TheVariants.{N, I}
use Rattle.plural_reference.specs.declared.ast.Operator.TheVariants.{Eq}

-- ---- The agreement

-- a number within the bound, with its kept and its exact operands
pub record IsKept (x : Places) (e : ℕ) (moduli : List ℕ) (kept exact : Operands) : Type 0 where
  pub written : IsWritten x
  pub within : IsWithinBound x e moduli
  pub are_kept : AreKept x e kept
  pub are_exact : AreExact x e exact

-- a relation is true of the kept operands if and only if it is true of the exact ones
abbrev pub RelationsAgree : Type 0
RelationsAgree =
    (x : Places) (e : ℕ) (moduli : List ℕ) (kept exact : Operands) (relation : RelationMeaning)
    → IsKept x e moduli kept exact → IsAdmitted moduli relation
    → relation_truth kept relation ≡ exact_relation_truth exact relation

-- so are groups of relations
abbrev pub GroupsAgree : Type 0
GroupsAgree =
    (x : Places) (e : ℕ) (moduli : List ℕ) (kept exact : Operands) (groups : List (List RelationMeaning))
    → IsKept x e moduli kept exact → AllByRecursion (AllByRecursion (IsAdmitted moduli)) groups
    → is_true_of (relation_truth kept) groups ≡ is_true_of (exact_relation_truth exact) groups

-- so is a condition
abbrev pub ConditionsAgree : Type 0
ConditionsAgree =
    (x : Places) (e : ℕ) (moduli : List ℕ) (kept exact : Operands) (condition : Condition)
    → IsKept x e moduli kept exact
    → AllByRecursion (AllByRecursion (λ relation. IsAdmitted moduli (meaning_of relation))) (groups_of condition)
    → is_true_of (λ relation. relation_truth kept (meaning_of relation)) (groups_of condition) ≡ exact_truth exact condition

-- ---- Whole numbers

-- The exact value of n is in ranges if and only if some whole number of the ranges is the number,
-- or its remainder by the modulus. Both are compared in parts of 10 ^ v.
abbrev pub HoldsWholeNumbers : Type 0
HoldsWholeNumbers =
    (ranges : List (ℕ × ℕ)) (modulus : ℕ) (o : Operands)
    → IsTrue (holds_value ranges (exact_value N modulus o))
    ↔ ((k : ℕ) × IsTrue (is_in_ranges ranges k) × (remainder (modulus * 10 ^ o.v) (parts o) ≡ k * 10 ^ o.v))

-- ---- The bound

-- the point moved e places to the right: e more integer places, and fewer fraction places
abbrev pub ShiftedPlaces : Type 0
ShiftedPlaces =
    (x : Places) (e : ℕ)
    → (length (shift_right e x).whole ≡ length x.whole + e) × (length (shift_right e x).fraction ≡ length x.fraction - e)

-- the integer digits then write at least 10 ^ n if and only if some digit at 10 ^ (n - e) or above
-- isn't 0
abbrev pub LongValue : Type 0
LongValue =
    (x : Places) (e n : ℕ) → IsWritten x → (10 ^ n ≤ value_of (shift_right e x).whole) ↔ HasDigitFrom x (pos n -ℤ pos e)

-- the number 2 * 10 ^ 18
abbrev pub IsTwice : Places → Type 0
IsTwice x = IsNumeral x.whole (2 * kept_limit) × (x.fraction ≡ [])

-- `i % m = r`, where r is the remainder of 2 * 10 ^ 18 by m
abbrev pub left_of_twice : ℕ → RelationMeaning
left_of_twice m = let r = 2 * kept_limit % m in record { operand = I; modulus = m; operator = Eq; ranges = (r, r) ∷ [] }

-- for a modulus that doesn't divide 10 ^ 18, a relation is true of the exact 2 * 10 ^ 18 and false
-- of its kept part
abbrev pub BoundIsWidest : Type 0
BoundIsWidest =
    (m : ℕ) (x : Places) (kept exact : Operands) → 0 < m → ¬ (m ∣ kept_limit)
    → IsTwice x → AreKept x 0 kept → AreExact x 0 exact
    → (exact_relation_truth exact (left_of_twice m) ≡ true) × (relation_truth kept (left_of_twice m) ≡ false)
