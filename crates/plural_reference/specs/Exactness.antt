-- When a condition is true of an exact number (UTS 35 Part 3, Plural Rules Syntax: relations),
-- whatever its length.
use Rattle.std.specs.Prelude.{ℕ, ◌*◌, ◌/◌, ◌%◌, ◌^◌, ◌==◌, Bool, if◌then◌else◌, Option, Some, None, ◌<◌, ◌≤◌, ◌⊎◌, List}
use Rattle.std.specs.Prelude.{length, Contains}
use Rattle.plural_reference.specs.declared.ast.Condition.{Condition}
use Rattle.plural_operands.specs.declared.operand.Operand.{Operand}
use Rattle.plural_operands.specs.declared.operand.Operand.TheVariants.{N, I, V, W, F, T, C, E}
use Rattle.plural_operands.specs.Operands.{Operands, parts, kept_places, kept_limit}
use Rattle.plural_reference.specs.Truth.{RelationMeaning, remainder, holds_value, under, is_true_of, meaning_of, groups_of}
use Rattle.std.specs.Int.{◌∣◌}
use Rattle.std.specs.List.{AllByRecursion}
use Rattle.fixed_decimal.specs.Digits.{value_of}
use Rattle.fixed_decimal.specs.Places.{Places, shift_right}

-- `count` divided by `unit`, if that is a whole number
abbrev pub whole_of : ℕ → ℕ → Option ℕ
whole_of unit count = if count % unit == 0 then Some (count / unit) else None

-- The value of an operand by a modulus, 0 being none. n has one if the number, or its remainder by
-- the modulus, is whole; the others are whole numbers.
abbrev pub exact_value : Operand → ℕ → Operands → Option ℕ
exact_value N modulus number = whole_of (10 ^ number.v) (remainder (modulus * 10 ^ number.v) (parts number))
exact_value I modulus number = Some (remainder modulus number.i)
exact_value V modulus number = Some (remainder modulus number.v)
exact_value W modulus number = Some (remainder modulus number.w)
exact_value F modulus number = Some (remainder modulus number.f)
exact_value T modulus number = Some (remainder modulus number.t)
exact_value C modulus number = Some (remainder modulus number.c)
exact_value E modulus number = Some (remainder modulus number.c)

-- `=` is true if the value is in the list, `!=` if it isn't
abbrev pub exact_relation_truth : Operands → RelationMeaning → Bool
exact_relation_truth number relation =
    under relation.operator (holds_value relation.ranges (exact_value relation.operand relation.modulus number))

-- the condition is true of the number with these exact operands
abbrev pub exact_truth : Operands → Condition → Bool
exact_truth number condition = is_true_of (λ relation. exact_relation_truth number (meaning_of relation)) (groups_of condition)

-- ---- When the kept operands of a number decide a rule as the number itself does.
--     IsWithinBound x e moduli      the number x with the compact exponent e, under rules with
--         these moduli on i and n
--     IsAdmitted moduli relation      what such a rule's relation looks like

-- each number of the list but 0 divides n
abbrev pub AllDivide : List ℕ → ℕ → Type 0
AllDivide moduli n = (m : ℕ) → Contains moduli m → 0 < m → m ∣ n

-- The digits have at most 18 fraction places; and either at most 18 integer places, or integer
-- digits that write at least 10 ^ 18 and no modulus but divisors of 10 ^ 18.
pub record IsBoundedAt (y : Places) (moduli : List ℕ) : Type 0 where
  pub fraction : length y.fraction ≤ kept_places
  pub whole : (length y.whole ≤ kept_places) ⊎ ((kept_limit ≤ value_of y.whole) × AllDivide moduli kept_limit)

-- the digits of the number, shifted by its exponent, are within the bound
abbrev pub IsWithinBound : Places → ℕ → List ℕ → Type 0
IsWithinBound x e moduli = IsBoundedAt (shift_right e x) moduli

-- a modulus on n or i is one of these, or 0
abbrev pub IsListed : Operand → ℕ → List ℕ → Type 0
IsListed N modulus moduli = 0 < modulus → Contains moduli modulus
IsListed I modulus moduli = 0 < modulus → Contains moduli modulus
IsListed _ modulus moduli = Unit {0}

-- the ranges end below 10 ^ 18, as those of every rule that is read from a text do
pub record IsAdmitted (moduli : List ℕ) (relation : RelationMeaning) : Type 0 where
  pub listed : IsListed relation.operand relation.modulus moduli
  pub ends : AllByRecursion (λ range. range.1 < kept_limit) relation.ranges
