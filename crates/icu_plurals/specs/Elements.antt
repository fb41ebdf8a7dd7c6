-- A value for each plural category, and for exactly 0 and exactly 1 (UTS 35 Part 3, Plural Rules
-- and Explicit 0 and 1 Rules). The value of other is always present; each of the seven others is
-- present or absent.
--     Elements T      the values by key
--     values_in_order e      the eight places in the order in which closures are called
--     AreClones IsClone e copy      each value of the copy is a clone of the one at its key
--     has_value_of e c      the value of a category is present
--     of_category e c      the value of a category, or that of other
--     element_at e op rules      the value for operands: the explicit one, else that of the
--         category by the rules, else of other
use Rattle.std.specs.Prelude.{ℕ, ◌==◌, ◌&&◌, List, [], ◌∷◌, Bool, true, Option, Some, None, is_some, option_map, unwrap_or, if◌then◌else◌, ◌≡◌}
use Rattle.plural_operands.specs.Operands.{Operands, AreKept, AreExact}
use Rattle.plural_runtime.specs.PackedTruth.{packed_truth}
use Rattle.plural_base.specs.declared.five.Five.{Five}
use Rattle.plural_base.specs.FiveRules.{FiveRules, first_category, moduli_of, Paired}
use Rattle.plural_base.specs.declared.category.PluralCategory.{PluralCategory}
use Rattle.plural_base.specs.declared.category.PluralCategory.TheVariants.{Zero, One, Two, Few, Many, Other}
use Rattle.fixed_decimal.specs.Written.{CompactNumber}
use Rattle.fixed_decimal.specs.Places.{Places, IsWritten}
use Rattle.plural_reference.specs.declared.ast.Condition.{Condition}
use Rattle.plural_reference.specs.Exactness.{IsWithinBound, exact_truth}
use Rattle.plural_base.specs.RuleTexts.{AreRulesOf, AreReadAs}

pub record Elements (T : Type 0) : Type 0 where
  pub other : T
  pub zero : Option T
  pub one : Option T
  pub two : Option T
  pub few : Option T
  pub many : Option T
  pub explicit_zero : Option T
  pub explicit_one : Option T

-- the value of other alone
abbrev pub only_other : {T : Type 0} → T → Elements T
only_other x = record { other = x; zero = None; one = None; two = None; few = None; many = None; explicit_zero = None; explicit_one = None }

-- the eight places, in the order in which closures are called
abbrev pub values_in_order : {T : Type 0} → Elements T → List (Option T)
values_in_order e = Some e.other ∷ e.zero ∷ e.one ∷ e.two ∷ e.few ∷ e.many ∷ e.explicit_zero ∷ e.explicit_one ∷ []

-- each value as a function gives it
abbrev pub each_by : {S T : Type 0} → (S → T) → Elements S → Elements T
each_by f e = record {
  other = f e.other;
  zero = option_map f e.zero;
  one = option_map f e.one;
  two = option_map f e.two;
  few = option_map f e.few;
  many = option_map f e.many;
  explicit_zero = option_map f e.explicit_zero;
  explicit_one = option_map f e.explicit_one;
}

-- each value is a clone of the one at its key
pub record AreClones {T : Type 0} (IsClone : T → T → Type 0) (e copy : Elements T) : Type 0 where
  pub other : IsClone e.other copy.other
  pub zero : Paired IsClone e.zero copy.zero
  pub one : Paired IsClone e.one copy.one
  pub two : Paired IsClone e.two copy.two
  pub few : Paired IsClone e.few copy.few
  pub many : Paired IsClone e.many copy.many
  pub explicit_zero : Paired IsClone e.explicit_zero copy.explicit_zero
  pub explicit_one : Paired IsClone e.explicit_one copy.explicit_one

-- the value, unless it equals that of other
abbrev pub unless_equal : {T : Type 0} → (T → T → Bool) → T → Option T → Option T
unless_equal eq other None = None
unless_equal eq other (Some x) = if eq x other then None else Some x

-- the value of a category is present
abbrev pub has_value_of : {T : Type 0} → Elements T → PluralCategory → Bool
has_value_of e Zero = is_some e.zero
has_value_of e One = is_some e.one
has_value_of e Two = is_some e.two
has_value_of e Few = is_some e.few
has_value_of e Many = is_some e.many
has_value_of e Other = true

-- the value of a category, or that of other
abbrev pub of_category : {T : Type 0} → Elements T → PluralCategory → T
of_category e Zero = unwrap_or e.zero e.other
of_category e One = unwrap_or e.one e.other
of_category e Two = unwrap_or e.two e.other
of_category e Few = unwrap_or e.few e.other
of_category e Many = unwrap_or e.many e.other
of_category e Other = e.other

-- i is n, and there is no fraction and no exponent
abbrev pub is_exactly : ℕ → Operands → Bool
is_exactly n op = (op.i == n) && (op.v == 0) && (op.w == 0) && (op.f == 0) && (op.t == 0) && (op.c == 0)

-- the explicit value for exactly 0 or exactly 1, if present
abbrev pub explicit_at : {T : Type 0} → Elements T → Operands → Option T
explicit_at e op = if is_exactly 0 op then e.explicit_zero else (if is_exactly 1 op then e.explicit_one else None)

abbrev pub element_at : {T : Type 0} → Elements T → Operands → FiveRules → T
element_at e op rules = unwrap_or (explicit_at e op) (of_category e (first_category (packed_truth op) rules))

-- ---- Which value of elements a written number has under five rules (UTS 35 Part 3, Language
-- Plural Rules, Explicit 0 and 1)
--     IsExactElement      within the bound: the one that the number itself has, whatever its length
--     IsKeptElement      within the bound or not: the one that its kept operands choose
--     HasElement e rules x value      both

-- The value of the exact number: the explicit one if the number is exactly 0 or 1 and it is
-- present, else that of the first of zero, one, two, few, many whose condition is present and true
-- of the number, else that of other.
abbrev pub exact_element_at : {T : Type 0} → Elements T → Operands → Five (Option Condition) → T
exact_element_at e exact conditions =
    unwrap_or (explicit_at e exact) (of_category e (first_category (exact_truth exact) conditions))

-- For any five texts that the rules are read from: if the number, with its compact exponent, is
-- within the bound, the value is that of the exact number. Exact truth treats a modulus 0 as if it
-- weren't written.
abbrev pub IsExactElement : {T : Type 0} → Elements T → FiveRules → Places → ℕ → T → Type 0
IsExactElement e rules number exponent value =
    (texts : Five (Option (List ℕ))) (conditions : Five (Option Condition)) (exact : Operands)
    → AreRulesOf texts rules → AreReadAs texts conditions
    → IsWithinBound number exponent (moduli_of rules) → AreExact number exponent exact
    → value ≡ exact_element_at e exact conditions

-- The value is the one that the kept operands of the number choose.
abbrev pub IsKeptElement : {T : Type 0} → Elements T → FiveRules → Places → ℕ → T → Type 0
IsKeptElement e rules number exponent value =
    (kept : Operands) × AreKept number exponent kept × (value ≡ element_at e kept rules)

-- The value of a number: the one that its kept operands choose, and within the bound that of the
-- number itself (docs/NUMBERS.md).
abbrev pub HasElement : {T : Type 0} → Elements T → FiveRules → CompactNumber → T → Type 0
HasElement e rules x value =
    IsKeptElement e rules x.significand.absolute x.exponent value × IsExactElement e rules x.significand.absolute x.exponent value

-- ---- The law

-- the value that the kept operands of a number choose is the one that the exact number has
abbrev pub KeptElementIsExact : Type 0 → Type 0
KeptElementIsExact T =
    (e : Elements T) (rules : FiveRules) (x : Places) (exponent : ℕ) (value : T)
    → IsWritten x → IsKeptElement e rules x exponent value → IsExactElement e rules x exponent value
