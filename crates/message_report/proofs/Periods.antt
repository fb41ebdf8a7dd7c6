-- Rules whose moduli divide 100 choose alike for whole numbers that leave the same by 100.
use Rattle.std.proofs.Common.{◌≡◌, ◌⊎◌, ℕ, ◌+◌, ◌%◌, ◌<◌, ◌≤◌, List, [], ◌∷◌, Bool, true, false, refl, sym, ap, subst, ◌∙◌, arith}
use Rattle.std.proofs.Common.{inl, inr, Option, Some, None}
use Rattle.std.specs.Prelude.{◌||◌}
use Rattle.std.proofs.lemmas.Bool.{cases_lt, cases_order}
use Rattle.icu_plurals.specs.FiveRules.{FiveRules, first_category, passes}
use Rattle.icu_plurals.specs.Operands.{of_whole}
use Rattle.icu_plurals.specs.PackedRelations.{PackedRelation}
use Rattle.icu_plurals.specs.PackedTruth.{is_true_at, packed_truth}
use Rattle.icu_plurals.specs.declared.PluralCategory.{PluralCategory}
use Rattle.icu_plurals.specs.Truth.{is_in_ranges, range_holds, remainder, under}
use Rattle.plural_base.proofs.integers.Lists.{relation_truth-whole}
use Rattle.plural_base.proofs.integers.Residues.{by_divisor, ends_below}
use Rattle.plural_base.proofs.integers.Walk.{truth_from, truth_from-is}
use Rattle.plural_base.specs.Inner.WholeNumbers.{earlier_after, group_after, whole_value}
use Rattle.icu_plurals.specs.declared.provider.rules.reference.ast.Operand.{Operand}
use Rattle.icu_plurals.specs.declared.provider.rules.reference.ast.Operand.TheVariants.{N, I, V, W, F, T, C, E}
use Rattle.message_report.specs.WholeNumberLaws.{AreLow, ArePeriodic, IsPeriodic, IsPeriodicBy, IsPeriodicIf, IsPeriodicOn}
use Rattle.message_report.specs.WholeNumberLaws.{WholeNumbersTellAll}
use Rattle.number_categories.specs.WholeNumbers.{AreTwoLeast, HasWhole}

-- ---- Numbers that are alike

-- both are at least 9800, and leave the same by 100
pub record AreAlike (a b : ℕ) : Type 0 where
  pub first : 9800 ≤ a
  pub second : 9800 ≤ b
  pub same : a % 100 ≡ b % 100

-- low ranges hold no number from 9800 on
none_low : (ranges : List (ℕ × ℕ)) (n : ℕ) → AreLow ranges → 9800 ≤ n → is_in_ranges ranges n ≡ false
none_low [] n low from = refl
none_low ((start, end) ∷ ranges) n low from =
    let head : range_holds n (start, end) ≡ false = ends_below start end 9800 n from low.0 in
    let tail : is_in_ranges ranges n ≡ false = none_low ranges n low.1 from in
    ap (λ (b : Bool). b || is_in_ranges ranges n) head ∙ tail

same_list : (modulus : ℕ) (ranges : List (ℕ × ℕ)) (a b : ℕ) → AreAlike a b → IsPeriodicBy modulus ranges
    → is_in_ranges ranges (remainder modulus a) ≡ is_in_ranges ranges (remainder modulus b)
same_list modulus ranges a b alike (inl by) =
    ap (is_in_ranges ranges)
    (by_divisor 100 modulus a (a % 100) by.0 by.1 refl ∙ sym (by_divisor 100 modulus b (a % 100) by.0 by.1 (sym alike.same)))
same_list modulus ranges a b alike (inr none) =
    let P : ℕ → Type 0 = λ m. is_in_ranges ranges (remainder m a) ≡ is_in_ranges ranges (remainder m b) in
    subst P (sym none.0) (none_low ranges a none.1 alike.first ∙ sym (none_low ranges b none.1 alike.second))

same_value : (operand : Operand) (modulus : ℕ) (ranges : List (ℕ × ℕ)) (a b : ℕ) → AreAlike a b → IsPeriodicOn operand modulus ranges
    → is_in_ranges ranges (remainder modulus (whole_value operand a)) ≡ is_in_ranges ranges (remainder modulus (whole_value operand b))
same_value N modulus ranges a b alike by = same_list modulus ranges a b alike by
same_value I modulus ranges a b alike by = same_list modulus ranges a b alike by
same_value V modulus ranges a b alike by = refl
same_value W modulus ranges a b alike by = refl
same_value F modulus ranges a b alike by = refl
same_value T modulus ranges a b alike by = refl
same_value C modulus ranges a b alike by = refl
same_value E modulus ranges a b alike by = refl

same_relation : (relation : PackedRelation) (a b : ℕ) → AreAlike a b
    → IsPeriodicOn relation.meaning.operand relation.meaning.modulus relation.meaning.ranges
    → is_true_at (of_whole a) relation ≡ is_true_at (of_whole b) relation
same_relation relation a b alike by =
    relation_truth-whole relation.meaning a
    ∙ ap (under relation.meaning.operator)
    (same_value relation.meaning.operand relation.meaning.modulus relation.meaning.ranges a b alike by)
    ∙ sym (relation_truth-whole relation.meaning b)

-- ---- Rules

same_walk : (a b : ℕ) (earlier group : Bool) (relations : List PackedRelation) → AreAlike a b → IsPeriodic relations
    → truth_from (is_true_at (of_whole a)) earlier group relations ≡ truth_from (is_true_at (of_whole b)) earlier group relations
same_walk a b earlier group [] alike by = refl
same_walk a b earlier group (relation ∷ relations) alike by =
    ap (λ (t : Bool). truth_from (is_true_at (of_whole a)) (earlier_after relation.and_or earlier group)
    (group_after relation.and_or group t) relations)
    (same_relation relation a b alike by.0)
    ∙ same_walk a b (earlier_after relation.and_or earlier group)
    (group_after relation.and_or group (is_true_at (of_whole b) relation)) relations alike by.1

same_rule : (rule : Option (List PackedRelation)) (a b : ℕ) → AreAlike a b → IsPeriodicIf rule
    → passes (packed_truth (of_whole a)) rule ≡ passes (packed_truth (of_whole b)) rule
unfolding packed_truth
same_rule None a b alike by = refl
same_rule (Some relations) a b alike by =
    sym (truth_from-is (is_true_at (of_whole a)) relations) ∙ same_walk a b false true relations alike by
    ∙ truth_from-is (is_true_at (of_whole b)) relations

pub same_category : (rules : FiveRules) (a b : ℕ) → AreAlike a b → ArePeriodic rules
    → first_category (packed_truth (of_whole a)) rules ≡ first_category (packed_truth (of_whole b)) rules
same_category rules a b alike by =
    rw (
      same_rule rules.zero a b alike by.zero,
      same_rule rules.one a b alike by.one,
      same_rule rules.two a b alike by.two,
      same_rule rules.few a b alike by.few,
      same_rule rules.many a b alike by.many,
    ) refl

-- ---- Below the limit

-- a number from 10000 on has what two numbers below have
below : (n r : ℕ) → 10000 ≤ n → n % 100 ≡ r → AreAlike n (9800 + r) × AreAlike n (9900 + r) × (r < 100)
below n r from left = (
  record { first = omega arith; second = omega arith; same = omega arith },
  record { first = omega arith; second = omega arith; same = omega arith },
  omega arith,
)

no_more : (rules : FiveRules) (category : PluralCategory) (first : Option ℕ) (n r : ℕ) → ArePeriodic rules
    → AreTwoLeast rules category first None → HasWhole rules category n → 10000 ≤ n → n % 100 ≡ r → ⊥
no_more rules category None n r by two has from left =
    let d = below n r from left in
    let less : 9800 + r < 10000 = omega (arith, d.2) in
    two.0 (9800 + r) (omega arith) less (sym (same_category rules n (9800 + r) d.0 by) ∙ has)
no_more rules category (Some m) n r by two has from left = by_order (cases_lt m (9900 + r))
  where
    d : AreAlike n (9800 + r) × AreAlike n (9900 + r) × (r < 100)
    d = below n r from left

    low : HasWhole rules category (9800 + r)
    low = sym (same_category rules n (9800 + r) d.0 by) ∙ has

    high : HasWhole rules category (9900 + r)
    high = sym (same_category rules n (9900 + r) d.1 by) ∙ has

    by_order : (m < 9900 + r) ⊎ (9900 + r ≤ m) → ⊥
    by_order (inl before) = two.1 (9900 + r) (omega arith) (omega (arith, d.2)) high
    by_order (inr after) = two.0.3 (9800 + r) (omega arith) (omega arith) low

-- a number below the limit
within : (rules : FiveRules) (category : PluralCategory) (first : Option ℕ) (n : ℕ)
    → AreTwoLeast rules category first None → HasWhole rules category n → n < 10000 → first ≡ Some n
within rules category None n two has less = absurd (two.0 n (omega arith) less has)
within rules category (Some m) n two has less = by_order (cases_order n m)
  where
    by_order : (n ≡ m) ⊎ ((n < m) ⊎ (m < n)) → Some m ≡ Some n
    by_order (inl same) = ap (λ (k : ℕ). Some k) (sym same)
    by_order (inr (inl before)) = absurd (two.0.3 n (omega arith) before has)
    by_order (inr (inr after)) = absurd (two.1 n (omega arith) less has)

pub tell_all : WholeNumbersTellAll
tell_all rules category first by two n has = by_limit (cases_lt n 10000)
  where
    by_limit : (n < 10000) ⊎ (10000 ≤ n) → first ≡ Some n
    by_limit (inl less) = within rules category first n two has less
    by_limit (inr from) = absurd (no_more rules category first n (n % 100) by two has from refl)
