-- No more ranges are needed than there are.
use Rattle.std.proofs.Common.{ℕ, ◌+◌, ◌≤◌, List, [], ◌∷◌, length, subst, arith, Bool, true, false, Some, None}
use Rattle.std.specs.Prelude.{if◌then◌else◌, Option, option_map}
use Rattle.std.proofs.lemmas.List.Sums.{sum_by-cons}
use Rattle.plural_operands.specs.Operands.{Operands}
use Rattle.plural_runtime.specs.PackedRelations.{PackedRelation}
use Rattle.plural_reference.specs.Truth.{range_holds, remainder}
use Rattle.plural_operands.specs.Operands.{operand_value}
use Rattle.plural_runtime.specs.PackedTruth.{is_true_at, needed_of_value, needed_of_relation, needed_ranges, range_count}
use Rattle.plural_runtime.proofs.counting.NeededGroups.{needed_from, needed_of_list-is}
use Rattle.plural_runtime.proofs.walks.Walks.{ends_true, is_looked_at, holds_after, needed_left, needed_left-is}

-- no more ranges of a list are needed than there are
pub needed_from-le : (value : ℕ) (ranges : List (ℕ × ℕ)) → needed_from value ranges ≤ length ranges
needed_from-le value [] = omega arith
needed_from-le value (range ∷ ranges) = by (range_holds value range) (needed_from-le value ranges)
  where
    by : (holds : Bool) → needed_from value ranges ≤ length ranges
        → 1 + (if holds then 0 else needed_from value ranges) ≤ length (range ∷ ranges)
    by true h = omega arith
    by false h = omega arith

-- nor are they for a value that may be absent
pub needed_of_value-le : (ranges : List (ℕ × ℕ)) (value : Option ℕ) → needed_of_value ranges value ≤ length ranges
needed_of_value-le ranges None = omega arith
needed_of_value-le ranges (Some value) = omega (arith, needed_of_list-is value ranges, needed_from-le value ranges)

-- nor does the walk over relations need more than they have
pub needed_left-le : (number : Operands) (holds : Bool) (relations : List PackedRelation)
    → needed_left number holds relations ≤ range_count relations
needed_left-le number holds [] = omega arith
needed_left-le number holds (relation ∷ relations) =
    let more = sum_by-cons (λ (r : PackedRelation). length r.meaning.ranges) relation relations in
    let here = needed_of_value-le relation.meaning.ranges
    (option_map (remainder relation.meaning.modulus) (operand_value relation.meaning.operand number)) in
    let rest = needed_left-le number (holds_after relation.and_or holds (is_true_at number relation)) relations in
    omega (
      arith,
      more,
      rest,
      by (ends_true relation.and_or holds) (is_looked_at relation.and_or holds)
          (needed_of_relation number relation.meaning)
          (needed_left number (holds_after relation.and_or holds (is_true_at number relation)) relations),
      here,
    )
  where
    by : (stops looks : Bool) (n m : ℕ) → (if stops then 0 else ((if looks then n else 0) + m)) ≤ n + m
    by true looks n m = omega arith
    by false true n m = omega arith
    by false false n m = omega arith

-- so a rule needs no more ranges than it has
pub needed_ranges-le : (number : Operands) (relations : List PackedRelation) → needed_ranges number relations ≤ range_count relations
needed_ranges-le number relations =
    subst (λ n. n ≤ range_count relations) (needed_left-is number relations) (needed_left-le number true relations)
