-- Operands of whole numbers, and ranges as they are read.
use Rattle.std.proofs.Common.{◌≡◌, ℕ, ◌%◌, List, get_or, refl, sym, ap, ◌∙◌, Bool, true, false}
use Rattle.std.specs.Prelude.{◌==◌, if◌then◌else◌, option_map, Option, Some, None}
use Rattle.std.proofs.lemmas.Bool.{eqb-true}
use Rattle.plural_operands.specs.declared.operand.Operand.{Operand}
use Rattle.plural_operands.specs.declared.operand.Operand.TheVariants.{N, I, V, W, F, T, C, E}
use Rattle.plural_operands.specs.Operands.{of_whole}
use Rattle.plural_reference.specs.Truth.{RelationMeaning, relation_truth, under, is_in_ranges, holds_value, remainder}
use Rattle.plural_operands.specs.Operands.{operand_value}
use Rattle.std.proofs.Math.Nat.{zero-mod}
use Rattle.plural_runtime.specs.declared.range.RangeOrValue.{RangeOrValue}
use Rattle.plural_runtime.specs.declared.range.RangeOrValue.TheVariants.{Range, Value}
use Rattle.plural_runtime.specs.RuleKinds.{ends, range_or_value}
use Rattle.std.specs.List.{slice_get}
use Rattle.std.proofs.lemmas.Option.{get_or_from_slice_get}
use Rattle.plural_base.specs.Inner.WholeNumbers.{whole_value}
use Rattle.plural_base.specs.ToldCategories.{is_of_number}

-- every operand has a value at a whole number
pub operand_value-whole : (operand : Operand) (n : ℕ) → operand_value operand (of_whole n) ≡ Some (whole_value operand n)
operand_value-whole N n = refl
operand_value-whole I n = refl
operand_value-whole V n = refl
operand_value-whole W n = refl
operand_value-whole F n = refl
operand_value-whole T n = refl
operand_value-whole C n = refl
operand_value-whole E n = refl

-- the ends of a range as it is read are the range's
pub ends-range_or_value : (range : ℕ × ℕ) → ends (range_or_value range) ≡ range
ends-range_or_value (start, end) = by (start == end) refl
  where
    by : (same : Bool) → (start == end) ≡ same → ends (if same then Value start else Range start end) ≡ (start, end)
    by true e = ap (λ k. (start, k)) (eqb-true start end e)
    by false e = refl

-- the truth of a relation at a whole number is by its operand's value
pub relation_truth-whole : (relation : RelationMeaning) (n : ℕ) → relation_truth (of_whole n) relation
    ≡ under relation.operator (is_in_ranges relation.ranges (remainder relation.modulus (whole_value relation.operand n)))
relation_truth-whole relation n =
    ap (λ value. under relation.operator (holds_value relation.ranges (option_map (remainder relation.modulus) value)))
    (operand_value-whole relation.operand n)

-- n and i are the number, and the others are 0
pub whole_self : (operand : Operand) (n : ℕ) → is_of_number operand ≡ true → n ≡ whole_value operand n
whole_self N n is = refl
whole_self I n is = refl
whole_self V n is = absurd (cc is)
whole_self W n is = absurd (cc is)
whole_self F n is = absurd (cc is)
whole_self T n is = absurd (cc is)
whole_self C n is = absurd (cc is)
whole_self E n is = absurd (cc is)

pub whole_zero : (operand : Operand) (n : ℕ) → is_of_number operand ≡ false → whole_value operand n ≡ 0
whole_zero N n is = absurd (cc is)
whole_zero I n is = absurd (cc is)
whole_zero V n is = refl
whole_zero W n is = refl
whole_zero F n is = refl
whole_zero T n is = refl
whole_zero C n is = refl
whole_zero E n is = refl

-- 0 leaves 0
pub remainder_zero : (modulus : ℕ) → remainder modulus 0 ≡ 0
remainder_zero modulus = by (modulus == 0)
  where
    by : (none : Bool) → (if none then 0 else (0 % modulus)) ≡ 0
    by true = refl
    by false = zero-mod modulus

-- the ends of a range that is read at a place are those of the range there
pub range_at : (ranges : List (ℕ × ℕ)) (place : ℕ) (range : RangeOrValue) (d : ℕ × ℕ)
    → Some range ≡ option_map range_or_value (slice_get ranges place) → ends range ≡ get_or ranges place d
range_at ranges place range d = by (slice_get ranges place) refl
  where
    by : (found : Option (ℕ × ℕ)) → slice_get ranges place ≡ found → Some range ≡ option_map range_or_value found
        → ends range ≡ get_or ranges place d
    by None e same = cc
    by (Some pair) e same =
        let is : range ≡ range_or_value pair = cc in
        ap ends is ∙ ends-range_or_value pair ∙ sym (get_or_from_slice_get ranges place pair d e)
