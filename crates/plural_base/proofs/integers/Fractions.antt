-- Numbers that show a fraction.
use Rattle.std.proofs.lemmas.Nat.Bits.{bit_at-pow_other}
use Rattle.std.specs.Int.{bit_at}
use Rattle.plural_base.specs.Inner.Masks.{has_bit}
use Rattle.plural_base.proofs.integers.Bits.{differs, not_both, same_test}
use Rattle.std.proofs.Common.{◌≡◌, ◌≢◌, ap, ◌∙◌, sym, eq-eqb, ℕ, ◌<◌, List, refl, Bool, true, false, Some, None, arith}
use Rattle.std.specs.Prelude.{◌==◌, if◌then◌else◌, option_map}
use Rattle.std.proofs.lemmas.Bool.{eqb-true}
use Rattle.plural_operands.specs.Operands.{Operands}
use Rattle.plural_operands.specs.declared.operand.Operand.TheVariants.{N}
use Rattle.plural_reference.specs.Truth.{holds_value, remainder}
use Rattle.plural_operands.specs.Operands.{operand_value}
use Rattle.plural_base.specs.declared.rules.fractions.Fractions.TheVariants.{Shown, NotZero}
use Rattle.plural_base.specs.declared.rules.fractions.Fractions.{Fractions}
use Rattle.plural_base.specs.FiveRules.{FiveRules}
use Rattle.plural_base.specs.Inner.FractionClasses.{FractionsAre, IsOfFractions, class_of, fraction_category, is_told_of_fraction}
use Rattle.plural_base.specs.Inner.WholeNumbers.{told_category}

-- a fraction that is shown, and one that isn't 0
pub is_shown : (o : Operands) → 0 < o.v → IsOfFractions Shown o
is_shown o shown = record { shown = shown; not_zero = λ e. absurd (cc e) }

pub is_not_zero : (o : Operands) → 0 < o.v → 0 < o.w → IsOfFractions NotZero o
is_not_zero o shown above = record { shown = shown; not_zero = λ e. above }

-- n has no value if the fraction isn't 0
pub no_whole_number : (o : Operands) (ranges : List (ℕ × ℕ)) (modulus : ℕ) → 0 < o.w
    → holds_value ranges (option_map (remainder modulus) (operand_value N o)) ≡ false
no_whole_number o ranges modulus above = by (o.w == 0) refl
  where
    by : (none : Bool) → (o.w == 0) ≡ none → holds_value ranges (option_map (remainder modulus) (if none then Some o.i else None)) ≡ false
    by true e = let zero : o.w ≡ 0 = eqb-true o.w 0 e in absurd (omega arith)
    by false e = refl

-- the mask of the second class has it, and no other
pub second_bit : (class : ℕ) → has_bit 2 class ≡ (class == 1)
unfolding has_bit
second_bit class = by (class == 1) refl
  where
    by : (same : Bool) → (class == 1) ≡ same → (bit_at 2 class == 1) ≡ same
    by true e = ap (λ k. bit_at 2 k == 1) (eqb-true class 1 e)
    by false e =
        let other : class ≢ 1 = λ same. not_both (class == 1) (eq-eqb class 1 same) e in
        ap (λ bit. bit == 1) (bit_at-pow_other 1 class other)

-- what is told of a number, by its class
pub no_fraction : (rules : FiveRules) (o : Operands) → o.v ≡ 0 → fraction_category rules o ≡ None
no_fraction rules o none =
    ap (λ b. if b then None
    else (if o.w == 0 then told_category (is_told_of_fraction 0) o rules else told_category (is_told_of_fraction 1) o rules))
    (same_test o.v 0 none)

pub by_class : (rules : FiveRules) (o : Operands) (fractions : Fractions) → FractionsAre o (Some fractions)
    → told_category (is_told_of_fraction (class_of fractions)) o rules ≡ fraction_category rules o
by_class rules o fractions are = by fractions are
  where
    by : (f : Fractions) → FractionsAre o (Some f) → told_category (is_told_of_fraction (class_of f)) o rules ≡ fraction_category rules o
    by Shown are =
        let v = differs o.v 0 (λ none. let above = are.0 in absurd (omega arith)) in
        let w = same_test o.w 0 are.1 in
        sym (ap (λ b. if b then None else (if o.w == 0 then told_category (is_told_of_fraction 0) o rules else told_category (is_told_of_fraction 1) o rules)) v
        ∙ ap (λ b. if b then told_category (is_told_of_fraction 0) o rules else told_category (is_told_of_fraction 1) o rules) w)
    by NotZero are =
        let v = differs o.v 0 (λ none. let above = are.0 in absurd (omega arith)) in
        let w = differs o.w 0 (λ none. let above = are.1 in absurd (omega arith)) in
        sym (ap (λ b. if b then None else (if o.w == 0 then told_category (is_told_of_fraction 0) o rules else told_category (is_told_of_fraction 1) o rules)) v
        ∙ ap (λ b. if b then told_category (is_told_of_fraction 0) o rules else told_category (is_told_of_fraction 1) o rules) w)
