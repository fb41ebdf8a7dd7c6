use Rattle.std.proofs.Common.{◌≡◌, ◌+◌, ◌-◌, ◌*◌, ◌^◌, ◌<◌, length, arith, ◌∙◌, ap}
use Rattle.fixed_decimal.specs.Digits.{value_of}
use Rattle.fixed_decimal.specs.Places.{shift_right, digits_from}
use Rattle.plural_operands.specs.Operands.{kept_whole}
use Rattle.plural_operands.proofs.numbers.Conversion.{below_limit, short_whole, long_whole, kept_fraction_of, same_fraction_of}
use Rattle.plural_operands.proofs.operands.PluralOperands.from_significand_and_exponent.Goals as goal
use Rattle.plural_operands.proofs.operands.PluralOperands.from_significand_and_exponent.Goals.{then-whole-le-KEPT_PLACES}
use Rattle.plural_operands.proofs.operands.PluralOperands.from_significand_and_exponent.Goals.{else-whole-le-KEPT_PLACES}

-- The last digits write less than 10 ^ 18.
pub overflow_mul-last : goal.overflow_mul-last
overflow_mul-last c =
    let small : c.number_from-last.result.0 * 10 ^ c.number_from-last.result.1 < 10 ^ 18
    = below_limit _ c.min-kept.result c.number_from-last.ensures.below (omega arith) in
    omega (arith, ap (λ n. c.number_from-last.result.0 * n) c.power_of_ten.ensures)

pub overflow_add-i : goal.overflow_add-i
overflow_add-i c =
    let small : c.number_from-last.result.0 * 10 ^ c.number_from-last.result.1 < 10 ^ 18
    = below_limit _ c.min-kept.result c.number_from-last.ensures.below (omega arith) in
    omega (arith, ap (λ n. c.number_from-last.result.0 * n) c.power_of_ten.ensures)

-- So do the fraction's.
pub from_scaled_parts-requires-clause-below : goal.from_scaled_parts-requires-clause-below
from_scaled_parts-requires-clause-below c =
    let small : c.number_from-number.result.0 * 10 ^ c.number_from-number.result.1 < 10 ^ 18
    = below_limit _ c.min-v.result c.number_from-number.ensures.below (omega arith) in
    omega arith

-- The integer part is that of the kept digits.
whole_is : (c : goal.After-from_scaled_parts)
    → c.if-whole-le-KEPT_PLACES.i ≡ kept_whole (shift_right c.args.exponent c.args.significand.now).whole
whole_is c =
    let x = c.args.significand.now in
    let whole = c.places_after-whole.ensures.whole in
    let read : c.number_from-last.result.0 * c.power_of_ten.result
    ≡ value_of (digits_from c.args.significand.now
    (length (shift_right c.args.exponent c.args.significand.now).whole - c.min-kept.result) c.min-kept.result)
    = ap (λ n. c.number_from-last.result.0 * n) c.power_of_ten.ensures
    ∙ c.number_from-last.ensures.value
    ∙ ap (λ n. value_of (digits_from c.args.significand.now (n - c.min-kept.result) c.min-kept.result)) whole in
    elim c.if-whole-le-KEPT_PLACES.branch [
      | then-whole-le-KEPT_PLACES w ↦ short_whole c.args.exponent x c.min-kept.result c.if-whole-le-KEPT_PLACES.i
          (omega arith) (omega arith) (w.i-is ∙ read)
      | else-whole-le-KEPT_PLACES w ↦ long_whole c.args.exponent x c.min-kept.result c.if-whole-le-KEPT_PLACES.i
          (omega arith) (omega arith) (w.i-is ∙ ap (λ n. n + 10 ^ 18) read)
    ]

pub returns-clause-kept : goal.returns-clause-kept
returns-clause-kept c =
    let fraction
    = kept_fraction_of c.args.exponent c.args.significand.now c.min-v.result
    (c.number_from-number.result.0 * 10 ^ c.number_from-number.result.1) (omega arith)
    (c.number_from-number.ensures.value
    ∙ ap (λ n. value_of (digits_from c.args.significand.now n c.min-v.result)) c.places_after-whole.ensures.whole) in
    record {
      i = c.from_scaled_parts.ensures.integer ∙ whole_is c;
      fraction = same_fraction_of _ _ _ _ _ fraction.0 fraction.1 c.from_scaled_parts.ensures.fraction;
      c = c.from_scaled_parts.ensures.exponent;
    }
