use Rattle.std.proofs.Common.{◌≡◌, ◌+◌, ◌*◌, ◌^◌, ◌<◌, get_or, take, arith, rules, sym, ◌∙◌, ap}
use Rattle.fixed_decimal.specs.Digits.{value_of}
use Rattle.fixed_decimal.proofs.Values.{value_of-more, value_of-next}
use Rattle.fixed_decimal.proofs.digits.number_of_digits.Goals as goal

pub overflow_mul-number : goal.overflow_mul-number
overflow_mul-number c =
    let small : c.loop-digit.number * 10 + get_or c.args.digits.now c.loop-digit.digit-index 0 < 10 ^ 18
    = value_of-next c.args.digits.now c.loop-digit.digit-index c.loop-digit.number c.requires.digits c.requires.few
    (omega arith) c.loop-digit.invariant in
    omega arith

pub overflow_add-number : goal.overflow_add-number
overflow_add-number c =
    let small : c.loop-digit.number * 10 + get_or c.args.digits.now c.loop-digit.digit-index 0 < 10 ^ 18
    = value_of-next c.args.digits.now c.loop-digit.digit-index c.loop-digit.number c.requires.digits c.requires.few
    (omega arith) c.loop-digit.invariant in
    omega arith

pub loop-digit-preserved : goal.loop-digit-preserved
loop-digit-preserved c =
    let digit : c.from.result ≡ get_or c.args.digits.now c.loop-digit.digit-index 0 = search rules in
    ap (λ n. n * 10 + c.from.result) c.loop-digit.invariant
    ∙ ap (λ d. value_of (take c.loop-digit.digit-index c.args.digits.now) * 10 + d) digit
    ∙ sym (value_of-more c.args.digits.now c.loop-digit.digit-index (omega arith))
