use Rattle.std.proofs.Common.{arith}
use Rattle.plural_operands.proofs.numbers.ShortReading.{one_if_digit, two_digit_exponent}
use Rattle.plural_operands.proofs.operands.short_text.short_exponent.Goals as goal

pub returns-in-len1 : goal.returns-in-len1
returns-in-len1 c = one_if_digit c.args.text.now c.digit.result (omega (arith, c.in-len1.len_at_least, c.in-len1.len_below)) c.digit.ensures

pub returns-in_ok-digit-in-len2-2 : goal.returns-in_ok-digit-in-len2-2
returns-in_ok-digit-in-len2-2 c =
    two_digit_exponent c.args.text.now c.in_ok-digit-in-len2.field-0 c.in_ok-digit-in-len2-2.field-0
    (omega (arith, c.in-len2.len_at_least, c.in-len2.len_below))
    c.in_ok-digit-in-len2.ensures.0 c.in_ok-digit-in-len2.ensures.1
    c.in_ok-digit-in-len2-2.ensures.0 c.in_ok-digit-in-len2-2.ensures.1
