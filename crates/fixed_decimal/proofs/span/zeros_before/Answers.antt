use Rattle.std.proofs.Common.{◌-◌, ◌<◌, max, length, arith}
use Rattle.fixed_decimal.proofs.Making.{length-written}
use Rattle.fixed_decimal.proofs.Sides.{zero_digit, other_fraction_digit}
use Rattle.fixed_decimal.proofs.span.zeros_before.Goals as goal

pub returns-then-zeros-whole-clause-zeros : goal.returns-then-zeros-whole-clause-zeros
returns-then-zeros-whole-clause-zeros c k least below =
    zero_digit c.args.whole.now c.args.fraction.now k
    (λ inside. c.zeros_at_front-zeros.ensures.zeros k least below)
    (λ behind. absurd (omega arith))

pub returns-else-zeros-whole-clause-zeros : goal.returns-else-zeros-whole-clause-zeros
returns-else-zeros-whole-clause-zeros c k least below =
    zero_digit c.args.whole.now c.args.fraction.now k
    (λ inside. c.zeros_at_front-zeros.ensures.zeros k least (omega arith))
    (λ behind. c.zeros_at_front.ensures.zeros (k - max (length c.args.whole.now) 1) (omega arith) (omega arith))

pub returns-else-zeros-whole-clause-other : goal.returns-else-zeros-whole-clause-other
returns-else-zeros-whole-clause-other c inside =
    let short : c.zeros_at_front.result < length c.args.fraction.now
    = omega (arith, length-written c.args.whole.now c.args.fraction.now) in
    other_fraction_digit c.args.whole.now c.args.fraction.now _ c.zeros_at_front.result c.requires.fraction short (omega arith)
    (c.zeros_at_front.ensures.other short)
