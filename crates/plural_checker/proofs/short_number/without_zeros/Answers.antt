use Rattle.std.proofs.Common.{arith}
use Rattle.plural_checker.proofs.TrailingZeros.{one_zero_less, quotient, no_fewer}
use Rattle.plural_checker.proofs.short_number.without_zeros.Goals as goal

pub loop-left-preserved : goal.loop-left-preserved
loop-left-preserved c = (
  omega arith,
  one_zero_less c.loop-left.rest c.args.shown c.loop-left.left _ c.loop-left-test.true c.loop-left.invariant.0
      c.loop-left.invariant.1 c.if-rest-eq0.true,
)

pub returns-else-rest-eq0-clause-least : goal.returns-else-rest-eq0-clause-least
returns-else-rest-eq0-clause-least c
    = no_fewer c.loop-left.rest c.args.shown c.loop-left.left _ c.loop-left.invariant.0 c.loop-left.invariant.1 c.if-rest-eq0.false

pub returns-else-rest-eq0-clause-number : goal.returns-else-rest-eq0-clause-number
returns-else-rest-eq0-clause-number c = quotient c.loop-left.rest c.args.shown c.loop-left.left _ c.loop-left.invariant.1

pub returns-after-loop-left-clause-number : goal.returns-after-loop-left-clause-number
returns-after-loop-left-clause-number c = quotient c.loop-left.rest c.args.shown c.loop-left.left _ c.loop-left.invariant.1
