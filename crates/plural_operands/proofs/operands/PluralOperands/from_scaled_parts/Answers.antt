use Rattle.std.proofs.Common.{◌*◌, refl, ap, arith}
use Rattle.plural_operands.proofs.operands.PluralOperands.from_scaled_parts.Goals as goal

pub overflow_mul-result : goal.overflow_mul-result
overflow_mul-result c = omega (arith, ap (λ n. c.args.number * n) c.power_of_ten.ensures)

pub returns-clause-fraction : goal.returns-clause-fraction
returns-clause-fraction c = record {
  v = refl;
  f = ap (λ n. c.args.number * n) c.power_of_ten.ensures;
  w_divides = c.without_zeros-w.ensures.divides;
  w_least = c.without_zeros-w.ensures.least;
  t = c.without_zeros-w.ensures.number;
}
