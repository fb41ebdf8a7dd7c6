use Rattle.std.proofs.Common.{pos, ◌-ℤ◌, ap, length, arith}
use Rattle.std.proofs.lemmas.Int.{ints}
use Rattle.fixed_decimal.specs.declared.decimal.Decimal.{Decimal}
use Rattle.message_format.proofs.Outside.{above, below}
use Rattle.message_format.proofs.numbers.powers_of.Goals as goal

pub returns-clause-outside : goal.returns-clause-outside
returns-clause-outside c =
    let x = c.args.number.now in
    let fraction = ap (λ (d : Decimal). length d.absolute.fraction) c.significand.ensures in
    let whole = ap (λ (d : Decimal). length d.absolute.whole) c.significand.ensures in
    record {
      below = λ k h. below x.significand.absolute (k -ℤ pos x.exponent)
          (omega (arith, ints, fraction, c.magnitude_range-low.ensures.within.fraction));
      above = λ k h. above x.significand.absolute (k -ℤ pos x.exponent)
          (omega (arith, ints, whole, c.magnitude_range-low.ensures.written.nonempty, c.magnitude_range-low.ensures.within.whole));
    }
