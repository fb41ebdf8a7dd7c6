use Rattle.std.proofs.Common.{◌-◌, ◌%◌, ◌^◌, arith, sym, subst}
use Rattle.plural_operands.specs.Inner.ShortTexts.{IsTrimmedAt}
use Rattle.plural_operands.proofs.numbers.Numbers.{power_above}
use Rattle.plural_operands.proofs.numbers.Shifts.{none_left, some_left}
use Rattle.plural_operands.proofs.operands.shifted.left_of_trimmed.Goals as goal

pub nonzero_rem-result : goal.nonzero_rem-result
nonzero_rem-result c = omega (arith, c.power_of_ten.ensures, power_above (c.args.w - c.args.exponent))

pub returns-then-w-exponent : goal.returns-then-w-exponent
returns-then-w-exponent c places f h inside = none_left places f c.args.w c.args.t c.args.exponent h inside (omega arith)

pub returns : goal.returns
returns c places f h inside =
    subst (λ (n : _). IsTrimmedAt (places - c.args.exponent) (f % 10 ^ (places - c.args.exponent)) (c.args.w - c.args.exponent) (c.args.t % n))
    (sym c.power_of_ten.ensures) (some_left places f c.args.w c.args.t c.args.exponent h (omega arith))
