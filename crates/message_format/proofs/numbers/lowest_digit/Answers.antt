use Rattle.std.proofs.Common.{◌∙◌, sym, arith}
use Rattle.std.proofs.lemmas.Int.{ints}
use Rattle.message_format.proofs.Outside.{zeros_below_next}
use Rattle.message_format.proofs.numbers.lowest_digit.Goals as goal

pub loop-power-preserved : goal.loop-power-preserved
loop-power-preserved c = record {
  zeros = λ k h.
      zeros_below_next c.args.number.now _ _ k c.loop-power.invariant.zeros (sym c.digit_of.ensures ∙ c.if-digit_of-ne0.false)
      (omega (arith, ints)) h;
  low = let l = c.loop-power.invariant.low in omega (arith, ints);
}
