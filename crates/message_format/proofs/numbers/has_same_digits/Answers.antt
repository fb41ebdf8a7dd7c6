use Rattle.std.proofs.Common.{◌∙◌, sym, rules, arith}
use Rattle.std.proofs.lemmas.Int.{ints, clamps}
use Rattle.message_format.proofs.Outside.{all_same, none_below, not_same, one_more}
use Rattle.message_format.proofs.numbers.has_same_digits.Goals as goal

pub loop-power-init : goal.loop-power-init
loop-power-init c = record {
  same = λ k h. none_below _ _ _ _ _ _ k c.requires.outside c.powers_of-other_low.ensures.outside (omega (arith, ints, clamps))
      (omega (arith, ints, clamps));
  low = omega (arith, ints, clamps);
}

pub overflow_add-power-end : goal.overflow_add-power-end
overflow_add-power-end c = omega (arith, ints, clamps)

pub digit_of-requires-clause-low : goal.digit_of-requires-clause-low
digit_of-requires-clause-low c = c.loop-power.invariant.low

pub digit_of-requires-clause-high : goal.digit_of-requires-clause-high
digit_of-requires-clause-high c = omega (arith, ints, clamps)

pub digit_of-requires-in-loop-power-clause-low : goal.digit_of-requires-in-loop-power-clause-low
digit_of-requires-in-loop-power-clause-low c = c.loop-power.invariant.low

pub digit_of-requires-in-loop-power-clause-high : goal.digit_of-requires-in-loop-power-clause-high
digit_of-requires-in-loop-power-clause-high c = omega (arith, ints, clamps)

-- a digit of the number is above those of the other
pub returns-then-other_high-span : goal.returns-then-other_high-span
returns-then-other_high-span c =
    not_same c.args.number.now c.args.other.now _ _ _ c.powers_of-other_low.ensures.outside (omega (arith, ints))
    (c.requires.top (omega (arith, ints)))

pub loop-power-preserved : goal.loop-power-preserved
loop-power-preserved c = record {
  same = λ k h.
      one_more c.args.number.now c.args.other.now _ _ k c.loop-power.invariant.same
      (sym c.digit_of.ensures ∙ (c.if-digit_of.false ∙ c.digit_of-in-loop-power.ensures)) (omega (arith, ints, clamps)) h;
  low = let l = c.loop-power.invariant.low in omega (arith, ints, clamps);
}

pub returns : goal.returns
returns c = (
  λ _. all_same c.args.number.now c.args.other.now _ _ _ _ _ c.requires.outside c.powers_of-other_low.ensures.outside
      (omega (arith, ints, clamps)) (omega (arith, ints, clamps)) c.loop-power.invariant.same,
  λ _. search rules,
)
