use Rattle.std.proofs.Common.{◌-◌, ◌∙◌, sym, length, arith}
use Rattle.fixed_decimal.proofs.Making.{length-written}
use Rattle.fixed_decimal.proofs.Sides.{part_is_digits, two_parts, between_parts, on_a_side}
use Rattle.fixed_decimal.proofs.span.digits_between.Goals as goal

pub returns-clause-digits : goal.returns-clause-digits
returns-clause-digits c =
    two_parts c.in_ok-digits.digits.items c.push_digits.new.digits.items c.push_digits-2.new.digits.items _ _
    c.in_ok-digits.ensures.items c.push_digits.ensures.items c.push_digits-2.ensures.items
    ∙ sym (between_parts c.args.whole.now c.args.fraction.now c.args.from c.args.end
    (c.min-2.result - c.min.result)
    (c.saturating_sub-2.result - c.saturating_sub.result) c.min.result c.saturating_sub.result c.max-places.result
    c.requires.order c.max-places.ensures (omega (arith, length-written c.args.whole.now c.args.fraction.now))
    (on_a_side (length c.args.whole.now) c.args.from c.max-places.result c.max-places.ensures c.requires.no_digit)
    c.min.ensures (omega arith) c.saturating_sub.ensures (omega arith))

pub push_digits-requires-clause-text : goal.push_digits-requires-clause-text
push_digits-requires-clause-text c =
    part_is_digits c.args.whole.now c.min.result (c.min-2.result - c.min.result) c.requires.whole

pub push_digits-requires-2-clause-text : goal.push_digits-requires-2-clause-text
push_digits-requires-2-clause-text c =
    part_is_digits c.args.fraction.now c.saturating_sub.result (c.saturating_sub-2.result - c.saturating_sub.result) c.requires.fraction
