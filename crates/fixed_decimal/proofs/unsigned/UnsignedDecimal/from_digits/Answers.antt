use Rattle.std.proofs.Common.{◌≡◌, ◌+◌, max, length, arith, sym}
use Rattle.fixed_decimal.specs.Places.{or_zero}
use Rattle.fixed_decimal.specs.Inner.TextParts.{digits_in, written_digits}
use Rattle.fixed_decimal.specs.declared.unsigned.UnsignedDecimal.TheInside.{Inside}
use Rattle.fixed_decimal.proofs.Points.{length-digits_in}
use Rattle.fixed_decimal.proofs.Making.{spans, places_of_all, written_are_digits, length-written, length-whole_digits}
use Rattle.fixed_decimal.proofs.unsigned.UnsignedDecimal.from_digits.Goals as goal

pub invariant_of-result : goal.invariant_of-result
invariant_of-result c =
    let whole = c.args.whole.now in
    let fraction = c.args.fraction.now in
    let l : length (written_digits whole fraction) ≡ max (length whole) 1 + length fraction = length-written whole fraction in
    spans _ (written_digits whole fraction) c.end_before_zeros-end.result (omega arith) (omega arith)
    (omega arith) c.in_ok-digits_between.ensures.digits
    (omega arith) (omega arith) (omega arith) (written_are_digits whole fraction c.requires.whole c.requires.fraction)
    (λ h. c.zeros_before-from.ensures.other (omega arith)) c.end_before_zeros-end.ensures.other

pub returns-clause-places : goal.returns-clause-places
returns-clause-places c =
    let whole = c.args.whole.now in
    let fraction = c.args.fraction.now in
    let w : length (or_zero (digits_in whole)) ≡ max (length whole) 1 = length-whole_digits whole in
    let l : length (written_digits whole fraction) ≡ max (length whole) 1 + length fraction = length-written whole fraction in
    let made : Inside
    = record {
      whole_places = c.max-whole_places.result;
      fraction_places = length fraction;
      leading_zeros = c.zeros_before-from.result;
      span = c.in_ok-digits_between.field-0;
    } in
    places_of_all made (or_zero (digits_in whole)) (digits_in fraction) c.end_before_zeros-end.result (omega arith)
    (sym (length-digits_in fraction)) (omega arith) (omega arith) c.in_ok-digits_between.ensures.digits
    c.zeros_before-from.ensures.zeros c.end_before_zeros-end.ensures.zeros
