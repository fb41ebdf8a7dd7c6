use Rattle.std.proofs.Common.{◌≡◌, ◌≤◌, true, false, List, ℕ, length, arith, sym, ◌∙◌, subst}
use Rattle.fixed_decimal.specs.Digits.{text_of}
use Rattle.fixed_decimal.specs.Inner.PlainSides.{IsFraction}
use Rattle.fixed_decimal.proofs.PlainTexts.{split_plain, plain_shortest, fraction_form, plain_of_parts, parts_fit, plain_number_of}
use Rattle.fixed_decimal.proofs.plain.PlainNumber.of.Goals as goal

pub returns-then-not-is_shortest-clause-none : goal.returns-then-not-is_shortest-clause-none
returns-then-not-is_shortest-clause-none c x p =
    let split = c.split_digits.ensures in
    let front = split_plain c.args.text.now c.split_digits.result.0.now c.split_digits.result.1.now x p split.digits split.end split.whole in
    let shortest = plain_shortest c.args.text.now c.split_digits.result.0.now x p front.0 in
    let e : false ≡ true = sym c.if-not-is_shortest.true ∙ c.is_shortest.ensures.1 shortest in
    absurd cc

pub returns-in_err-fraction-clause-none : goal.returns-in_err-fraction-clause-none
returns-in_err-fraction-clause-none c =
    rw c.from_residual.ensures (λ x p.
    let split = c.split_digits.ensures in
    let front = split_plain c.args.text.now c.split_digits.result.0.now c.split_digits.result.1.now x p split.digits split.end split.whole in
    let digits = text_of x.significand.absolute.fraction in
    let form = fraction_form x.significand.absolute.fraction p.digits.fraction in
    absurd (c.in_err-fraction.ensures.none digits form.0 (subst (λ (t : List ℕ). IsFraction t digits) (sym front.1) form.1)))

pub invariant_of-result : goal.invariant_of-result
invariant_of-result c =
    let short : length c.args.text.now ≤ 32767 = omega arith in
    let fit = parts_fit c.args.text.now c.split_digits.result.0.now c.split_digits.result.1.now c.in_ok-fraction.fraction.now
    c.split_digits.ensures.whole c.in_ok-fraction.ensures.form short in
    record {
      whole_digits = c.split_digits.ensures.digits;
      fraction_digits = c.in_ok-fraction.ensures.digits;
      shortest = c.is_shortest.ensures.0 c.if-not-is_shortest.false;
      whole_within = fit.0;
      fraction_within = fit.1;
    }

pub returns-clause-plain : goal.returns-clause-plain
returns-clause-plain c =
    plain_of_parts c.args.text.now c.split_digits.result.0.now c.split_digits.result.1.now c.in_ok-fraction.fraction.now
    c.split_digits.ensures.digits c.in_ok-fraction.ensures.digits (c.is_shortest.ensures.0 c.if-not-is_shortest.false)
    c.split_digits.ensures.whole c.in_ok-fraction.ensures.form

pub returns-clause-number : goal.returns-clause-number
returns-clause-number c =
    let short : length c.args.text.now ≤ 32767 = omega arith in
    plain_number_of c.args.text.now c.split_digits.result.0.now c.in_ok-fraction.fraction.now
    (plain_of_parts c.args.text.now c.split_digits.result.0.now c.split_digits.result.1.now c.in_ok-fraction.fraction.now
    c.split_digits.ensures.digits c.in_ok-fraction.ensures.digits (c.is_shortest.ensures.0 c.if-not-is_shortest.false)
    c.split_digits.ensures.whole c.in_ok-fraction.ensures.form) short
