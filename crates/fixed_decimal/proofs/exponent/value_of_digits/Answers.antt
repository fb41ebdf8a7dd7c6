use Rattle.std.proofs.Common.{◌≡◌, ◌<◌, ◌^◌, ◌≤◌, length, take, arith, ap}
use Rattle.std.proofs.lemmas.List.{length-take-le, take-map}
use Rattle.fixed_decimal.specs.Digits.{value_of, AreDigits}
use Rattle.fixed_decimal.specs.Inner.TextParts.{digits_in}
use Rattle.fixed_decimal.proofs.Spans.{AreDigits-take}
use Rattle.fixed_decimal.proofs.Points.{digits_back, length-digits_in}
use Rattle.fixed_decimal.proofs.Values.{value_of-most}
use Rattle.fixed_decimal.proofs.exponent.value_of_digits.Goals as goal

pub overflow_mul-value : goal.overflow_mul-value
overflow_mul-value c =
    let text = c.args.digits.now in
    let i = c.loop-byte.byte-index in
    let digits : AreDigits (take i (digits_in text)) = AreDigits-take i (digits_in text) (digits_back text c.requires.digits).0 in
    let same : take i (digits_in text) ≡ digits_in (take i text) = take-map _ i text in
    let few : length (take i (digits_in text)) ≤ 2
    = omega (arith, ap length same, length-digits_in (take i text), length-take-le i text (omega arith)) in
    let small : value_of (take i (digits_in text)) < 10 ^ 2 = value_of-most (take i (digits_in text)) 2 digits few in
    omega (arith, small, ap value_of same, c.loop-byte.invariant)
