use Rattle.std.proofs.Common.{◌≡◌, ◌∙◌, sym, subst, pos, of_z, to_z, arith}
use Rattle.std.proofs.lemmas.Int.{ints, to_z-of_z}
use Rattle.std.specs.Prelude.{ℤ, ◌-ℤ◌}
use Rattle.fixed_decimal.specs.Places.{HasDigitFrom}
use Rattle.plural_base.proofs.exactness.is_long_after.Goals as goal
use mir.Syntax.{w16}
use mir.Val.{SFits}

pub returns : goal.returns
returns c =
    let digits = c.args.digits.now in
    let place = c.first_place_above.result in
    let fits : SFits w16 place = omega (arith, ints) in
    let same : to_z w16 (of_z w16 place) ≡ pos 18 -ℤ pos c.args.exponent = to_z-of_z w16 place fits ∙ c.first_place_above.ensures in
    let law = c.bound_before_the_shift.ensures.value digits c.args.exponent 18 c.requires in
    let P : ℤ → Type 0 = λ k. HasDigitFrom digits k in
    (λ found. law.1 (subst P same (c.has_digit_from.ensures.0 found)), λ long. c.has_digit_from.ensures.1 (subst P (sym same) (law.0 long)))
