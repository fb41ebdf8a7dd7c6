use Rattle.std.proofs.Common.{◌≡◌, ◌∙◌, ap, arith}
use Rattle.fixed_decimal.specs.Digits.{value_of}
use Rattle.message_format.specs.Inner.FormatColumns.{most_fraction, decimal_of_digits}
use Rattle.message_format.proofs.Distances.{is_difference_at, if_ok}
use Rattle.message_format.proofs.difference.difference.Goals as goal

pub returns : goal.returns
returns c =
    let x = c.args.number.now in
    let o = c.args.offset.now in
    let w = c.without_zeros-shortest.ensures in
    let p = c.places_after-places.ensures.fraction in
    let q = c.places_after-offset_places.ensures.fraction in
    let m = c.max-fraction.ensures in
    let f : c.max-fraction.result ≡ most_fraction x o = omega arith in
    if_ok c.text_of_number.result _ _
    (λ text e. (
      decimal_of_digits c.is_negative-negative.result c.max-fraction.result c.without_zeros-shortest.result.now,
      is_difference_at x o c.in_ok-below.below c.is_negative-negative.result c.in_ok-below.digits.items c.without_zeros-shortest.result.now
          c.max-fraction.result f c.in_ok-below.ensures
          (w.value ∙ ap value_of c.deref.ensures.value) w.digits w.least w.shortest c.is_negative-negative.ensures,
      e,
    ))
    c.text_of_number.ensures
