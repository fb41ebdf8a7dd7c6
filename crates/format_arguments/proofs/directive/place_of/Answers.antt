use Rattle.std.proofs.Common.{◌≡◌, ◌+◌, ◌-◌, ◌*◌, ◌∙◌, min, drop, get_or, ℕ, ap, arith, sym}
use Rattle.format_arguments.specs.declared.directive.TheConstants.{PLACE_LIMIT}
use Rattle.format_arguments.specs.DirectiveBytes.{number_from, place_of_digits}
use Rattle.format_arguments.proofs.Numerals.{digit_more, no_digit_left}
use Rattle.format_arguments.proofs.directive.place_of.Goals as goal

pub loop-digit-preserved : goal.loop-digit-preserved
loop-digit-preserved c =
    let digits = c.args.digits.now in
    let k = c.loop-digit.digit-index in
    let place = c.loop-digit.place in
    let is : c.min-place.result ≡ min PLACE_LIMIT (place * 10 + (get_or digits k 0 - 48)) =
    omega (arith, c.min-place.ensures, c.from-value.ensures, c.saturating_sub.ensures) in
    record {
      same = ap (λ (n : ℕ). min (number_from n (drop (k + 1) digits)) PLACE_LIMIT) is
          ∙ (digit_more PLACE_LIMIT digits k place c.loop-digit-test.true ∙ c.loop-digit.invariant.same);
      within = omega (arith, is);
    }

pub returns : goal.returns
unfolding place_of_digits
returns c =
    sym (no_digit_left PLACE_LIMIT c.args.digits.now c.loop-digit.digit-index c.loop-digit.place c.loop-digit-test.false
    c.loop-digit.invariant.within)
    ∙ c.loop-digit.invariant.same
