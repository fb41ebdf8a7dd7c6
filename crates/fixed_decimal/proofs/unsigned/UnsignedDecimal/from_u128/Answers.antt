use Rattle.std.proofs.Common.{◌≡◌, ◌<◌, ◌^◌, ◌∙◌, ℕ, List, [], refl, sym, ap, subst, arith}
use Rattle.std.proofs.lemmas.Result.{IfOk-weaker}
use Rattle.std.specs.Fmt.{decimal}
use Rattle.fixed_decimal.specs.Digits.{IsNumeral}
use Rattle.fixed_decimal.specs.Places.{Places}
use Rattle.fixed_decimal.specs.Inner.TextParts.{AllDigitBytes, places_of_sides}
use Rattle.fixed_decimal.proofs.Numerals.{decimal_bytes, decimal_numeral}
use Rattle.fixed_decimal.proofs.unsigned.UnsignedDecimal.from_u128.Goals as goal
use Rattle.fixed_decimal.proofs.unsigned.UnsignedDecimal.from_u128.Goals.{After-as_bytes-digits}

-- what the buffer holds
bytes : (c : After-as_bytes-digits) → c.as_bytes-digits.result.now ≡ decimal c.args.number
bytes c = c.as_bytes-digits.ensures.value ∙ c.format.ensures.text

pub from_digits-requires-clause-whole : goal.from_digits-requires-clause-whole
from_digits-requires-clause-whole c =
    let small : c.args.number < 10 ^ 64 = omega arith in
    subst (λ (t : List ℕ). AllDigitBytes t)
    (sym (bytes (goal.at.from_digits-requires-clause-whole c).After-as_bytes-digits)) (decimal_bytes c.args.number small)

pub returns-clause-digits : goal.returns-clause-digits
returns-clause-digits c =
    let small : c.args.number < 10 ^ 64 = omega arith in
    let text = bytes (goal.at.returns-clause-digits c).After-as_bytes-digits in
    IfOk-weaker c.from_digits.result (λ x. x ≡ places_of_sides c.as_bytes-digits.result.now [])
    (λ x. IsNumeral x.whole c.args.number × (x.fraction ≡ []))
    (λ x made. subst (λ (y : Places). IsNumeral y.whole c.args.number × (y.fraction ≡ []))
    (sym (made ∙ ap (λ (t : List ℕ). places_of_sides t []) text))
    (decimal_numeral c.args.number small, refl)) c.from_digits.ensures.places
