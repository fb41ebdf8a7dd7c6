use Rattle.std.proofs.Common.{◌≡◌, ℕ, ◌+◌, ◌-◌, ◌*◌, ◌/◌, ◌%◌, ◌^◌, ◌<◌, ◌≤◌, arith, ap, sym, subst, refl, ◌∙◌}
use Rattle.plural_operands.specs.Inner.ShortTexts.{IsTrimmedAt}
use Rattle.plural_operands.proofs.numbers.Numbers.{power_above}
use Rattle.plural_operands.proofs.numbers.Shifts.{kept_past, kept_before, shifted_whole_below, shifted_fraction_below, divided_fraction_below}
use Rattle.plural_operands.proofs.operands.shifted.shifted.Goals as goal

pub overflow_mul-i : goal.overflow_mul-i
overflow_mul-i c =
    let i : c.digits.inside.i * c.power_of_ten.result < 10 ^ 18
    = shifted_whole_below c.requires.0 c.args.whole c.args.exponent c.args.digits c.digits.inside.i c.power_of_ten.result
    c.requires.1 (omega arith) (ap (λ o. o.i) c.digits.view_is) c.power_of_ten.ensures in
    omega arith

pub overflow_mul-result : goal.overflow_mul-result
overflow_mul-result c =
    let v : c.digits.inside.v ≡ c.args.digits.v = ap (λ o. o.v) c.digits.view_is in
    let f : c.digits.inside.f * c.power_of_ten-then-exponent-digits.result < 10 ^ 18
    = shifted_fraction_below c.requires.0 c.args.whole c.args.exponent c.args.digits c.digits.inside.f
    c.power_of_ten-then-exponent-digits.result c.requires.1 (omega arith) (omega arith) (ap (λ o. o.f) c.digits.view_is)
    (c.power_of_ten-then-exponent-digits.ensures ∙ ap (λ k. 10 ^ (c.args.exponent - k)) v) in
    omega arith

pub overflow_add-result : goal.overflow_add-result
overflow_add-result c =
    let v : c.digits.inside.v ≡ c.args.digits.v = ap (λ o. o.v) c.digits.view_is in
    let i : c.digits.inside.i * c.power_of_ten.result < 10 ^ 18
    = shifted_whole_below c.requires.0 c.args.whole c.args.exponent c.args.digits c.digits.inside.i c.power_of_ten.result
    c.requires.1 (omega arith) (ap (λ o. o.i) c.digits.view_is) c.power_of_ten.ensures in
    let f : c.digits.inside.f * c.power_of_ten-then-exponent-digits.result < 10 ^ 18
    = shifted_fraction_below c.requires.0 c.args.whole c.args.exponent c.args.digits c.digits.inside.f
    c.power_of_ten-then-exponent-digits.result c.requires.1 (omega arith) (omega arith) (ap (λ o. o.f) c.digits.view_is)
    (c.power_of_ten-then-exponent-digits.ensures ∙ ap (λ k. 10 ^ (c.args.exponent - k)) v) in
    omega arith

pub returns-then-exponent-digits : goal.returns-then-exponent-digits
returns-then-exponent-digits c x h =
    let i : c.digits.inside.i ≡ c.args.digits.i = ap (λ o. o.i) c.digits.view_is in
    let v : c.digits.inside.v ≡ c.args.digits.v = ap (λ o. o.v) c.digits.view_is in
    let f : c.digits.inside.f ≡ c.args.digits.f = ap (λ o. o.f) c.digits.view_is in
    let few : c.args.whole ≤ 18 = h.few in
    let read : c.digits.inside.i * c.power_of_ten.result + c.digits.inside.f * c.power_of_ten-then-exponent-digits.result
    ≡ c.args.digits.i * 10 ^ c.args.exponent + c.args.digits.f * 10 ^ (c.args.exponent - c.args.digits.v)
    = rw (c.power_of_ten.ensures, c.power_of_ten-then-exponent-digits.ensures, i, f, v) refl in
    kept_past x c.args.whole c.args.exponent c.args.digits _ h (omega arith) (omega arith) read refl refl refl refl refl

pub nonzero_div-result : goal.nonzero_div-result
nonzero_div-result c = omega (arith, c.power_of_ten-unit.ensures, power_above (c.digits.inside.v - c.args.exponent))

pub overflow_add-result-2 : goal.overflow_add-result-2
overflow_add-result-2 c =
    let i : c.digits.inside.i * c.power_of_ten.result < 10 ^ 18
    = shifted_whole_below c.requires.0 c.args.whole c.args.exponent c.args.digits c.digits.inside.i c.power_of_ten.result
    c.requires.1 (omega arith) (ap (λ o. o.i) c.digits.view_is) c.power_of_ten.ensures in
    let f : c.digits.inside.f / c.power_of_ten-unit.result < 10 ^ 18
    = divided_fraction_below c.requires.0 c.args.whole c.args.digits c.digits.inside.f c.power_of_ten-unit.result
    c.requires.1 (ap (λ o. o.f) c.digits.view_is) in
    omega arith

pub nonzero_rem-result : goal.nonzero_rem-result
nonzero_rem-result c = omega (arith, c.power_of_ten-unit.ensures, power_above (c.digits.inside.v - c.args.exponent))

pub returns : goal.returns
returns c x h =
    let i : c.digits.inside.i ≡ c.args.digits.i = ap (λ o. o.i) c.digits.view_is in
    let v : c.digits.inside.v ≡ c.args.digits.v = ap (λ o. o.v) c.digits.view_is in
    let f : c.digits.inside.f ≡ c.args.digits.f = ap (λ o. o.f) c.digits.view_is in
    let few : c.args.whole ≤ 18 = h.few in
    let unit : c.power_of_ten-unit.result ≡ 10 ^ (c.args.digits.v - c.args.exponent)
    = c.power_of_ten-unit.ensures ∙ ap (λ k. 10 ^ (k - c.args.exponent)) v in
    let read : c.digits.inside.i * c.power_of_ten.result + c.digits.inside.f / c.power_of_ten-unit.result
    ≡ c.args.digits.i * 10 ^ c.args.exponent + c.args.digits.f / 10 ^ (c.args.digits.v - c.args.exponent)
    = rw (c.power_of_ten.ensures, unit, i, f) refl in
    let rest : c.digits.inside.f % c.power_of_ten-unit.result ≡ c.args.digits.f % 10 ^ (c.args.digits.v - c.args.exponent)
    = rw (unit, f) refl in
    let trimmed : IsTrimmedAt (c.args.digits.v - c.args.exponent) (c.args.digits.f % 10 ^ (c.args.digits.v - c.args.exponent))
    c.left_of_trimmed-w.result.0 c.left_of_trimmed-w.result.1
    = c.left_of_trimmed-w.ensures c.args.digits.v c.args.digits.f
    (subst (λ (a : ℕ). IsTrimmedAt c.args.digits.v c.args.digits.f a c.digits.inside.t) (sym (ap (λ o. o.w) c.digits.view_is))
    (subst (λ (b : ℕ). IsTrimmedAt c.args.digits.v c.args.digits.f c.args.digits.w b) (sym (ap (λ o. o.t) c.digits.view_is)) h.trimmed))
    (omega arith) in
    kept_before x c.args.whole c.args.exponent c.args.digits _ h (omega arith) (omega arith) read (ap (λ k. k - c.args.exponent) v) rest trimmed refl
