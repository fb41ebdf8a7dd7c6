use Rattle.std.proofs.Common.{◌≡◌, ◌≢◌, ◌-◌, ◌≤◌, List, ℕ, drop, take, length, get_or, max, arith, rules, subst, refl, ap, ◌∙◌}
use Rattle.std.proofs.lemmas.List.{take_rest}
use Rattle.plural_operands.specs.Operands.{Operands}
use Rattle.plural_operands.specs.Inner.ShortTexts.{HasFront, HasFractionFront, HasPlain}
use Rattle.plural_operands.proofs.numbers.OperandTexts.{first_and_rest}
use Rattle.plural_operands.proofs.numbers.ShortReading.{pointed_plain, whole_plain}
use Rattle.plural_operands.proofs.operands.short_text.short_unsigned.Goals as goal

-- a fraction was read behind the point
behind_point : (text rest more : List ℕ) (n whole : ℕ) (o : Operands) → HasFront text n rest → 1 ≤ length rest → get_or rest 0 0 ≡ 46
    → HasFractionFront (take (length rest - 1) (drop 1 rest)) o more → o.i ≡ n → o.c ≡ 0 → o.v ≢ 0
    → whole ≡ max (length text - length rest) 1 → HasPlain text o whole more
behind_point text rest more n whole o front some first fraction i c shown places =
    pointed_plain text rest (drop 1 rest) more n whole o front (first_and_rest rest 46 (omega (arith, some)) first)
    (subst (λ (l : List ℕ). HasFractionFront l o more) (take_rest rest 1) fraction) i c shown places

pub with_exponent-requires : goal.with_exponent-requires
with_exponent-requires c =
    let first : get_or c.short_front-i.result.1.now 0 0 ≡ 46 = search rules in
    let h = behind_point c.args.text.now c.short_front-i.result.1.now c.with_fraction-digits.result.1.now c.short_front-i.result.0
    c.max.result c.with_fraction-digits.result.0 c.short_front-i.ensures.front c.in-46.len_at_least first
    c.with_fraction-digits.ensures.fraction c.with_fraction-digits.ensures.integer c.with_fraction-digits.ensures.exponent
    (λ e. c.if-digits-eq0.false (ap (λ o. o.v) c.digits.view_is ∙ e)) (omega (arith, c.max.ensures)) in
    (h.x, h.plain)

pub with_exponent-requires-in_default-2 : goal.with_exponent-requires-in_default-2
with_exponent-requires-in_default-2 c =
    let rest : List ℕ = c.short_front-i.result.1.now in
    let whole : ℕ = length c.args.text.now - length c.short_front-i.result.1.now in
    let h = whole_plain c.args.text.now rest c.short_front-i.result.0 whole c.from.result c.short_front-i.ensures.front refl (omega arith) c.from.ensures in
    (h.x, h.plain)

pub returns-else-digits-eq0 : goal.returns-else-digits-eq0
returns-else-digits-eq0 c =
    let first : get_or c.short_front-i.result.1.now 0 0 ≡ 46 = search rules in
    c.with_exponent.ensures c.args.text.now
    (behind_point c.args.text.now c.short_front-i.result.1.now c.with_fraction-digits.result.1.now c.short_front-i.result.0
    c.max.result c.with_fraction-digits.result.0 c.short_front-i.ensures.front c.in-46.len_at_least first
    c.with_fraction-digits.ensures.fraction c.with_fraction-digits.ensures.integer c.with_fraction-digits.ensures.exponent
    (λ e. c.if-digits-eq0.false (ap (λ o. o.v) c.digits.view_is ∙ e)) (omega (arith, c.max.ensures)))

pub returns-in_default-2 : goal.returns-in_default-2
returns-in_default-2 c =
    let rest : List ℕ = c.short_front-i.result.1.now in
    let whole : ℕ = length c.args.text.now - length c.short_front-i.result.1.now in
    c.with_exponent-in_default-2.ensures c.args.text.now
    (whole_plain c.args.text.now rest c.short_front-i.result.0 whole c.from.result c.short_front-i.ensures.front refl (omega arith) c.from.ensures)
