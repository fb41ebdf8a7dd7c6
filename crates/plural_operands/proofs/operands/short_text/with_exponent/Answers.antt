use Rattle.std.proofs.Common.{◌≡◌, ◌-◌, ◌∷◌, List, ℕ, drop, take, length, get_or, arith, rules, subst}
use Rattle.std.proofs.lemmas.List.{take_rest}
use Rattle.plural_operands.specs.Inner.ShortTexts.{IsShortExponent}
use Rattle.plural_operands.proofs.numbers.OperandTexts.{first_and_rest}
use Rattle.plural_operands.proofs.numbers.ShortReading.{nothing_left, without_exponent, with_exponent_if_kept}
use Rattle.plural_operands.proofs.operands.short_text.with_exponent.Goals as goal

pub returns-in-empty : goal.returns-in-empty
returns-in-empty c text h =
    without_exponent text c.args.rest.now c.args.whole c.args.digits h
    (nothing_left c.args.rest.now (omega (arith, c.in-empty.len_below)))

pub returns-in_ok-short_exponent-in-99 : goal.returns-in_ok-short_exponent-in-99
returns-in_ok-short_exponent-in-99 c text h =
    let rest : List ℕ = c.args.rest.now in
    let first : get_or c.args.rest.now 0 0 ≡ 99 = search rules in
    let parts : rest ≡ 99 ∷ drop 1 rest = first_and_rest rest 99 (omega (arith, c.in-99.len_at_least)) first in
    let more : take (length rest - 1) (drop 1 rest) ≡ drop 1 rest = take_rest rest 1 in
    with_exponent_if_kept text rest (drop 1 rest) c.args.whole c.in_ok-short_exponent-in-99.field-0 c.args.digits c.shifted.result h parts
    (subst (λ (l : List ℕ). IsShortExponent l c.in_ok-short_exponent-in-99.field-0) more c.in_ok-short_exponent-in-99.ensures)
    c.shifted.ensures
