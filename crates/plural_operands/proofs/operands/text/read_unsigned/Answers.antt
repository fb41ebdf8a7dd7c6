use Rattle.std.proofs.Common.{◌≡◌, ◌≢◌, ◌-◌, ◌∷◌, ℕ, List, drop, take, length, get_or, arith, rules, sym, subst, suc, ap}
use Rattle.std.proofs.lemmas.List.{take_rest}
use Rattle.plural_operands.specs.OperandText.{WritesExponent}
use Rattle.plural_operands.specs.Inner.OperandReader.{IsReading, WritesBehindPoint}
use Rattle.plural_operands.proofs.numbers.OperandTexts.{answer_pointed, first_and_rest, no_unpointed, no_unsigned, unpointed}
use Rattle.plural_operands.proofs.operands.text.read_unsigned.Goals as goal
use Rattle.plural_operands.proofs.operands.text.read_unsigned.Goals.{in_default-via-then-rest-lt1}
use Rattle.plural_operands.proofs.operands.text.read_unsigned.Goals.{in_default-via-else-rest-lt1+in_default-1}

pub returns-in_err-i : goal.returns-in_err-i
returns-in_err-i c = rw c.from_residual.ensures (no_unsigned c.args.text.now c.in_err-i.ensures.none)

pub returns-in_err-read_exponent-in_default : goal.returns-in_err-read_exponent-in_default
returns-in_err-read_exponent-in_default c =
    let rest = c.in_ok-i.rest.now in
    let other : (more : List ℕ) → rest ≢ 46 ∷ more = λ more e. elim c.in_default.branch [
      | in_default-via-then-rest-lt1 w ↦ let size : length rest ≡ suc (length more) = ap length e in search rules
      | in_default-via-else-rest-lt1+in_default-1 w ↦ let first : get_or rest 0 0 ≡ 46 = ap (λ l. get_or l 0 0) e in search rules
    ] in
    rw c.from_residual-in_err-read_exponent-in_default.ensures
    (no_unpointed c.args.text.now c.in_ok-i.i rest c.in_ok-i.ensures.found other c.in_err-read_exponent-in_default.ensures)

pub returns-in-46 : goal.returns-in-46
returns-in-46 c =
    let rest = c.in_ok-i.rest.now in
    let first : get_or rest 0 0 ≡ 46 = search rules in
    let parts : rest ≡ 46 ∷ drop 1 rest = first_and_rest rest 46 (omega (arith, c.in-46.len_at_least)) first in
    let more : take (length rest - 1) (drop 1 rest) ≡ drop 1 rest = take_rest rest 1 in
    answer_pointed c.args.text.now c.in_ok-i.i rest (drop 1 rest) c.read_fraction.result c.in_ok-i.ensures.found parts
    (subst (λ (l : List ℕ). IsReading (WritesBehindPoint c.in_ok-i.i l) c.read_fraction.result) more c.read_fraction.ensures)

pub returns-in_ok-read_exponent-in_default : goal.returns-in_ok-read_exponent-in_default
returns-in_ok-read_exponent-in_default c =
    let rest = c.in_ok-i.rest.now in
    let exponent = subst (WritesExponent rest) (sym c.from_parts.ensures.exponent) c.in_ok-read_exponent-in_default.ensures in
    unpointed c.args.text.now c.in_ok-i.i rest c.from_parts.result c.in_ok-i.ensures.found
    c.from_parts.ensures.integer c.from_parts.ensures.fraction exponent
