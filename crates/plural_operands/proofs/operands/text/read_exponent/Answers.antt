use Rattle.std.proofs.Common.{◌≡◌, ◌-◌, ◌∷◌, ℕ, List, drop, take, length, get_or, arith, rules, subst}
use Rattle.std.proofs.lemmas.List.{take_rest}
use Rattle.plural_operands.specs.OperandText.{WritesCount}
use Rattle.plural_operands.specs.Inner.OperandReader.{IsReading}
use Rattle.plural_operands.proofs.numbers.OperandTexts.{answer_exponent, first_and_rest}
use Rattle.plural_operands.proofs.operands.text.read_exponent.Goals as goal

pub returns-in-101 : goal.returns-in-101
returns-in-101 c =
    let text = c.args.text.now in
    let first : get_or text 0 0 ≡ 101 = search rules in
    let parts : text ≡ 101 ∷ drop 1 text = first_and_rest text 101 (omega (arith, c.in-101.len_at_least)) first in
    let rest : take (length text - 1) (drop 1 text) ≡ drop 1 text = take_rest text 1 in
    answer_exponent text (drop 1 text) c.read_last_count.result parts
    (subst (λ (l : List ℕ). IsReading (WritesCount l) c.read_last_count.result) rest c.read_last_count.ensures)
