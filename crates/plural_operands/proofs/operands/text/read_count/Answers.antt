use Rattle.std.proofs.Common.{ℕ, List, sym, subst}
use Rattle.plural_operands.specs.Inner.OperandReader.{HasCount, HasWord}
use Rattle.plural_operands.proofs.numbers.OperandTexts.{count_of_word, no_count}
use Rattle.plural_operands.proofs.operands.text.read_count.Goals as goal

pub returns-in_err-number-clause-none : goal.returns-in_err-number-clause-none
returns-in_err-number-clause-none c =
    let none = subst (λ (l : List ℕ). (ds rest : List ℕ) → ¬ (HasWord l ds rest)) c.behind_sign.ensures c.in_err-number.ensures.none in
    rw c.from_residual.ensures (no_count c.args.text.now none)

pub returns-clause-found : goal.returns-clause-found
returns-clause-found c =
    let text = c.args.text.now in
    let rest = c.in_ok-number.rest.now in
    let w = c.in_ok-number.ensures.found in
    let word = subst (λ (l : List ℕ). HasWord l w.0 rest) c.behind_sign.ensures w.1 in
    subst (λ (n : ℕ). HasCount text n rest) (sym w.2) (count_of_word text w.0 rest word)
