use Rattle.std.proofs.Common.{[], ap, sym, length}
use Rattle.std.proofs.lemmas.Bool.{eqb-false}
use Rattle.plural_operands.proofs.numbers.OperandTexts.{ending_count, one_count}
use Rattle.plural_operands.proofs.operands.text.read_last_count.Goals as goal

pub returns-in_err-count : goal.returns-in_err-count
returns-in_err-count c = rw c.from_residual.ensures (λ n w. c.in_err-count.ensures.none n [] (ending_count c.args.text.now n w))

pub returns-else-is_empty : goal.returns-else-is_empty
returns-else-is_empty c n w =
    let text = c.args.text.now in
    let rest = c.in_ok-count.rest.now in
    let same = one_count text c.in_ok-count.count rest n [] c.in_ok-count.ensures.found (ending_count text n w) in
    eqb-false (length rest) 0 (sym c.if-is_empty.ensures) (ap length same.1)
