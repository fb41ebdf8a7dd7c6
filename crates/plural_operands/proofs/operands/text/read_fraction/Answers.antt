use Rattle.plural_operands.proofs.numbers.OperandTexts.{no_exponent_behind_point}
use Rattle.plural_operands.proofs.operands.text.read_fraction.Goals as goal

pub returns-in_err-read_exponent : goal.returns-in_err-read_exponent
returns-in_err-read_exponent c =
    let w = c.in_ok-f.ensures.found in
    rw c.from_residual-in_err-read_exponent.ensures
    (no_exponent_behind_point c.args.i c.args.text.now w.0 c.in_ok-f.rest.now w.1 c.in_err-read_exponent.ensures)
