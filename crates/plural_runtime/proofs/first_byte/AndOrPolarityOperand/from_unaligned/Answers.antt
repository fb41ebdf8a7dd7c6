use Rattle.std.proofs.Common.{ap, Some}
use Rattle.plural_runtime.proofs.bytes.FirstBytes.{parts_found}
use Rattle.plural_runtime.proofs.first_byte.AndOrPolarityOperand.from_unaligned.Goals as goal

pub returns-clause-found : goal.returns-clause-found
returns-clause-found c = λ parts e.
    let operand = c.in_ok-operand.operand in
    ap Some
    (parts_found c.args.byte parts c.and_or_of.result c.polarity_of.result operand e c.and_or_of.ensures c.polarity_of.ensures
    c.in_ok-operand.ensures.operand)
