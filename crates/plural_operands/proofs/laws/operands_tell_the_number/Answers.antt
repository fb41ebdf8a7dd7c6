use Rattle.plural_operands.proofs.numbers.OperandLawsProved.{tell_the_number}
use Rattle.plural_operands.proofs.laws.operands_tell_the_number.Goals as goal

pub returns : goal.returns
returns c = tell_the_number
