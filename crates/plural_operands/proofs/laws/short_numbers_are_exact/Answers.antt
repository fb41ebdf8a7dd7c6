use Rattle.plural_operands.proofs.numbers.OperandLawsProved.{all_is_kept}
use Rattle.plural_operands.proofs.laws.short_numbers_are_exact.Goals as goal

pub returns : goal.returns
returns c = all_is_kept
