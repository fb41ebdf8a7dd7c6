use Rattle.plural_operands.proofs.numbers.OperandLawsProved.{one_kept, one_exact}
use Rattle.plural_operands.proofs.laws.one_list_of_operands.Goals as goal

pub returns-clause-kept : goal.returns-clause-kept
returns-clause-kept c = one_kept

pub returns-clause-exact : goal.returns-clause-exact
returns-clause-exact c = one_exact
