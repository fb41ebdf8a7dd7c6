use Rattle.plural_operands.proofs.numbers.OperandLawsProved.{same_below_limit, congruent_from_limit}
use Rattle.plural_operands.proofs.laws.integers_of_every_width.Goals as goal

pub returns-clause-below : goal.returns-clause-below
returns-clause-below c = same_below_limit

pub returns-clause-above : goal.returns-clause-above
returns-clause-above c = congruent_from_limit
