use Rattle.plural_reference.proofs.exactness.ExactnessLawsProved.{shifted_places, long_value}
use Rattle.plural_reference.proofs.laws.exactness.bound_before_the_shift.Goals as goal

pub returns-clause-places : goal.returns-clause-places
returns-clause-places c = shifted_places

pub returns-clause-value : goal.returns-clause-value
returns-clause-value c = long_value
