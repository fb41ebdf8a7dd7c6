use Rattle.plural_reference.proofs.exactness.ExactnessLawsProved.{bound_is_widest}
use Rattle.plural_reference.proofs.laws.exactness.bound_is_widest.Goals as goal

pub returns : goal.returns
returns c = bound_is_widest
