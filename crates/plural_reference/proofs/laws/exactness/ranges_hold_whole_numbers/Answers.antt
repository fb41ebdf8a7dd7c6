use Rattle.plural_reference.proofs.exactness.ExactnessLawsProved.{holds_whole_numbers}
use Rattle.plural_reference.proofs.laws.exactness.ranges_hold_whole_numbers.Goals as goal

pub returns : goal.returns
returns c = holds_whole_numbers
