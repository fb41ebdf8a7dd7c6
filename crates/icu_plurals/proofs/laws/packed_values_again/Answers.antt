use Rattle.icu_plurals.proofs.PackedAgain.{packed_again}
use Rattle.icu_plurals.proofs.laws.packed_values_again.Goals as goal

pub returns : goal.returns
returns c = packed_again
