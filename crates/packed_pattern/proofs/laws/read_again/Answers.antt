use Rattle.packed_pattern.proofs.BlockItems.{parts_in_one}
use Rattle.packed_pattern.proofs.laws.read_again.Goals as goal

pub returns : goal.returns
returns c = parts_in_one c.read_again.ensures
