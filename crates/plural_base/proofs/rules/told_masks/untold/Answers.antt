use Rattle.plural_base.proofs.integers.Told.{told_nothing}
use Rattle.plural_base.proofs.rules.told_masks.untold.Goals as goal

pub returns : goal.returns
returns c = λ k. told_nothing k
