use Rattle.plural_base.proofs.integers.Told.{told_not}
use Rattle.plural_base.proofs.rules.told_masks.negated.Goals as goal

pub returns : goal.returns
returns c = λ k b d told. told_not k b d c.args.told told
