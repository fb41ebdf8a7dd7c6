use Rattle.plural_base.proofs.integers.Told.{told_false_of}
use Rattle.plural_base.proofs.rules.told_masks.told_false.Goals as goal

pub returns : goal.returns
returns c = λ k. told_false_of k c.args.classes
