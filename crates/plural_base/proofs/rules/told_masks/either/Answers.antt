use Rattle.plural_base.proofs.integers.Told.{told_either}
use Rattle.plural_base.proofs.rules.told_masks.either.Goals as goal

pub returns : goal.returns
returns c = λ k b d e f first second. told_either k b d e f c.args.first c.args.second first second
