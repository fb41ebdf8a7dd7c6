use Rattle.plural_base.proofs.integers.Told.{told_both}
use Rattle.plural_base.proofs.rules.told_masks.both.Goals as goal

pub returns : goal.returns
returns c = λ k b d e f first second. told_both k b d e f c.args.first c.args.second first second
