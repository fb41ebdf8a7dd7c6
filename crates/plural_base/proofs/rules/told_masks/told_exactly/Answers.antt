use Rattle.std.proofs.Common.{◌<◌, ◌^◌, rules}
use Rattle.plural_base.proofs.integers.Told.{told_by_mask}
use Rattle.plural_base.proofs.rules.told_masks.told_exactly.Goals as goal

pub returns : goal.returns
returns c = λ k h. let fits : c.args.classes < 2 ^ 128 = search rules in told_by_mask k c.args.classes fits h
