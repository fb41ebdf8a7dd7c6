use Rattle.plural_base.proofs.integers.Told.{told_true, told_untrue}
use Rattle.plural_base.proofs.rules.told_masks.told_alike.Goals as goal

pub returns-then-truth : goal.returns-then-truth
returns-then-truth c = λ k h. told_true k c.args.truth c.if-truth.true h

pub returns-else-truth : goal.returns-else-truth
returns-else-truth c = λ k h. told_untrue k c.args.truth c.if-truth.false h
