use Rattle.plural_base.proofs.pairs.RangeTexts.{no_key, one_key}
use Rattle.plural_base.proofs.ranges.key.UnvalidatedPluralRange.from_text.Goals as goal

pub returns-in_err-start : goal.returns-in_err-start
returns-in_err-start c = no_key c.args.text.now c.from_residual.result c.from_residual.ensures c.in_err-start.ensures

pub returns : goal.returns
returns c = one_key c.args.text.now c.in_ok-start.start c.in_ok-start.end c.in_ok-start.ensures c.from_range.result c.from_range.ensures
