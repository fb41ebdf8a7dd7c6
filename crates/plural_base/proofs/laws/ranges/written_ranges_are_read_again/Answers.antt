use Rattle.plural_base.proofs.pairs.RangesAgain.{written_read}
use Rattle.plural_base.proofs.laws.ranges.written_ranges_are_read_again.Goals as goal

pub returns : goal.returns
returns c = written_read
