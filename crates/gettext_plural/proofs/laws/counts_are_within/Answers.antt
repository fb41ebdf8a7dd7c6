use Rattle.gettext_plural.proofs.Counts.{counts_within}
use Rattle.gettext_plural.proofs.laws.counts_are_within.Goals as goal

pub returns : goal.returns
returns c = counts_within
