use Rattle.plural_reference.proofs.tokens.CutOnce.{have_one_cut}
use Rattle.plural_reference.proofs.laws.reading.one_cut.Goals as goal

pub returns : goal.returns
returns c = have_one_cut
