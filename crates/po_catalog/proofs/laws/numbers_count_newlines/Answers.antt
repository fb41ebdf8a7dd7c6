use Rattle.po_catalog.proofs.Numbers.{count_newlines}
use Rattle.po_catalog.proofs.laws.numbers_count_newlines.Goals as goal

pub returns : goal.returns
returns c = count_newlines
