use Rattle.po_catalog.proofs.OneCatalog.{one_reading_of_file}
use Rattle.po_catalog.proofs.laws.one_catalog.Goals as goal

pub returns : goal.returns
returns c = one_reading_of_file
