use Rattle.po_catalog.proofs.EveryFile.{every_file}
use Rattle.po_catalog.proofs.laws.every_file_is_a_catalog.Goals as goal

pub returns : goal.returns
returns c = every_file
