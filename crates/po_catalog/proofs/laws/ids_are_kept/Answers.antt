use Rattle.po_catalog.proofs.KeptIds.{ids_are_kept}
use Rattle.po_catalog.proofs.laws.ids_are_kept.Goals as goal

pub returns : goal.returns
returns c = ids_are_kept
