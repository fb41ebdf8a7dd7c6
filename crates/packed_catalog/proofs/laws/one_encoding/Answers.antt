use Rattle.packed_catalog.proofs.OneBlock.{one_catalog_for_bytes}
use Rattle.packed_catalog.proofs.laws.one_encoding.Goals as goal

pub returns : goal.returns
returns c = one_catalog_for_bytes
