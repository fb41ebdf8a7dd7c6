use Rattle.std.proofs.Common.{List, subst}
use Rattle.packed_catalog.specs.CatalogBytes.{CatalogBytes, Entry}
use Rattle.packed_catalog.proofs.catalog.PackedCatalog.as_bytes.Goals as goal

pub returns : goal.returns
returns c = subst (λ (entries : List Entry). CatalogBytes entries c.self.inside.bytes.now) c.self.view_is c.self.invariant.encoded
