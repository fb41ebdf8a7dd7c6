use Rattle.std.proofs.Common.{List, subst}
use Rattle.packed_catalog.specs.CatalogBytes.{CatalogBytes, Entry}
use Rattle.packed_catalog.proofs.catalog.PackedCatalog.get.Goals as goal

pub returns : goal.returns
returns c =
    c.find_value.ensures.found c.args.self.now
    (subst (λ (entries : List Entry). CatalogBytes entries c.self.inside.bytes.now) c.self.view_is c.self.invariant.encoded)
