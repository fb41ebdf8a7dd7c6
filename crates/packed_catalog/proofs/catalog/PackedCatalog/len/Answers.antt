use Rattle.std.proofs.Common.{List, length, ap, sym, ◌∙◌}
use Rattle.packed_catalog.specs.CatalogBytes.{Entry}
use Rattle.packed_catalog.proofs.BlockEntries.{length-entries_in}
use Rattle.packed_catalog.proofs.catalog.PackedCatalog.len.Goals as goal

pub returns : goal.returns
returns c = c.number.ensures.value ∙ sym (length-entries_in c.self.inside.bytes.now)
    ∙ ap (λ (entries : List Entry). length entries) c.self.view_is
