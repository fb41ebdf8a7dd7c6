use Rattle.translation_files.proofs.ReadLemmas.{catalog_read}
use Rattle.translation_files.proofs.po.read_po.Goals as goal

pub returns-in-Ok : goal.returns-in-Ok
returns-in-Ok g c =
    catalog_read c.args.bytes.now c.in-Ok.catalog c.read_entries.result c.in-Ok.ensures.read c.read_entries.ensures.graded
    c.read_entries.ensures.nothing
