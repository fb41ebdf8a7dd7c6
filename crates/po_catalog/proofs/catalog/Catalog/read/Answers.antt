use Rattle.po_catalog.specs.Inner.DraftViews.{draft_view}
use Rattle.po_catalog.proofs.WholeCatalogs.{file_read}
use Rattle.po_catalog.proofs.catalog.Catalog.read.Goals as goal

pub returns : goal.returns
returns c =
    file_read c.args.bytes.now c.without_mark.result.now (draft_view c.new-reader.result) _ c.new-reader.ensures c.without_mark.ensures
    c.read_lines-catalog.ensures
