use Rattle.std.proofs.Common.{sym}
use Rattle.po_catalog.specs.Inner.DraftViews.{draft_view}
use Rattle.po_catalog.proofs.reader.Reader.read_told.Goals as goal

pub returns : goal.returns
returns c = record {
  end = (draft_view c.read_fields.new.self, c.in_ok-fault.fault);
  read = c.in_ok-fault.ensures;
  checked = sym c.in_ok-check_line.ensures;
}
