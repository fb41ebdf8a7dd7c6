use Rattle.po_catalog.specs.Inner.DraftViews.{draft_view}
use Rattle.po_catalog.proofs.WholeCatalogs.{lines_begin, lines_go_on, lines_end}
use Rattle.po_catalog.proofs.catalog.read_lines.Goals as goal

pub lines-init : goal.lines-init
lines-init c = lines_begin (draft_view c.args.reader.now) c.args.bytes.now _ c.of-lines.ensures

pub lines-preserved : goal.lines-preserved
lines-preserved c =
    lines_go_on (draft_view c.args.reader.now) c.args.bytes.now (draft_view c.lines.reader)
    (draft_view c.read_line.new.self) c.in-Some.line.number c.in-Some.line.bytes.now c.lines.lines _
    c.lines.invariant c.in-Some.ensures c.in_ok-read_line.ensures

pub returns : goal.returns
returns c =
    lines_end (draft_view c.args.reader.now) c.args.bytes.now (draft_view c.lines.reader) c.lines.lines _
    c.lines.invariant c.in_default.ensures c.catalog.ensures
