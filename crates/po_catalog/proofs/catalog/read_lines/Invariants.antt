use Rattle.std.proofs.Common.{length}
use Rattle.po_catalog.specs.Inner.DraftViews.{draft_view}
use Rattle.po_catalog.proofs.WholeCatalogs.{AreBefore}
use Rattle.po_catalog.proofs.catalog.read_lines.Given as goal

-- what the further lines add to what is read, all lines add to what was read
abbrev pub invariant-lines : goal.invariant-lines
invariant-lines l = AreBefore (draft_view l.initial.reader) l.bytes (draft_view l.reader) l.lines

abbrev pub decreases-lines : goal.decreases-lines
decreases-lines l = length l.lines
