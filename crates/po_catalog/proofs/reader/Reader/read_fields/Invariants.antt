use Rattle.std.proofs.Common.{length}
use Rattle.po_catalog.specs.Inner.DraftViews.{draft_view}
use Rattle.po_catalog.proofs.Readings.{IsBefore}
use Rattle.po_catalog.proofs.reader.Reader.read_fields.Given as goal

-- what is read behind the rest is read behind the line
abbrev pub invariant-fronts : goal.invariant-fronts
invariant-fronts l = IsBefore l.number l.is_obsolete (draft_view l.initial.self) l.line (draft_view l.self) l.rest

abbrev pub decreases-fronts : goal.decreases-fronts
decreases-fronts l = length l.rest
