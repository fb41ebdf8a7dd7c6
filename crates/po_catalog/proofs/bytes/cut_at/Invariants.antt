use Rattle.std.proofs.Common.{◌≡◌}
use Rattle.po_catalog.specs.FileLines.{cut_at}
use Rattle.po_catalog.proofs.Cuts.{cut_from}
use Rattle.po_catalog.proofs.bytes.cut_at.Given as goal

-- the byte isn't among those that were passed
abbrev pub invariant-loop-place : goal.invariant-loop-place
invariant-loop-place l = cut_at l.byte l.text ≡ cut_from l.byte l.text l.place
