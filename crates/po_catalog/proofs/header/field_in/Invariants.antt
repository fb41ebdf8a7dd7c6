use Rattle.std.proofs.Common.{◌≡◌, length}
use Rattle.po_catalog.specs.Headers.{field_in}
use Rattle.po_catalog.proofs.header.field_in.Given as goal

-- no line before the rest has a value
abbrev pub invariant-lines : goal.invariant-lines
invariant-lines l = field_in l.name l.rest ≡ field_in l.name l.header

abbrev pub decreases-lines : goal.decreases-lines
decreases-lines l = length l.rest
