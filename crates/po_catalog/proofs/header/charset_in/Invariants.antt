use Rattle.std.proofs.Common.{◌≡◌, length, codes}
use Rattle.po_catalog.specs.Headers.{behind_first_place}
use Rattle.po_catalog.proofs.header.charset_in.Given as goal

-- the text begins at no place before the rest
abbrev pub invariant-places : goal.invariant-places
invariant-places l = behind_first_place (codes "charset=") l.rest ≡ behind_first_place (codes "charset=") l.content_type

abbrev pub decreases-places : goal.decreases-places
decreases-places l = length l.rest
