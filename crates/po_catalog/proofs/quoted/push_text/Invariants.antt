use Rattle.std.proofs.Common.{◌≤◌, length}
use Rattle.po_catalog.proofs.Sayings.{IsSaidBefore}
use Rattle.po_catalog.proofs.quoted.push_text.Given as goal

-- what was said is added, and the line says it before what the rest says
abbrev pub invariant-said : goal.invariant-said
invariant-said l = record {
  done : IsSaidBefore l.line l.initial.text.items l.text.items l.rest;
  shorter : length l.rest ≤ length l.line;
}

abbrev pub decreases-said : goal.decreases-said
decreases-said l = length l.rest
