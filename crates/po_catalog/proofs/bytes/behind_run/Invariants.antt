use Rattle.std.proofs.Common.{◌≡◌, ◌≤◌, length}
use Rattle.po_catalog.specs.PoBytes.{behind_catalog_run}
use Rattle.po_catalog.specs.Inner.LineViews.{is_in_catalog_class}
use Rattle.po_catalog.proofs.bytes.behind_run.Given as goal

-- only bytes of the class were passed
abbrev pub invariant-loop-rest : goal.invariant-loop-rest
invariant-loop-rest l = record {
  rest : behind_catalog_run (is_in_catalog_class l.class) l.rest ≡ behind_catalog_run (is_in_catalog_class l.class) l.text;
  shorter : length l.rest ≤ length l.text;
}

abbrev pub decreases-loop-rest : goal.decreases-loop-rest
decreases-loop-rest l = length l.rest
