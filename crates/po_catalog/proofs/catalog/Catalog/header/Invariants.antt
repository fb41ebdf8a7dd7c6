use Rattle.std.proofs.Common.{◌≡◌}
use Rattle.po_catalog.proofs.HeaderLines.{header_from}
use Rattle.po_catalog.proofs.catalog.Catalog.header.Given as goal

-- no message before this one is a header
abbrev pub invariant-loop-entry : goal.invariant-loop-entry
invariant-loop-entry l = header_from l.self.entries.items 0 ≡ header_from l.self.entries.items l.entry-index
