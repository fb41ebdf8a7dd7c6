use Rattle.std.proofs.Common.{◌≡◌, ◌++◌, drop}
use Rattle.std.specs.List.{concat}
use Rattle.packed_catalog.specs.CatalogBytes.{lent_entries, pieces_of}
use Rattle.packed_catalog.proofs.packing.push_data.Given as goal

-- What is written and the remaining pieces are all pieces.
abbrev pub invariant-loop-entry : goal.invariant-loop-entry
invariant-loop-entry l = l.bytes.items ++ concat (pieces_of (lent_entries (drop l.entry-index l.entries)))
    ≡ l.fn.bytes.items ++ concat (pieces_of (lent_entries l.entries))
