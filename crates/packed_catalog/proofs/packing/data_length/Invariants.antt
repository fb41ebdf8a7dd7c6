use Rattle.std.proofs.Common.{◌≡◌, ◌+◌, ◌<◌, ◌^◌, length, drop}
use Rattle.std.specs.List.{concat}
use Rattle.packed_catalog.specs.CatalogBytes.{lent_entries, pieces_of}
use Rattle.packed_catalog.proofs.packing.data_length.Given as goal

-- What is added up and the remaining pieces are all pieces.
abbrev pub invariant-loop-entry : goal.invariant-loop-entry
invariant-loop-entry l = record {
  total : l.total + length (concat (pieces_of (lent_entries (drop l.entry-index l.entries)))) ≡ length (concat (pieces_of (lent_entries l.entries)));
  small : l.total < 2 ^ 32;
}
