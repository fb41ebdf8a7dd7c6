use Rattle.std.proofs.Common.{◌≡◌, ◌+◌, ◌++◌, ◌<◌, ◌^◌, length, drop}
use Rattle.std.specs.List.{concat}
use Rattle.std.specs.Prelude.{flat_map}
use Rattle.packed_catalog.specs.CatalogBytes.{ends_from, four_bytes, lent_entries, pieces_of}
use Rattle.packed_catalog.proofs.packing.push_ends.Given as goal

-- What is written and the ends of the remaining pieces are all ends, which four bytes hold.
abbrev pub invariant-loop-entry : goal.invariant-loop-entry
invariant-loop-entry l = record {
  written : l.bytes.items ++ flat_map four_bytes (ends_from l.end (pieces_of (lent_entries (drop l.entry-index l.entries))))
      ≡ l.fn.bytes.items ++ flat_map four_bytes (ends_from 0 (pieces_of (lent_entries l.entries)));
  small : l.end + length (concat (pieces_of (lent_entries (drop l.entry-index l.entries)))) < 2 ^ 32;
}
