use Rattle.std.proofs.Common.{◌≡◌, ◌++◌, drop}
use Rattle.packed_catalog.specs.CatalogBytes.{lent_entries}
use Rattle.message_catalog.specs.Inner.PackedViews.{packed_view}
use Rattle.message_catalog.proofs.packing.entries_of.Given as goal

-- The entries so far and the remaining messages are all messages.
abbrev pub invariant-loop-message : goal.invariant-loop-message
invariant-loop-message l = lent_entries l.entries.items ++ packed_view (drop l.message-index l.packed) ≡ packed_view l.packed
