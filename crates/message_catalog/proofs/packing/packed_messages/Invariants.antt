use Rattle.std.proofs.Common.{◌<◌, ◌++◌, List, drop}
use Rattle.packed_catalog.specs.CatalogBytes.{Entry}
use Rattle.message_catalog.specs.MessagePacking.{ArePacked, HaveNoFault, texts_view}
use Rattle.message_catalog.specs.Inner.PackedViews.{packed_view}
use Rattle.message_catalog.proofs.packing.packed_messages.Given as goal

-- What the remaining texts are packed as stands behind what is packed, and no text so far has a fault.
abbrev pub invariant-loop-index : goal.invariant-loop-index
invariant-loop-index l = record {
  behind : (rest : List Entry) → ArePacked (drop l.index (texts_view l.messages)) rest
      → ArePacked (texts_view l.messages) (packed_view l.packed.items ++ rest);
  good : HaveNoFault (texts_view l.messages) (λ k. k < l.index);
}
