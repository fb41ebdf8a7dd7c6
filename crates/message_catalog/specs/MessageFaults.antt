-- What is wrong with bytes that aren't a catalogue of messages.
use Rattle.std.specs.Prelude.{◌≡◌, ◌<◌, ℕ, List, Option, Some, option_map, slice_get}
use Rattle.packed_catalog.specs.CatalogBytes.{CatalogBytes, Entry}
use Rattle.packed_catalog.specs.CatalogFaults.{HasCatalogBytesFault}
use Rattle.packed_pattern.specs.declared.error.BlockError.{BlockError}
use Rattle.packed_pattern.specs.PatternBlocks.{HasBlockFault, IsPatternBlock}
use Rattle.message_catalog.specs.declared.error.MessageCatalogError.{MessageCatalogError}
use Rattle.message_catalog.specs.declared.error.MessageCatalogError.TheVariants.{Catalog, Pattern}

-- the value of the entry at a place
abbrev pub value_at : List Entry → ℕ → Option (List ℕ)
value_at entries index = option_map (λ (entry : Entry). entry.value) (slice_get entries index)

-- the value of the entry at a place is refused as a packed pattern, and each before it is one
pub record IsFirstBad (entries : List Entry) (index : ℕ) (fault : BlockError) : Type 0 where
  pub value : List ℕ
  pub there : value_at entries index ≡ Some value
  pub bad : HasBlockFault value fault
  pub before : (k : ℕ) (other : List ℕ) → k < index → value_at entries k ≡ Some other → IsPatternBlock other

-- bytes are refused with a fault: they aren't a packed catalogue, or it is that of an entry
abbrev pub HasMessageFault : List ℕ → MessageCatalogError → Type 0
HasMessageFault bytes (Catalog fault) = HasCatalogBytesFault bytes fault
HasMessageFault bytes (Pattern index fault) = (entries : List Entry) × CatalogBytes entries bytes × IsFirstBad entries index fault
