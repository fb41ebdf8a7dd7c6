-- The messages that entries hold, for the view of a catalogue. Not a definition of the subject.
use Rattle.std.specs.Prelude.{◌≡◌, ℕ, List, map, Some}
use Rattle.packed_catalog.specs.CatalogBytes.{Entry}
use Rattle.packed_pattern.specs.PatternBlocks.{IsPatternBlock}
use Rattle.packed_pattern.specs.Inner.PartReading.{parts_in}
use Rattle.message_catalog.specs.CatalogMessages.{Message}
use Rattle.message_catalog.specs.MessageFaults.{value_at}

-- the message that an entry holds, if its value is a packed pattern
abbrev pub message_in : Entry → Message
message_in entry = record { key = entry.key; parts = parts_in entry.value }

-- the messages that entries hold
abbrev pub messages_in : List Entry → List Message
messages_in entries = map message_in entries

-- each value is a packed pattern
abbrev pub ArePatterns : List Entry → Type 0
ArePatterns entries = (index : ℕ) (value : List ℕ) → value_at entries index ≡ Some value → IsPatternBlock value
