-- Messages with their blocks, as the entries that they make, and what private functions return. Not definitions of the subject.
use Rattle.std.specs.Prelude.{◌≡◌, ◌⊎◌, ℕ, List, map}
use Rattle.message_pattern.specs.declared.error.PatternError.{PatternError}
use Rattle.message_pattern.specs.declared.error.PatternError.TheVariants as reading
use Rattle.packed_catalog.specs.CatalogBytes.{Entry}
use Rattle.packed_catalog.specs.declared.error.PackCatalogError.{PackCatalogError}
use Rattle.packed_catalog.specs.declared.error.PackCatalogError.TheVariants as catalog
use Rattle.packed_pattern.specs.declared.error.PackPatternError.{PackPatternError}
use Rattle.packed_pattern.specs.declared.error.PackPatternError.TheVariants as parts
use Rattle.message_catalog.specs.declared.packing.PackedMessage.{PackedMessage}
use Rattle.message_catalog.specs.declared.error.TextFault.{TextFault}
use Rattle.message_catalog.specs.declared.error.TextFault.TheVariants as text
use Rattle.message_catalog.specs.declared.error.PackMessagesError.{PackMessagesError}
use Rattle.message_catalog.specs.declared.error.PackMessagesError.TheVariants as packing
use Rattle.message_catalog.specs.MessagePacking.{HasTextFault, IsFirstFaulty, KeyedText}

abbrev pub packed_view : List PackedMessage → List Entry
packed_view list = map (λ (message : PackedMessage). record { key = message.key.now; value = message.block.items }) list

-- the error of a message whose text isn't a pattern
abbrev pub text_error : ℕ → PatternError → PackMessagesError
text_error index (reading.Fault kind place) = packing.Message index (text.Text kind place)
text_error index reading.Memory = packing.Memory

-- the error of a message whose pattern isn't packed
abbrev pub parts_error : ℕ → PackPatternError → PackMessagesError
parts_error index parts.Memory = packing.Memory
parts_error index error = packing.Message index (text.Pattern error)

-- the error of messages that aren't packed as a catalogue
abbrev pub catalog_error : PackCatalogError → PackMessagesError
catalog_error catalog.Memory = packing.Memory
catalog_error error = packing.Catalog error

-- an error is this one, or out of memory
abbrev pub IsThis : PackMessagesError → PackMessagesError → Type 0
IsThis error other = (error ≡ other) ⊎ (error ≡ packing.Memory)

-- an error tells a fault of the text of the message at a place, or memory ran out
abbrev pub TellsText : ℕ → List ℕ → PackMessagesError → Type 0
TellsText index bytes error =
    (error ≡ packing.Memory) ⊎ ((fault : TextFault) × (error ≡ packing.Message index fault) × HasTextFault bytes fault)

-- an error tells the first message whose text has a fault, or memory ran out
abbrev pub TellsFirst : List KeyedText → PackMessagesError → Type 0
TellsFirst texts error =
    (error ≡ packing.Memory) ⊎ ((index : ℕ) × (fault : TextFault) × (error ≡ packing.Message index fault) × IsFirstFaulty texts index fault)
