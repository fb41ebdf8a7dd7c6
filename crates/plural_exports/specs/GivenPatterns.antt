-- The pattern that bytes are, as a text or as a block, and the block of a text's pattern.
--     ReadsPatternText text answer      the pattern that a text is (docs/PATTERNS.md)
--     ReadsPatternBlock bytes answer      the pattern of a block (docs/FORMATS.md)
--     IsPatternPacked text answer      the block of the pattern that a text is
use Rattle.std.specs.Prelude.{◌≡◌, ℕ, ◌≤◌, ◌<◌, List, length, IsTrue, Some, None, Result, Ok, Err}
use Rattle.icu_plurals.specs.ListBytes.{has_high_start}
use Rattle.message_pattern.specs.PatternAnswers.{HasPatternFault, IsPattern}
use Rattle.message_pattern.specs.PatternParts.{Part}
use Rattle.packed_pattern.specs.PackedParts.{part_items_of}
use Rattle.packed_pattern.specs.PartOrder.{before_all, first_misplaced}
use Rattle.packed_pattern.specs.PatternBlocks.{PatternBlock, HasBlockFault, first_unpackable}
use Rattle.packed_pattern.specs.declared.error.BlockError.{BlockError}
use Rattle.packed_pattern.specs.declared.error.PackPatternError.{PackPatternError}
use Rattle.packed_pattern.specs.declared.error.PackPatternError.TheVariants as packing
use Rattle.plural_documents.specs.Steps.{Then}
use Rattle.plural_exports.specs.declared.fault.Fault.{Fault}
use Rattle.plural_exports.specs.declared.fault.Fault.TheVariants as fault
use Rattle.std.specs.Str.Iter.{HasSubslice}
use Rattle.message_catalog.specs.CatalogMessages.{Message, MessageBlock}
use Rattle.message_catalog.specs.MessageFaults.{HasMessageFault}
use Rattle.message_catalog.specs.declared.error.MessageCatalogError.{MessageCatalogError}
use Rattle.packed_catalog.specs.CatalogBytes.{CatalogBytes, Entry, value_under}

-- the pattern that a text is, or its first fault; or memory ran out
abbrev pub ReadsPatternText : List ℕ → Result (List Part) Fault → Type 0
ReadsPatternText text (Ok parts) = IsPattern text parts
ReadsPatternText text (Err (fault.Pattern kind)) = (place : ℕ) × HasPatternFault text kind place
ReadsPatternText text (Err fault.Memory) = Unit {0}
ReadsPatternText text (Err _) = ⊥

-- the pattern that the bytes are the block of, or their fault
abbrev pub ReadsPatternBlock : List ℕ → Result (List Part) Fault → Type 0
ReadsPatternBlock bytes (Ok parts) = PatternBlock parts bytes
ReadsPatternBlock bytes (Err e) = (reason : BlockError) × (e ≡ fault.Packed reason) × HasBlockFault bytes reason

-- ---- A pattern that is packed

-- why parts have no block: they are too many, else one of them can't be packed, else one may not
-- stand where it does, else one would start after place 65535
abbrev pub HasNoBlock : List Part → PackPatternError → Type 0
HasNoBlock parts packing.CountLimit = 65535 < length parts
HasNoBlock parts (packing.Part place) = (length parts ≤ 65535) × (first_unpackable 0 parts ≡ Some place)
HasNoBlock parts (packing.Order place) =
    (length parts ≤ 65535) × (first_unpackable 0 parts ≡ None) × (first_misplaced 0 before_all parts ≡ Some place)
HasNoBlock parts packing.StartLimit =
    (length parts ≤ 65535) × (first_unpackable 0 parts ≡ None) × (first_misplaced 0 before_all parts ≡ None)
    × IsTrue (has_high_start (part_items_of parts))
HasNoBlock parts packing.Memory = ⊥

-- the reason that parts have no block; or they have one, and memory ran out
abbrev pub IsPartsFault : List Part → Fault → Type 0
IsPartsFault parts fault.Memory = (reason : PackPatternError) → ¬ (HasNoBlock parts reason)
IsPartsFault parts (fault.Packing reason) = HasNoBlock parts reason
IsPartsFault parts _ = ⊥

-- the block of the parts
abbrev pub PacksParts : List Part → Result (List ℕ) Fault → Type 0
PacksParts parts (Ok bytes) = PatternBlock parts bytes
PacksParts parts (Err e) = IsPartsFault parts e

-- the block of a text's pattern
abbrev pub IsPatternPacked : List ℕ → Result (List ℕ) Fault → Type 0
IsPatternPacked text = Then (ReadsPatternText text) PacksParts

-- ---- the catalogue of messages that bytes are, and the block under a key

-- the messages that the bytes are the catalogue of, or their fault
abbrev pub ReadsCatalogBytes : List ℕ → Result (List Message) Fault → Type 0
ReadsCatalogBytes bytes (Ok messages) = MessageBlock messages bytes
ReadsCatalogBytes bytes (Err e) = (reason : MessageCatalogError) × (e ≡ fault.Catalog reason) × HasMessageFault bytes reason

-- what bytes that are a catalogue have under a key; in any, a block stands in the bytes
abbrev pub FindsBlock : List ℕ → List ℕ → Result (List ℕ) Fault → Type 0
FindsBlock bytes key (Ok block) =
    HasSubslice bytes block × ((entries : List Entry) → CatalogBytes entries bytes → value_under key entries ≡ Some block)
FindsBlock bytes key (Err fault.NoKey) = (entries : List Entry) → CatalogBytes entries bytes → value_under key entries ≡ None
FindsBlock bytes key (Err _) = ⊥
