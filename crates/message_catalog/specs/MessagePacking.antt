-- What messages are packed as, and what is wrong with those that can't be packed.
use Rattle.std.specs.Prelude.{◌≡◌, ◌⊎◌, ℕ, ◌<◌, ◌≤◌, ◌^◌, List, [], ◌∷◌, length, map, slice_get, Some, None, IsTrue, Result, Err}
use Rattle.std.specs.List.{concat}
use Rattle.message_pattern.specs.PatternParts.{Part}
use Rattle.message_pattern.specs.PatternAnswers.{HasPatternFault, IsPattern}
use Rattle.packed_list.specs.ListBytes.{has_high_start}
use Rattle.packed_pattern.specs.PartOrder.{before_all, first_misplaced}
use Rattle.packed_pattern.specs.PackedParts.{part_items_of}
use Rattle.packed_pattern.specs.PatternBlocks.{PatternBlock, first_unpackable}
use Rattle.packed_pattern.specs.declared.error.PackPatternError.{PackPatternError}
use Rattle.packed_pattern.specs.declared.error.PackPatternError.TheVariants as parts
use Rattle.packed_catalog.specs.CatalogBytes.{AreSorted, Entry, pieces_of}
use Rattle.packed_catalog.specs.CatalogFaults.{IsFirstLow}
use Rattle.packed_catalog.specs.declared.error.PackCatalogError.{PackCatalogError}
use Rattle.packed_catalog.specs.declared.error.PackCatalogError.TheVariants as catalog
use Rattle.message_catalog.specs.declared.text.MessageText.{MessageText}
use Rattle.message_catalog.specs.declared.error.TextFault.{TextFault}
use Rattle.message_catalog.specs.declared.error.TextFault.TheVariants as text
use Rattle.message_catalog.specs.declared.error.PackMessagesError.{PackMessagesError}
use Rattle.message_catalog.specs.declared.error.PackMessagesError.TheVariants as packing
use Rattle.message_catalog.specs.CatalogMessages.{HoldMessages, Message, MessageBlock}

-- a key, and the text of the pattern under it
pub record KeyedText : Type 0 where
  pub key : List ℕ
  pub text : List ℕ

abbrev pub keyed_text_view : MessageText → KeyedText
keyed_text_view message = record { key = message.key.now; text = message.text.now }

abbrev pub texts_view : List MessageText → List KeyedText
texts_view messages = map keyed_text_view messages

-- ---- what is packed

-- the message of a text: its key, and the parts that the text is read as
pub record IsReadMessage (keyed : KeyedText) (message : Message) : Type 0 where
  pub key : message.key ≡ keyed.key
  pub parts : IsPattern keyed.text message.parts

-- the messages of texts, one by one
abbrev pub AreRead : List KeyedText → List Message → Type 0
AreRead [] [] = Unit {0}
AreRead (keyed ∷ texts) (message ∷ messages) = IsReadMessage keyed message × AreRead texts messages
AreRead _ _ = ⊥

-- the bytes are a catalogue of the messages of texts
pub record PacksTo (texts : List KeyedText) (bytes : List ℕ) : Type 0 where
  pub messages : List Message
  pub read : AreRead texts messages
  pub block : MessageBlock messages bytes

-- entries hold the messages of texts
pub record ArePacked (texts : List KeyedText) (entries : List Entry) : Type 0 where
  pub messages : List Message
  pub read : AreRead texts messages
  pub held : HoldMessages entries messages

-- bytes are the block of the parts that a text is read as
pub record IsPackedText (text value : List ℕ) : Type 0 where
  pub parts : List Part
  pub read : IsPattern text parts
  pub packed : PatternBlock parts value

-- ---- what can't be packed

-- why parts aren't packed: the first of these
abbrev pub IsUnpackable : List Part → PackPatternError → Type 0
IsUnpackable ps parts.CountLimit = 65535 < length ps
IsUnpackable ps (parts.Part place) = (length ps ≤ 65535) × (first_unpackable 0 ps ≡ Some place)
IsUnpackable ps (parts.Order place) = (length ps ≤ 65535) × (first_unpackable 0 ps ≡ None) × (first_misplaced 0 before_all ps ≡ Some place)
IsUnpackable ps parts.StartLimit =
    (length ps ≤ 65535) × (first_unpackable 0 ps ≡ None) × (first_misplaced 0 before_all ps ≡ None) × IsTrue (has_high_start (part_items_of ps))
IsUnpackable ps parts.Memory = ⊥

-- why a text isn't packed: it isn't a pattern, or its parts aren't packed
abbrev pub HasTextFault : List ℕ → TextFault → Type 0
HasTextFault bytes (text.Text kind place) = HasPatternFault bytes kind place
HasTextFault bytes (text.Pattern error) = (ps : List Part) × IsPattern bytes ps × IsUnpackable ps error

-- no text at these places has a fault
abbrev pub HaveNoFault : List KeyedText → (ℕ → Type 0) → Type 0
HaveNoFault texts Within =
    (k : ℕ) (keyed : KeyedText) → Within k → slice_get texts k ≡ Some keyed → (fault : TextFault) → HasTextFault keyed.text fault → ⊥

abbrev pub AreWithoutFault : List KeyedText → Type 0
AreWithoutFault texts = HaveNoFault texts (λ _. Unit {0})

-- the text at a place has a fault, and none before it has one
pub record IsFirstFaulty (texts : List KeyedText) (index : ℕ) (fault : TextFault) : Type 0 where
  pub keyed : KeyedText
  pub there : slice_get texts index ≡ Some keyed
  pub has : HasTextFault keyed.text fault
  pub before : HaveNoFault texts (λ k. k < index)

-- why entries aren't packed: the first of these
abbrev pub HasEntriesFault : List Entry → PackCatalogError → Type 0
HasEntriesFault entries catalog.TooMany = 2 ^ 32 ≤ length entries
HasEntriesFault entries (catalog.Order index) = (length entries < 2 ^ 32) × IsFirstLow entries index
HasEntriesFault entries catalog.TooLong = (length entries < 2 ^ 32) × AreSorted entries × (2 ^ 32 ≤ length (concat (pieces_of entries)))
HasEntriesFault entries catalog.Memory = ⊥

-- no text has a fault, and the entries that hold their messages have one
pub record HasCatalogFault (texts : List KeyedText) (error : PackCatalogError) : Type 0 where
  pub good : AreWithoutFault texts
  pub entries : List Entry
  pub packed : ArePacked texts entries
  pub fault : HasEntriesFault entries error

-- why messages aren't packed
abbrev pub HasPackingFault : List KeyedText → PackMessagesError → Type 0
HasPackingFault texts (packing.Message index fault) = IsFirstFaulty texts index fault
HasPackingFault texts (packing.Catalog error) = HasCatalogFault texts error
HasPackingFault texts packing.Memory = ⊥

-- an error is one that the messages have, or out of memory
abbrev pub TellsFault : List KeyedText → PackMessagesError → Type 0
TellsFault texts error = (error ≡ packing.Memory) ⊎ HasPackingFault texts error

-- the result is this error, unless memory ran out
abbrev pub IsErrUnlessMemory : {A : Type 0} → Result A PackMessagesError → PackMessagesError → Type 0
IsErrUnlessMemory r error = (r ≡ Err error) ⊎ (r ≡ Err packing.Memory)
