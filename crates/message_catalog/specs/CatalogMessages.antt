-- A catalogue of messages: a packed catalogue whose values are packed patterns.
use Rattle.std.specs.Prelude.{◌≡◌, ℕ, List, [], ◌∷◌, Vec, Option, Some, None, Result, Ok, Err, if◌then◌else◌}
use Rattle.std.specs.Str.{bytes_eq}
use Rattle.std.specs.declared.alloc.Global.{Global}
use Rattle.message_pattern.specs.PatternParts.{Part}
use Rattle.message_format.specs.FormatMeaning.{PatternOutcome}
use Rattle.message_format.specs.Inner.FormatViews.{outcome_of}
use Rattle.packed_catalog.specs.CatalogBytes.{CatalogBytes, Entry}
use Rattle.packed_pattern.specs.PatternBlocks.{PatternBlock}
use Rattle.message_catalog.specs.declared.error.SayError.{SayError}
use Rattle.message_catalog.specs.declared.error.SayError.TheVariants.{NoKey, Format}

-- a key, and the parts of the pattern under it
pub record Message : Type 0 where
  pub key : List ℕ
  pub parts : List Part

-- an entry holds a message: its key, and the block of its parts
pub record HoldsMessage (entry : Entry) (message : Message) : Type 0 where
  pub key : entry.key ≡ message.key
  pub value : PatternBlock message.parts entry.value

-- entries hold messages, one by one
abbrev pub HoldMessages : List Entry → List Message → Type 0
HoldMessages [] [] = Unit {0}
HoldMessages (entry ∷ entries) (message ∷ messages) = HoldsMessage entry message × HoldMessages entries messages
HoldMessages _ _ = ⊥

-- the bytes are a packed catalogue of entries that hold the messages
pub record MessageBlock (messages : List Message) (bytes : List ℕ) : Type 0 where
  pub entries : List Entry
  pub packed : CatalogBytes entries bytes
  pub held : HoldMessages entries messages

-- the parts of the first message with a key
abbrev pub parts_under : List ℕ → List Message → Option (List Part)
parts_under key [] = None
parts_under key (message ∷ messages) = if bytes_eq message.key key then Some message.parts else parts_under key messages

-- the outcome that a result has, or none if there is no key or memory ran out
abbrev pub said_of : Result (Vec ℕ Global) SayError → Option PatternOutcome
said_of (Ok text) = outcome_of (Ok text)
said_of (Err (Format error)) = outcome_of (Err error)
said_of (Err NoKey) = None
