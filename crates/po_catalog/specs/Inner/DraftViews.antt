-- What the reader holds, without where it lies in memory, and what its calls for a line return.
use Rattle.std.specs.Prelude.{◌≡◌, ◌⊎◌, ◌<◌, ℕ, Bool, List, length, map, Option, Some, None, option_map, Result, Ok, Err}
use Rattle.std.specs.Borrow.{Bor}
use Rattle.po_catalog.specs.declared.draft.Field.{Field}
use Rattle.po_catalog.specs.declared.fault.Cause.{Cause}
use Rattle.po_catalog.specs.declared.fault.Cause.TheVariants.{StrayText}
use Rattle.po_catalog.specs.declared.fault.ReadError.{ReadError}
use Rattle.po_catalog.specs.declared.fault.ReadError.TheVariants.{Fault, Memory}
use Rattle.po_catalog.specs.declared.reader.Progress.{Progress}
use Rattle.po_catalog.specs.declared.reader.Progress.TheVariants.{Left, Done}
use Rattle.po_catalog.specs.declared.reader.Reader.{Reader}
use Rattle.po_catalog.specs.Catalogs.{message_view, text_view}
use Rattle.po_catalog.specs.Drafts.{PoDraft, PoField, all_ended, line_checked, passed_over, with_field}
use Rattle.po_catalog.specs.FileLines.{lines_of, numbered}
use Rattle.po_catalog.specs.Quoted.{Breaks, Says}
use Rattle.po_catalog.specs.ReadCatalogs.{PoCatalog, ReadsFields, ReadsLines, catalog_at, longer}

abbrev pub field_view : Field → PoField
field_view field = record { place = field.place; text = text_view field.text; is_given = field.is_given }

abbrev pub draft_view : Reader → PoDraft
draft_view reader = record {
  messages = map message_view reader.entries.items;
  faults = reader.faults.items;
  message = message_view reader.entry;
  field = option_map field_view reader.field;
  is_begun = reader.is_begun;
  is_whole = reader.is_whole;
  is_apart = reader.is_apart;
}

-- the field goes on by what the line says
abbrev pub GoesOnIn : List ℕ → PoField → PoField → Result (Bor (List ℕ)) ReadError → Type 0
GoesOnIn line old new (Ok rest) = (text : List ℕ) × (new ≡ longer text old) × Says line (Ok (text, rest.now))
GoesOnIn line old new (Err (Fault cause)) = (text : List ℕ) × (new ≡ longer text old) × Breaks line text cause
GoesOnIn line old new (Err Memory) = Unit {0}

-- the text that is read goes on by what the line says
abbrev pub TextGoesOn : List ℕ → PoDraft → PoDraft → Result (Bor (List ℕ)) ReadError → Type 0
TextGoesOn line old new (Ok rest) = (field : PoField) × (text : List ℕ) × (old.field ≡ Some field) × (new ≡ with_field (longer text field) old) × Says line (Ok (text, rest.now))
TextGoesOn line old new (Err (Fault cause)) =
    ((field : PoField) × (text : List ℕ) × (old.field ≡ Some field) × (new ≡ with_field (longer text field) old) × Breaks line text cause)
    ⊎ ((old.field ≡ None) × (new ≡ with_field passed_over old) × (cause ≡ StrayText))
TextGoesOn line old new (Err Memory) = Unit {0}

-- less than the line is left
abbrev pub IsFurther : Progress → List ℕ → Type 0
IsFurther (Left after) line = length after.now < length line
IsFurther (Done fault) line = Unit {0}

-- a text is read, and what stands behind it is left
abbrev pub TakesFieldText : PoDraft → List ℕ → PoDraft → Progress → Type 0
TakesFieldText old line new (Left after) = TextGoesOn line old new (Ok after)
TakesFieldText old line new (Done None) = ⊥
TakesFieldText old line new (Done (Some cause)) = TextGoesOn line old new (Err (Fault cause))

-- what is read behind the front of a line is read behind the line
abbrev pub TakesFront : ℕ → Bool → PoDraft → List ℕ → PoDraft → Progress → Type 0
TakesFront number is_obsolete old line new (Left after) =
    (end : PoDraft × Option Cause) → ReadsFields number is_obsolete new after.now end → ReadsFields number is_obsolete old line end
TakesFront number is_obsolete old line new (Done fault) = ReadsFields number is_obsolete old line (new, fault)

-- the keywords and texts of a line are read, and its fault is told
pub record ReadsTold (number : ℕ) (is_obsolete : Bool) (line : List ℕ) (old new : PoDraft) : Type 0 where
  pub end : PoDraft × Option Cause
  pub read : ReadsFields number is_obsolete old line end
  pub checked : line_checked number line end.1 end.0 ≡ new

-- the lines of a text are read after what was read, and make the catalog
pub record AddsLines (old : PoDraft) (text : List ℕ) (catalog : PoCatalog) : Type 0 where
  pub end : PoDraft
  pub read : ReadsLines old (numbered 1 (lines_of text)) end
  pub whole : catalog ≡ catalog_at (all_ended end)
