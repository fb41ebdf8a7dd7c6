-- What a file says as a catalog, and what the reader of one may return: that, or out of memory.
use Rattle.std.specs.Prelude.{◌≡◌, ℕ, Bool, true, List, [], ◌∷◌, ◌++◌, length, take, drop, Option, Some, None, Result, Ok, Err, if◌then◌else◌}
use Rattle.std.specs.declared.alloc.AllocError.{AllocError}
use Rattle.std.specs.Str.{bytes_eq}
use Rattle.po_catalog.specs.declared.catalog.Catalog.{Catalog}
use Rattle.po_catalog.specs.declared.fault.Cause.{Cause}
use Rattle.po_catalog.specs.declared.fault.Cause.TheVariants.{StrayText}
use Rattle.po_catalog.specs.declared.fault.Fault.{Fault}
use Rattle.po_catalog.specs.declared.front.Keyword.{Keyword}
use Rattle.po_catalog.specs.Catalogs.{PoMessage, messages_view}
use Rattle.po_catalog.specs.Drafts.{PoDraft, PoField, all_ended, behind_empty, behind_line, comment_checked, empty_draft, ended_at_comment, flags_read, keyword_read, line_checked, passed_over, unknown_read, with_field}
use Rattle.po_catalog.specs.FileLines.{lines_of, numbered}
use Rattle.po_catalog.specs.Fronts.{Nothing, Word, Mark, Unknown, front_of}
use Rattle.po_catalog.specs.LineKinds.{Empty, Comment, Fields, line_of}
use Rattle.po_catalog.specs.Quoted.{Breaks, Says}

-- the text goes on
abbrev pub longer : List ℕ → PoField → PoField
longer more field = record field { text = record field.text { bytes = field.text.bytes ++ more }; is_given = true }

-- what follows in a line, and the fault that it has, if it has one: its keywords and texts are read
-- one after the other
pub data ReadsFields (line : ℕ) (is_obsolete : Bool) : PoDraft → List ℕ → PoDraft × Option Cause → Type 0 where
  -- nothing more follows
  ends : (draft : PoDraft) (s : List ℕ) → front_of s ≡ Nothing → ReadsFields line is_obsolete draft s (draft, None)
  unknown : (draft : PoDraft) (s : List ℕ) (cause : Cause) → front_of s ≡ Unknown cause → ReadsFields line is_obsolete draft s (unknown_read draft, Some cause)
  -- a keyword, and what follows it
  fits : (draft next : PoDraft) (s rest : List ℕ) (keyword : Keyword) (end : PoDraft × Option Cause) → front_of s ≡ Word keyword rest
      → keyword_read line is_obsolete keyword draft ≡ (next, None) → ReadsFields line is_obsolete next rest end → ReadsFields line is_obsolete draft s end
  stray_keyword : (draft next : PoDraft) (s rest : List ℕ) (keyword : Keyword) (cause : Cause) → front_of s ≡ Word keyword rest
      → keyword_read line is_obsolete keyword draft ≡ (next, Some cause) → ReadsFields line is_obsolete draft s (next, Some cause)
  -- a text, and what follows it
  goes_on : (draft : PoDraft) (s rest text after : List ℕ) (field : PoField) (end : PoDraft × Option Cause) → front_of s ≡ Mark rest → draft.field ≡ Some field
      → Says rest (Ok (text, after)) → ReadsFields line is_obsolete (with_field (longer text field) draft) after end → ReadsFields line is_obsolete draft s end
  breaks : (draft : PoDraft) (s rest text : List ℕ) (field : PoField) (cause : Cause) → front_of s ≡ Mark rest → draft.field ≡ Some field
      → Breaks rest text cause → ReadsFields line is_obsolete draft s (with_field (longer text field) draft, Some cause)
  -- a text without a keyword
  stray_text : (draft : PoDraft) (s rest : List ℕ) → front_of s ≡ Mark rest → draft.field ≡ None
      → ReadsFields line is_obsolete draft s (with_field passed_over draft, Some StrayText)

-- what a line adds to what is read before it
pub data ReadsLine (number : ℕ) (line : List ℕ) (draft : PoDraft) : PoDraft → Type 0 where
  empty : line_of line ≡ Empty → ReadsLine number line draft (behind_empty draft)
  comment : (s words : List ℕ) → line_of line ≡ Comment s words
      → ReadsLine number line draft (behind_line (comment_checked number s (flags_read words (ended_at_comment draft))))
  fields : (is_obsolete : Bool) (s : List ℕ) (end : PoDraft × Option Cause) → line_of line ≡ Fields is_obsolete s → ReadsFields number is_obsolete draft s end
      → ReadsLine number line draft (behind_line (line_checked number s end.1 end.0))

-- the lines are read one after the other
pub data ReadsLines : PoDraft → List (ℕ × List ℕ) → PoDraft → Type 0 where
  no_line : (draft : PoDraft) → ReadsLines draft [] draft
  next_line : (draft next end : PoDraft) (number : ℕ) (line : List ℕ) (lines : List (ℕ × List ℕ)) → ReadsLine number line draft next → ReadsLines next lines end
      → ReadsLines draft ((number, line) ∷ lines) end

-- ---- catalogs

pub record PoCatalog : Type 0 where
  pub messages : List PoMessage
  pub faults : List Fault

-- the bytes behind the byte_order_mark of UTF-8 at their front, if it is there
abbrev pub byte_order_mark : List ℕ
byte_order_mark = 239 ∷ 187 ∷ 191 ∷ []

abbrev pub behind_mark : List ℕ → List ℕ
behind_mark s = if bytes_eq (take (length byte_order_mark) s) byte_order_mark then drop (length byte_order_mark) s else s

abbrev pub catalog_at : PoDraft → PoCatalog
catalog_at draft = record { messages = draft.messages; faults = draft.faults }

-- the lines of the file say these messages and faults
pub record IsCatalog (file : List ℕ) (catalog : PoCatalog) : Type 0 where
  pub end : PoDraft
  pub read : ReadsLines empty_draft (numbered 1 (lines_of (behind_mark file))) end
  pub whole : catalog_at (all_ended end) ≡ catalog

abbrev pub catalog_view : Catalog → PoCatalog
catalog_view catalog = record { messages = messages_view catalog; faults = catalog.faults.items }

abbrev pub IsRead : List ℕ → Result Catalog AllocError → Type 0
IsRead file (Ok catalog) = IsCatalog file (catalog_view catalog)
IsRead file (Err error) = Unit {0}

abbrev pub ReturnsCatalog : Result Catalog AllocError → PoCatalog → Type 0
ReturnsCatalog (Ok found) catalog = catalog_view found ≡ catalog
ReturnsCatalog (Err error) catalog = Unit {0}

-- a catalog is returned if and only if the file says it, out of memory aside
pub record ReadsCatalog (file : List ℕ) (result : Result Catalog AllocError) : Type 0 where
  pub only : IsRead file result
  pub read : (catalog : PoCatalog) → IsCatalog file catalog → ReturnsCatalog result catalog

-- ---- laws

-- a file says one catalog
abbrev pub FilesSayOneCatalog : Type 0
FilesSayOneCatalog = (file : List ℕ) (a b : PoCatalog) → IsCatalog file a → IsCatalog file b → a ≡ b

-- and each file says one
abbrev pub EveryFileIsACatalog : Type 0
EveryFileIsACatalog = (file : List ℕ) → (catalog : PoCatalog) × IsCatalog file catalog
