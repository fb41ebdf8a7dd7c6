-- The ids that the lines of a file say, each of which a message of its catalog has.
use Rattle.std.specs.Prelude.{◌≡◌, ℕ, Bool, List, ◌∷◌, ◌++◌, Some, Ok}
use Rattle.po_catalog.specs.declared.front.Keyword.TheVariants.{Id}
use Rattle.po_catalog.specs.Catalogs.{PoMessage, PoText}
use Rattle.po_catalog.specs.FileLines.{lines_of, numbered}
use Rattle.po_catalog.specs.Fronts.{Word, Mark, front_of}
use Rattle.po_catalog.specs.LineKinds.{Fields, line_of}
use Rattle.po_catalog.specs.Quoted.{Says}
use Rattle.po_catalog.specs.ReadCatalogs.{IsCatalog, PoCatalog, behind_mark}

-- the line begins with `msgid` and a text that says these bytes
pub record SaysId (line text : List ℕ) : Type 0 where
  pub is_obsolete : Bool
  pub fields : List ℕ
  pub rest : List ℕ
  pub quoted : List ℕ
  pub after : List ℕ
  pub kind : line_of line ≡ Fields is_obsolete fields
  pub keyword : front_of fields ≡ Word Id rest
  pub mark : front_of rest ≡ Mark quoted
  pub said : Says quoted (Ok (text, after))

-- a text of this line, which begins with these bytes
abbrev pub text_of_line : ℕ → List ℕ → List ℕ → PoText
text_of_line number text more = record { line = number; bytes = text ++ more }

-- one of the messages has an id of this line, which begins with these bytes
pub record HaveId (number : ℕ) (text : List ℕ) (messages : List PoMessage) : Type 0 where
  pub before : List PoMessage
  pub message : PoMessage
  pub after : List PoMessage
  pub more : List ℕ
  pub stands : messages ≡ before ++ message ∷ after
  pub id : message.id ≡ Some (text_of_line number text more)

-- the id of each line that begins with one is that of a message
abbrev pub IdsAreKept : Type 0
IdsAreKept =
    (file line text : List ℕ) (number : ℕ) (before after : List (ℕ × List ℕ)) (catalog : PoCatalog) → IsCatalog file catalog
    → numbered 1 (lines_of (behind_mark file)) ≡ before ++ (number, line) ∷ after → SaysId line text → HaveId number text catalog.messages
