-- What the argument of a styled pattern is, and the parts without formats.
use Rattle.std.specs.Prelude.{◌≡◌, ℕ, List, [], ◌∷◌, map, Option, Some, None}
use Rattle.std.specs.Borrow.{Bor}
use Rattle.pattern_bytes.specs.declared.bytes.Class.TheVariants.{Name, Letter}
use Rattle.message_pattern.specs.declared.styled_argument.SimpleFormat.{SimpleFormat}
use Rattle.pattern_bytes.specs.PatternBytes.{class_front, behind_run, after_white}
use Rattle.message_pattern.specs.PatternParts.{Part, PatternPiece, Text, Hash, Argument, Begin, Branch, End}
use Rattle.message_pattern.specs.PatternGrammar.{IsNameOrNumber, IsSimpleText}
use Rattle.message_pattern.specs.declared.head.Formats.TheVariants.{Refused}
use Rattle.message_pattern.specs.PatternAnswers.{IsStyledPattern}
use Rattle.message_pattern.specs.PatternPrinting.{PrintsAs, IsReadAlike}

-- a simple format: its type, and its style, if it has one
pub record Format : Type 0 where
  pub format_type : List ℕ
  pub style : Option (List ℕ)

-- the name in the text between the braces of an argument that doesn't choose
abbrev pub argument_name_of : List ℕ → List ℕ
argument_name_of text = class_front Name text

-- all behind the comma
abbrev pub style_behind : List ℕ → Option (List ℕ)
style_behind [] = None
style_behind (comma ∷ style) = Some style

-- the letters behind the comma, and what follows them
abbrev pub format_behind : List ℕ → Option Format
format_behind [] = None
format_behind (comma ∷ s) =
    Some (record { format_type = class_front Letter (after_white s); style = style_behind (after_white (behind_run Letter (after_white s))) })

-- the format in the text, if it has one
abbrev pub format_of : List ℕ → Option Format
format_of text = format_behind (after_white (behind_run Name text))

-- the name and the format are those that the grammar finds in the text
abbrev pub TextsAreTakenApart : Type 0
TextsAreTakenApart =
    ((s name rest : List ℕ) → IsNameOrNumber s name rest → (argument_name_of name ≡ name) × (format_of name ≡ None))
    × ((text name word : List ℕ) (style : Option (List ℕ)) → IsSimpleText text name word style
    → (argument_name_of text ≡ name) × (format_of text ≡ Some (record { format_type = word; style = style })))

-- ---- the same of the types of the code

-- the bytes of a style, or none
abbrev pub style_view : Option (Bor (List ℕ)) → Option (List ℕ)
style_view None = None
style_view (Some style) = Some style.now

abbrev pub format_view : Option SimpleFormat → Option Format
format_view None = None
format_view (Some f) = Some (record { format_type = f.format_type.now; style = style_view f.style })

-- ---- without formats

abbrev pub unstyled_piece : PatternPiece → PatternPiece
unstyled_piece (Text s) = Text s
unstyled_piece Hash = Hash
unstyled_piece (Argument text) = Argument (argument_name_of text)
unstyled_piece (Begin kind name offset) = Begin kind name offset
unstyled_piece (Branch selector) = Branch selector
unstyled_piece End = End

abbrev pub unstyled_part : Part → Part
unstyled_part p = record { depth = p.depth; piece = unstyled_piece p.piece }

-- the parts, where an argument with a simple format has its name alone
abbrev pub unstyled : List Part → List Part
unstyled parts = map unstyled_part parts

-- the parts of each pattern with simple formats are, without these, printed as a text that is read
-- as a pattern that says the same
abbrev pub UnstyledPrintsBack : Type 0
UnstyledPrintsBack =
    (source : List ℕ) (parts : List Part) → IsStyledPattern source parts
    → (text : List ℕ) × PrintsAs (unstyled parts) text × IsReadAlike Refused text (unstyled parts)
