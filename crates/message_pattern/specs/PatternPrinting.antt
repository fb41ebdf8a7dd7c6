-- The text that the parts of a pattern are printed as, and when two lists of parts say the same.
use Rattle.std.specs.Prelude.{◌≡◌, ℕ, ◌+◌, ◌==◌, List, [], ◌∷◌, ◌++◌, Bool, true, false, not, ◌&&◌, ◌||◌, Option, Some, None, codes, if◌then◌else◌}
use Rattle.message_pattern.specs.declared.head.Formats.{Formats}
use Rattle.message_pattern.specs.declared.head.Formats.TheVariants.{Refused, Allowed}
use Rattle.message_pattern.specs.declared.part.ArgumentKind.{ArgumentKind}
use Rattle.message_pattern.specs.declared.part.ArgumentKind.TheVariants.{Plural, Ordinal, Select}
use Rattle.message_pattern.specs.declared.text.Context.{Context}
use Rattle.message_pattern.specs.declared.text.Context.TheVariants.{Whole}
use Rattle.pattern_bytes.specs.PatternBytes.{apostrophe, comma, equals, opening, closing}
use Rattle.pattern_bytes.specs.PatternBytes as byte
use Rattle.message_pattern.specs.PatternText.{is_quotable}
use Rattle.message_pattern.specs.PatternParts.{Part, PatternPiece, Selector, Exactly, Keyword, Text, Hash, Argument, Begin, Branch}
use Rattle.message_pattern.specs.PatternParts as piece
use Rattle.message_pattern.specs.PatternHeads.{is_other}
use Rattle.message_pattern.specs.PatternReading.{PatternPlace, InMessage, InArgument, InBranches, one, context_of}
use Rattle.message_pattern.specs.PatternAnswers.{IsTextOf}

-- ---- the same parts

-- a text as a part for each byte
abbrev pub letters : ℕ → List ℕ → List Part
letters depth [] = []
letters depth (b ∷ s) = one depth (Text (b ∷ [])) ++ letters depth s

abbrev pub spelled_piece : ℕ → PatternPiece → List Part
spelled_piece depth (Text s) = letters depth s
spelled_piece depth p = one depth p

-- the parts, each text as a part for each byte
abbrev pub spelled : List Part → List Part
spelled [] = []
spelled (p ∷ ps) = spelled_piece p.depth p.piece ++ spelled ps

-- the same pieces at the same depths, but for where texts are cut into pieces
abbrev pub SayTheSame : List Part → List Part → Type 0
SayTheSame a b = spelled a ≡ spelled b

-- ---- texts

-- what ends quoted text
abbrev pub end_of_quote : Bool → List ℕ
end_of_quote quoted = if quoted then apostrophe ∷ [] else []

-- a byte of a text: an apostrophe is doubled, and one stands before what has to be quoted, if that
-- isn't yet
abbrev pub byte_text : Context → Bool → ℕ → List ℕ
byte_text context quoted b =
    if b == apostrophe then apostrophe ∷ apostrophe ∷ []
    else if is_quotable context b && not quoted then apostrophe ∷ b ∷ []
    else b ∷ []

-- a text, behind quoted text or not: it is quoted from the first byte on that has to be
abbrev pub text_text : Context → Bool → List ℕ → List ℕ
text_text context quoted [] = []
text_text context quoted (b ∷ s) = byte_text context quoted b ++ text_text context (quoted || is_quotable context b) s

-- whether what follows it is quoted
abbrev pub quoted_behind : Context → Bool → List ℕ → Bool
quoted_behind context quoted [] = quoted
quoted_behind context quoted (b ∷ s) = quoted_behind context (quoted || is_quotable context b) s

-- ---- heads

abbrev pub kind_text : ArgumentKind → List ℕ
kind_text Plural = codes " plural,"
kind_text Ordinal = codes " selectordinal,"
kind_text Select = codes " select,"

abbrev pub offset_text : Option (List ℕ) → List ℕ
offset_text None = []
offset_text (Some digits) = codes " offset:" ++ digits

abbrev pub selector_text : Selector → List ℕ
selector_text (Exactly number) = equals ∷ number
selector_text (Keyword word) = word

-- ---- patterns

-- from a place on, these parts are printed as this text
pub data IsPrinted : PatternPlace → List Part → List ℕ → Type 0 where
  -- quoted text goes up to the end of the message, or to what isn't text
  message_ends : (c : Context) (d : ℕ) (q : Bool) → IsPrinted (InMessage c d q) [] (end_of_quote q)
  message_text : (c : Context) (d : ℕ) (q : Bool) (s text : List ℕ) (more : List Part)
      → IsPrinted (InMessage c d (quoted_behind c q s)) more text → IsPrinted (InMessage c d q) (one d (Text s) ++ more) (text_text c q s ++ text)
  message_hash : (c : Context) (d : ℕ) (q : Bool) (text : List ℕ) (more : List Part)
      → IsPrinted (InMessage c d false) more text → IsPrinted (InMessage c d q) (one d Hash ++ more) (end_of_quote q ++ byte.hash ∷ text)
  message_argument : (c : Context) (d : ℕ) (q : Bool) (argument text : List ℕ) (inner more : List Part)
      → IsPrinted (InArgument d) inner argument → IsPrinted (InMessage c d false) more text
      → IsPrinted (InMessage c d q) (inner ++ more) (end_of_quote q ++ opening ∷ (argument ++ text))
  -- `{name}`, or `{name, type, style}` as it is written
  none_arg : (d : ℕ) (name : List ℕ) → IsPrinted (InArgument d) (one d (Argument name)) (name ++ closing ∷ [])
  -- `{name, plural, offset:1 =0 {..} other {..}}`
  complex_arg : (d : ℕ) (kind : ArgumentKind) (name : List ℕ) (offset : Option (List ℕ)) (text : List ℕ) (more : List Part)
      → IsPrinted (InBranches kind d false) more text
      → IsPrinted (InArgument d) (one d (Begin kind name offset) ++ more) (name ++ comma ∷ (kind_text kind ++ (offset_text offset ++ text)))
  style_branch : (d : ℕ) (kind : ArgumentKind) (other : Bool) (sel : Selector) (message text : List ℕ) (inner more : List Part)
      → IsPrinted (InMessage (context_of kind) (d + 1) false) inner message → IsPrinted (InBranches kind d (other || is_other sel)) more text
      → IsPrinted (InBranches kind d other) (one d (Branch sel) ++ (inner ++ more)) (32 ∷ (selector_text sel ++ 32 ∷ opening ∷ (message ++ closing ∷ text)))
  style_ends : (d : ℕ) (kind : ArgumentKind) → IsPrinted (InBranches kind d true) (one d piece.End) (closing ∷ [])

-- the parts of a whole pattern are printed as this text
abbrev pub PrintsAs : List Part → List ℕ → Type 0
PrintsAs parts text = IsPrinted (InMessage Whole 0 false) parts text

-- the text is a pattern, and says the same as these parts
abbrev pub IsReadAlike : Formats → List ℕ → List Part → Type 0
IsReadAlike formats text parts = (again : List Part) × IsTextOf formats text again × SayTheSame again parts

-- the text is the one that the parts are printed as, and if they are those of a pattern, it is
-- printed so, and read back
pub record PrintsBackExactly (formats : Formats) (parts : List Part) (text : List ℕ) : Type 0 where
  pub only : (t : List ℕ) → PrintsAs parts t → text ≡ t
  pub printed : (source : List ℕ) → IsTextOf formats source parts → PrintsAs parts text
  pub read_back : (source : List ℕ) → IsTextOf formats source parts → IsReadAlike formats text parts

-- of a pattern without simple formats
abbrev pub PrintsExactly : List Part → List ℕ → Type 0
PrintsExactly parts text = PrintsBackExactly Refused parts text

-- of a pattern with simple formats
abbrev pub PrintsStyledExactly : List Part → List ℕ → Type 0
PrintsStyledExactly parts text = PrintsBackExactly Allowed parts text

-- the parts of each pattern are printed as a text that is read as a pattern that says the same
abbrev pub PatternsPrintBack : Type 0
PatternsPrintBack =
    (formats : Formats) (source : List ℕ) (parts : List Part) → IsTextOf formats source parts
    → (text : List ℕ) × PrintsAs parts text × IsReadAlike formats text parts

-- parts that say the same are printed as the same text
abbrev pub HaveOnePrintedText : Type 0
HaveOnePrintedText = (a b : List Part) (s t : List ℕ) → SayTheSame a b → PrintsAs a s → PrintsAs b t → s ≡ t
