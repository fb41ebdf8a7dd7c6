-- What stands at the message_front of a message's text: text, an apostrophe that quotes or doesn't, `#`, or
-- a brace. It is ICU's page on MessageFormat, Quoting and Escaping, in the mode DOUBLE_OPTIONAL.
use Rattle.std.specs.Prelude.{ℕ, ◌==◌, List, [], ◌∷◌, Bool, true, false, ◌&&◌, ◌||◌, Option, Some, None, if◌then◌else◌}
use Rattle.pattern_bytes.specs.declared.bytes.Class.TheVariants.{Plain, Unquoted}
use Rattle.message_pattern.specs.declared.text.Context.{Context}
use Rattle.message_pattern.specs.declared.text.Context.TheVariants.{Whole, Counted, Selected}
use Rattle.message_pattern.specs.PatternParts.{PatternPiece, Text, Hash}
use Rattle.pattern_bytes.specs.PatternBytes.{apostrophe, hash, opening, closing, class_front, behind_run}

-- what stands at the message_front, and what follows it
pub data Front : Type 0 where
  -- nothing: the text ends
  End : Front
  -- the brace that ends a branch
  Closes : List ℕ → Front
  -- the brace that begins an argument
  Opens : List ℕ → Front
  -- a piece, or none for an apostrophe that begins or ends quoted text; and whether what follows is
  -- quoted
  Takes : Option PatternPiece → Bool → List ℕ → Front

-- text that stands for itself
abbrev pub takes_text : List ℕ → Bool → List ℕ → Front
takes_text t quoted rest = Takes (Some (Text t)) quoted rest

-- a branch, which `}` ends
abbrev pub is_nested : Context → Bool
is_nested Whole = false
is_nested Counted = true
is_nested Selected = true

-- a branch of a plural, where `#` is the number
abbrev pub is_counted : Context → Bool
is_counted Whole = false
is_counted Counted = true
is_counted Selected = false

-- an apostrophe before this byte begins quoted text
abbrev pub is_quotable : Context → ℕ → Bool
is_quotable context b = b == opening || b == closing || (b == hash && is_counted context)

-- behind an apostrophe that isn't in quoted text: two are one, before what can be quoted it quotes,
-- else it stands for itself
abbrev pub apostrophe_front : Context → List ℕ → Front
apostrophe_front context [] = takes_text (apostrophe ∷ []) false []
apostrophe_front context (b ∷ s) =
    if b == apostrophe then takes_text (apostrophe ∷ []) false s
    else if is_quotable context b then Takes None true (b ∷ s)
    else takes_text (apostrophe ∷ []) false (b ∷ s)

-- text that isn't quoted
abbrev pub plain_front : Context → List ℕ → Front
plain_front context [] = End
plain_front context (b ∷ s) =
    if b == apostrophe then apostrophe_front context s
    else if b == opening then Opens s
    else if b == closing && is_nested context then Closes s
    else if b == hash && is_counted context then Takes (Some Hash) false s
    else if b == closing || b == hash then takes_text (b ∷ []) false s
    else takes_text (class_front Plain (b ∷ s)) false (behind_run Plain (b ∷ s))

-- behind an apostrophe in quoted text: two are one, else the quoted text ends
abbrev pub quoted_apostrophe : List ℕ → Front
quoted_apostrophe [] = Takes None false []
quoted_apostrophe (b ∷ s) = if b == apostrophe then takes_text (apostrophe ∷ []) true s else Takes None false (b ∷ s)

-- quoted text: all but an apostrophe stands for itself
abbrev pub quoted_front : List ℕ → Front
quoted_front [] = End
quoted_front (b ∷ s) =
    if b == apostrophe then quoted_apostrophe s
    else takes_text (class_front Unquoted (b ∷ s)) true (behind_run Unquoted (b ∷ s))

-- the message_front of text, quoted or not
abbrev pub message_front : Context → Bool → List ℕ → Front
message_front context quoted s = if quoted then quoted_front s else plain_front context s
