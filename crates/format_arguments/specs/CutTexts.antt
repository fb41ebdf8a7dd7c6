-- The arguments of a text: the text is cut into pieces, each as it stands at the piece_front of the rest,
-- and the directives among them are numbered.
use Rattle.std.specs.Prelude.{◌≡◌, ℕ, ◌+◌, ◌≤◌, List, [], ◌∷◌, ◌++◌, Bool, true, false, length, map, Option, Some, None, if◌then◌else◌}
use Rattle.format_arguments.specs.declared.argument.Kind.{Kind}
use Rattle.format_arguments.specs.declared.argument.Name as names
use Rattle.format_arguments.specs.declared.argument.Name.TheVariants as name
use Rattle.format_arguments.specs.declared.argument.Argument as arguments
use Rattle.format_arguments.specs.declared.format.Format.{Format}
use Rattle.format_arguments.specs.DirectiveTables.{first_place}
use Rattle.format_arguments.specs.Directives.{Which, Next, At, Named, Directive, End, Takes, Broken, piece_front}

-- ---- pieces

-- a piece of a text: its bytes, and its directive, if it is one
pub record TextPiece : Type 0 where
  pub bytes : List ℕ
  pub says : Option Directive

abbrev pub piece_of : List ℕ → Option Directive → TextPiece
piece_of bytes says = record { bytes = bytes; says = says }

-- the text is these pieces, one after the other, up to its end, or up to what begins as a directive
-- and is none
pub data IsCutInto (f : Format) : List ℕ → List TextPiece → Bool → Type 0 where
  ends : (s : List ℕ) → piece_front f s ≡ End → IsCutInto f s [] false
  breaks : (s : List ℕ) → piece_front f s ≡ Broken → IsCutInto f s [] true
  goes : (s bytes rest : List ℕ) (says : Option Directive) (pieces : List TextPiece) (broken : Bool) → s ≡ bytes ++ rest
      → piece_front f s ≡ Takes says rest → IsCutInto f rest pieces broken → IsCutInto f s (piece_of bytes says ∷ pieces) broken

-- the bytes of pieces
abbrev pub bytes_of : List TextPiece → List ℕ
bytes_of [] = []
bytes_of (piece ∷ pieces) = piece.bytes ++ bytes_of pieces

-- ---- arguments

-- how an argument is named: by its place among the arguments, or by a word
pub data ArgumentName : Type 0 where
  Place : ℕ → ArgumentName
  Word : List ℕ → ArgumentName

-- an argument where it stands in a text: from which byte on, and before which
pub record FormatArgument : Type 0 where
  pub start : ℕ
  pub end : ℕ
  pub name : ArgumentName
  pub kind : Kind
  pub size : List ℕ

-- the argument of a directive, where the next one in turn has this number
abbrev pub name_in_turn : ℕ → ℕ → Which → ArgumentName
name_in_turn next stars Next = Place (next + stars)
name_in_turn next stars (At n) = Place n
name_in_turn next stars (Named word) = Word word

-- the number of the next one behind it
abbrev pub next_in_turn : ℕ → ℕ → Which → ℕ
next_in_turn next stars Next = next + stars + 1
next_in_turn next stars _ = next + stars

-- the argument of a directive that stands there
abbrev pub argument_at : ℕ → ℕ → ℕ → Directive → FormatArgument
argument_at next start end d = record { start = start; end = end; name = name_in_turn next d.stars d.which; kind = d.kind; size = d.size }

-- the argument of a piece that stands there, if it is a directive
abbrev pub argument_told : ℕ → ℕ → ℕ → Option Directive → List FormatArgument
argument_told next start end None = []
argument_told next start end (Some d) = argument_at next start end d ∷ []

-- the number of the next argument behind a piece
abbrev pub next_behind : ℕ → Option Directive → ℕ
next_behind next None = next
next_behind next (Some d) = next_in_turn next d.stars d.which

-- the arguments of pieces, of which the first begins at this byte
abbrev pub arguments_from : ℕ → ℕ → List TextPiece → List FormatArgument
arguments_from next at [] = []
arguments_from next at (piece ∷ pieces) =
    argument_told next at (at + length piece.bytes) piece.says ++ arguments_from (next_behind next piece.says) (at + length piece.bytes) pieces

-- the fault behind pieces: the byte where it is
abbrev pub fault_behind : List TextPiece → Bool → Option ℕ
fault_behind pieces broken = if broken then Some (length (bytes_of pieces)) else None

-- the text has these arguments, and this fault or none
pub record HasArguments (f : Format) (text : List ℕ) (arguments : List FormatArgument) (fault : Option ℕ) : Type 0 where
  pub pieces : List TextPiece
  pub broken : Bool
  pub cut : IsCutInto f text pieces broken
  pub told : arguments ≡ arguments_from (first_place f) 0 pieces
  pub at_fault : fault ≡ fault_behind pieces broken

-- ---- the same of the types of the code

abbrev pub name_view : names.Name → ArgumentName
name_view (name.Place n) = Place n
name_view (name.Word word) = Word word.now

abbrev pub argument_view : arguments.Argument → FormatArgument
argument_view a = record { start = a.start; end = a.end; name = name_view a.name; kind = a.kind; size = a.size.now }

abbrev pub arguments_view : List arguments.Argument → List FormatArgument
arguments_view items = map argument_view items

-- ---- laws

-- a text has one list of arguments, and one fault or none
abbrev pub ArgumentsHaveOneReading : Type 0
ArgumentsHaveOneReading =
    (f : Format) (text : List ℕ) (a b : List FormatArgument) (m n : Option ℕ) → HasArguments f text a m → HasArguments f text b n → (a ≡ b) × (m ≡ n)

-- the arguments stand from this byte on, one after the other, and none behind the end
pub data StandInOrder : ℕ → List FormatArgument → ℕ → Type 0 where
  none_left : (at end : ℕ) → at ≤ end → StandInOrder at [] end
  one_more : (at end : ℕ) (a : FormatArgument) (more : List FormatArgument) → at ≤ a.start → a.start ≤ a.end → StandInOrder a.end more end
      → StandInOrder at (a ∷ more) end

-- the arguments of a text stand in it one after the other
abbrev pub ArgumentsStandInOrder : Type 0
ArgumentsStandInOrder =
    (f : Format) (text : List ℕ) (arguments : List FormatArgument) (fault : Option ℕ) → HasArguments f text arguments fault
    → StandInOrder 0 arguments (length text)
