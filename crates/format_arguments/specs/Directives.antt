-- What stands at the piece_front of a text with arguments: a directive, which takes an argument, or text
-- that stands for itself.
use Rattle.std.specs.Prelude.{ℕ, ◌+◌, ◌-◌, ◌==◌, List, [], ◌∷◌, Bool, true, false, ◌&&◌, ◌||◌, not, length, take, drop, Option, Some, None, codes, if◌then◌else◌}
use Rattle.format_arguments.specs.declared.argument.Kind.{Kind}
use Rattle.format_arguments.specs.declared.argument.Kind.TheVariants.{Unknown}
use Rattle.format_arguments.specs.declared.bytes.Class.TheVariants.{Digit, Flag, Size, Field, Macro, Name, Barred, Unquoted}
use Rattle.format_arguments.specs.declared.format.Format.{Format}
use Rattle.format_arguments.specs.declared.format.Format.TheVariants.{C, ObjectiveC, Python, JavaScript, Boost, Qt, QtPlural, Kde, PythonBrace, PerlBrace, Java}
use Rattle.format_arguments.specs.DirectiveBytes.{run_front, behind_directive_run, is_without_bytes, begins_with, behind_first_byte, after_directive_word, place_of_digits, is_directive_digit, is_of_word}
use Rattle.format_arguments.specs.DirectiveTables.{is_one_of, Family, Braced, family_of, tells_sizes, has_stars, has_macros, silent_conversions, kind_of, c_kind}

-- which argument a directive takes
pub data Which : Type 0 where
  -- the one after the last
  Next : Which
  At : ℕ → Which
  Named : List ℕ → Which

pub record Directive : Type 0 where
  pub which : Which
  -- how many arguments before it are its width and its precision
  pub stars : ℕ
  pub kind : Kind
  pub size : List ℕ

-- what stands at the piece_front of a text
pub data PieceFront : Type 0 where
  -- nothing: the text ends
  End : PieceFront
  -- a directive, or none for text that stands for itself; and what follows
  Takes : Option Directive → List ℕ → PieceFront
  -- what begins as a directive and is none
  Broken : PieceFront

-- ---- numbers and names

-- the argument at this place, of which there is none at 0
abbrev pub at_place : ℕ → List ℕ → Option (Which × List ℕ)
at_place n rest = if n == 0 then None else Some (At n, rest)

-- `1$`: digits and a dollar sign; else the next argument, and nothing is taken
unfoldable pub place_front : List ℕ → Option (Which × List ℕ)
place_front s =
    if begins_with 36 (behind_directive_run Digit s) && not (is_without_bytes (run_front Digit s))
    then at_place (place_of_digits (run_front Digit s)) (behind_first_byte (behind_directive_run Digit s))
    else Some (Next, s)

-- a name, if this bracket ends it
abbrev pub closed_name : List ℕ → List ℕ → Option (Which × List ℕ)
closed_name name s = if begins_with 41 s then Some (Named name, behind_first_byte s) else None

-- `(name)`, else the next argument
unfoldable pub bracketed_name_front : List ℕ → Option (Which × List ℕ)
bracketed_name_front s =
    if begins_with 40 s
    then closed_name (run_front Name (behind_first_byte s)) (behind_directive_run Name (behind_first_byte s))
    else Some (Next, s)

-- which argument a directive of printf takes, and what follows that
abbrev pub which_front : Format → List ℕ → Option (Which × List ℕ)
which_front Python s = bracketed_name_front s
which_front _ s = place_front s

-- ---- printf: flags, width, precision, size, conversion

-- a star takes the next argument, unless it has a place
abbrev pub star_taken : List ℕ → Option (Which × List ℕ) → ℕ × List ℕ
star_taken s (Some (At n, rest)) = (0, rest)
star_taken s _ = (1, s)

-- a width: a star or digits, or none; how many arguments it takes in turn, and what follows
unfoldable pub width_front : Format → List ℕ → ℕ × List ℕ
width_front f s =
    if begins_with 42 s && has_stars f
    then star_taken (behind_first_byte s) (which_front f (behind_first_byte s))
    else (0, behind_directive_run Digit s)

-- a point and a precision, or neither
unfoldable pub precision_front : Format → List ℕ → ℕ × List ℕ
precision_front f s = if begins_with 46 s then width_front f (behind_first_byte s) else (0, s)

-- a width, then a precision
abbrev pub and_precision : Format → ℕ × List ℕ → ℕ × List ℕ
and_precision f width = (width.0 + (precision_front f width.1).0, (precision_front f width.1).1)

abbrev pub widths_front : Format → List ℕ → ℕ × List ℕ
widths_front f s = and_precision f (width_front f s)

-- a directive with this conversion, if it is one
abbrev pub converts : Which → ℕ → List ℕ → Option Kind → List ℕ → PieceFront
converts which stars size (Some kind) rest = Takes (Some (record { which = which; stars = stars; kind = kind; size = size })) rest
converts which stars size None rest = Broken

-- bits, and the bracket that ends the macro
abbrev pub macro_end : Which → ℕ → Option Kind → List ℕ → List ℕ → PieceFront
macro_end which stars kind bits s =
    if begins_with 62 s && not (is_without_bytes bits) then converts which stars bits kind (behind_first_byte s) else Broken

-- behind `<PRI`: a letter of a conversion of integers, bits and `>`
abbrev pub macro_letter : Which → ℕ → Option (List ℕ) → PieceFront
macro_letter which stars (Some (b ∷ s)) =
    if is_one_of (codes "diouxX") b then macro_end which stars (c_kind b) (run_front Macro s) (behind_directive_run Macro s) else Broken
macro_letter which stars _ = Broken

-- `%C` and `%S` are `%lc` and `%ls`
abbrev pub size_at : Format → ℕ → List ℕ → List ℕ
size_at f b size = if tells_sizes f && is_one_of (codes "CS") b then codes "l" else size

-- the conversion at the end of a directive, which has this size
abbrev pub conversion_front : Format → Which → ℕ → List ℕ → List ℕ → PieceFront
conversion_front f which stars size [] = Broken
conversion_front f which stars size (b ∷ s) =
    if is_one_of (silent_conversions f) b then Takes None s
    else if b == 60 && has_macros f then macro_letter which stars (after_directive_word (codes "PRI") s)
    else converts which stars (size_at f b size) (kind_of f b) s

abbrev pub argument_size_of : Format → List ℕ → List ℕ
argument_size_of f s = if tells_sizes f then run_front (Size f) s else []

-- a size, then the conversion
abbrev pub sized_front : Format → Which → ℕ × List ℕ → PieceFront
sized_front f which widths = conversion_front f which widths.0 (argument_size_of f widths.1) (behind_directive_run (Size f) widths.1)

-- behind what says which argument it is
abbrev pub flagged_front : Format → Option (Which × List ℕ) → PieceFront
flagged_front f None = Broken
flagged_front f (Some (which, s)) = sized_front f which (widths_front f (behind_directive_run (Flag f) s))

unfoldable pub printf_front : Format → List ℕ → PieceFront
printf_front f s = flagged_front f (which_front f s)

-- a directive that says no more than which argument it takes
abbrev pub takes : Which → List ℕ → PieceFront
takes which rest = Takes (Some (record { which = which; stars = 0; kind = Unknown; size = [] })) rest

-- the directive of a place, if it is one
abbrev pub takes_place : Option (Which × List ℕ) → PieceFront
takes_place None = Broken
takes_place (Some (which, rest)) = takes which rest

-- up to the bar that ends a directive
abbrev pub barred_end : Option (Which × List ℕ) → PieceFront
barred_end None = Broken
barred_end (Some (which, s)) = if begins_with 124 (behind_directive_run Barred s) then takes which (behind_first_byte (behind_directive_run Barred s)) else Broken

-- Boost has `%1%`, and between bars what printf has, besides
unfoldable pub boost_front : List ℕ → PieceFront
boost_front s =
    if begins_with 124 s then barred_end (place_front (behind_first_byte s))
    else if begins_with 37 (behind_directive_run Digit s) && not (is_without_bytes (run_front Digit s))
    then takes_place (at_place (place_of_digits (run_front Digit s)) (behind_first_byte (behind_directive_run Digit s)))
    else printf_front Boost s

-- ---- numbers behind a percent sign

-- an `L` may stand before the number in Qt
abbrev pub behind_letter : Format → List ℕ → List ℕ
behind_letter Kde s = s
behind_letter _ s = if begins_with 76 s then behind_first_byte s else s

-- in KDE any number without a zero in piece_front, in Qt one or two digits
abbrev pub number_front : Format → List ℕ → List ℕ
number_front Kde s = if begins_with 48 s then [] else run_front Digit s
number_front _ s = take 2 (run_front Digit s)

-- `%n` is the number itself in texts with plural forms
abbrev pub is_the_number : Format → List ℕ → Bool
is_the_number QtPlural s = begins_with 110 s
is_the_number _ s = false

-- a percent sign without a number stands for itself
unfoldable pub numbered_front : Format → List ℕ → PieceFront
numbered_front f s =
    if is_the_number f (behind_letter f s) then takes (Named (codes "n")) (behind_first_byte (behind_letter f s))
    else if is_without_bytes (number_front f (behind_letter f s)) then Takes None s
    else takes (At (place_of_digits (number_front f (behind_letter f s)))) (drop (length (number_front f (behind_letter f s))) (behind_letter f s))

-- ---- braces

-- what follows the brace that closes those that are open, where pairs of braces may stand between;
-- in Java not those between apostrophes
abbrev pub behind_closing : Bool → Bool → ℕ → List ℕ → Option (List ℕ)
behind_closing quotes quoted depth [] = None
behind_closing quotes quoted depth (b ∷ s) =
    if b == 39 && quotes then behind_closing quotes (not quoted) depth s
    else if quoted then behind_closing quotes quoted depth s
    else if b == 123 then behind_closing quotes quoted (depth + 1) s
    else if b == 125 && depth == 0 then Some s
    else if b == 125 then behind_closing quotes quoted (depth - 1) s
    else behind_closing quotes quoted depth s

abbrev pub has_quotes : Format → Bool
has_quotes Java = true
has_quotes _ = false

-- a name that may stand between braces: in Perl it begins with no digit, in Java it is a number, in
-- Python it may be empty, and begins with no point or bracket
abbrev pub fits_field : Format → List ℕ → Bool
fits_field PythonBrace [] = true
fits_field PythonBrace (b ∷ s) = is_of_word b
fits_field PerlBrace [] = false
fits_field PerlBrace (b ∷ s) = not (is_directive_digit b)
fits_field _ name = not (is_without_bytes name)

-- what ends a name, and begins a style
abbrev pub begins_style : Format → ℕ → Bool
begins_style PythonBrace b = b == 33 || b == 58
begins_style Java b = b == 44
begins_style _ b = false

-- which argument a name between braces is: a number is a place, and no name the next argument
abbrev pub field_which : List ℕ → Which
field_which name =
    if is_without_bytes name then Next
    else if is_without_bytes (behind_directive_run Digit name) then At (place_of_digits name)
    else Named name

-- in Perl a brace without a name stands for itself
abbrev pub no_field : Format → List ℕ → PieceFront
no_field PerlBrace s = Takes None s
no_field _ s = Broken

abbrev pub styled_field : Which → Option (List ℕ) → PieceFront
styled_field which None = Broken
styled_field which (Some rest) = takes which rest

-- a name in the text behind a brace, and what follows it there
abbrev pub field_end : Format → List ℕ → List ℕ → List ℕ → PieceFront
field_end f s name [] = no_field f s
field_end f s name (b ∷ rest) =
    if not (fits_field f name) then no_field f s
    else if b == 125 then takes (field_which name) rest
    else if begins_style f b then styled_field (field_which name) (behind_closing (has_quotes f) false 0 rest)
    else no_field f s

abbrev pub field_front : Format → List ℕ → PieceFront
field_front f s = field_end f s (run_front (Field f) s) (behind_directive_run (Field f) s)

-- behind a brace: two are one in Python
unfoldable pub brace_front : Format → List ℕ → PieceFront
brace_front PythonBrace s = if begins_with 123 s then Takes None (behind_first_byte s) else field_front PythonBrace s
brace_front f s = field_front f s

-- ---- any text

-- behind the byte that begins directives
abbrev pub directive_front : Format → List ℕ → PieceFront
directive_front Boost s = boost_front s
directive_front C s = printf_front C s
directive_front ObjectiveC s = printf_front ObjectiveC s
directive_front Python s = printf_front Python s
directive_front JavaScript s = printf_front JavaScript s
directive_front Qt s = numbered_front Qt s
directive_front QtPlural s = numbered_front QtPlural s
directive_front Kde s = numbered_front Kde s
directive_front PythonBrace s = brace_front PythonBrace s
directive_front PerlBrace s = brace_front PerlBrace s
directive_front Java s = brace_front Java s

-- the byte that begins directives
abbrev pub opening_in : Family → ℕ
opening_in Braced = 123
opening_in _ = 37

-- Java's quoted text, behind its apostrophe: up to the next one, or to the end
abbrev pub java_quoted_front : List ℕ → PieceFront
java_quoted_front s = Takes None (behind_first_byte (behind_directive_run Unquoted s))

-- behind a brace that closes nothing: two are one in Python, and one is a fault there and in Java
abbrev pub closing_front : Format → List ℕ → PieceFront
closing_front PythonBrace s = if begins_with 125 s then Takes None (behind_first_byte s) else Broken
closing_front Java s = Broken
closing_front _ s = Takes None s

-- the piece_front of a text
abbrev pub piece_front : Format → List ℕ → PieceFront
piece_front f [] = End
piece_front f (b ∷ s) =
    if b == opening_in (family_of f) then directive_front f s
    else if b == 39 && has_quotes f then java_quoted_front s
    else if b == 125 then closing_front f s
    else Takes None s
