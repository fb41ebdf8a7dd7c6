-- Which argument of a text with plural forms is the number.
use Rattle.std.specs.Prelude.{ℕ, ◌&&◌, ◌||◌, not, List, [], ◌∷◌, Bool, true, false, bytes_eq, find, codes, Option, Some, None, if◌then◌else◌}
use Rattle.std.specs.List.{list_any, list_all}
use Rattle.format_arguments.specs.declared.argument.Argument.{Argument}
use Rattle.format_arguments.specs.declared.argument.Kind.{Kind}
use Rattle.format_arguments.specs.declared.argument.Kind.TheVariants.{Integer, Unsigned}
use Rattle.format_arguments.specs.declared.argument.Name as names
use Rattle.format_arguments.specs.declared.argument.Name.TheVariants.{Place, Word}
use Rattle.format_arguments.specs.declared.bytes.Class.TheVariants.{Letter}
use Rattle.format_arguments.specs.declared.number.Sign.{Sign}
use Rattle.format_arguments.specs.declared.number.Sign.TheVariants.{Counted, Named, Lacking, Alone}
use Rattle.format_arguments.specs.DirectiveBytes.{is_in_directive_class}
use Rattle.format_arguments.specs.SameArguments.{is_same_name, is_unknown_kind}

-- ---- names of numbers

-- a word that names a number
unfoldable pub is_number_word : List ℕ → Bool
is_number_word word =
    bytes_eq word (codes "n") || bytes_eq word (codes "num") || bytes_eq word (codes "nb") || bytes_eq word (codes "number")
    || bytes_eq word (codes "count") || bytes_eq word (codes "cnt") || bytes_eq word (codes "amount") || bytes_eq word (codes "quantity")

-- the first_showing word goes on with a letter before it
abbrev pub first_begun_with : ℕ → List (List ℕ) → List (List ℕ)
first_begun_with b [] = []
first_begun_with b (word ∷ words) = (b ∷ word) ∷ words

-- the words of a name: what stands before, between and behind its bytes that are no letters
abbrev pub words_of : List ℕ → List (List ℕ)
words_of [] = [] ∷ []
words_of (b ∷ s) = if is_in_directive_class Letter b then first_begun_with b (words_of s) else [] ∷ words_of s

-- a word of the name names a number, as in `num_files`
unfoldable pub is_number_name : List ℕ → Bool
is_number_name name = list_any is_number_word (words_of name)

-- ---- what shows that an argument is the number

abbrev pub is_integer : Kind → Bool
is_integer Integer = true
is_integer Unsigned = true
is_integer _ = false

abbrev pub is_place : names.Name → Bool
is_place (Place n) = true
is_place (Word word) = false

abbrev pub has_number_name : names.Name → Bool
has_number_name (Place n) = false
has_number_name (Word word) = is_number_name word.now

-- an integer, or an argument that doesn't say what it converts
abbrev pub may_count : Kind → Bool
may_count kind = is_integer kind || is_unknown_kind kind

-- the text has an argument of this name
unfoldable pub has_name : List Argument → names.Name → Bool
has_name text name = list_any (λ a. is_same_name name a.name) text

-- it is an integer without a name; or it has a number's name; or the singular text lacks it; or it
-- is an integer or has a place
abbrev pub has_sign : Sign → List Argument → Argument → Bool
has_sign Counted singular a = is_integer a.kind && is_place a.name
has_sign Named singular a = has_number_name a.name
has_sign Lacking singular a = not (has_name singular a.name)
has_sign Alone singular a = is_integer a.kind || is_place a.name

unfoldable pub shows : Sign → List Argument → Argument → Bool
shows sign singular a = may_count a.kind && has_sign sign singular a

-- ---- the number

-- the first_showing argument that shows so
unfoldable pub first_showing : Sign → List Argument → List Argument → Option Argument
first_showing sign plural singular = find (shows sign singular) plural

-- this one, if all arguments that show so have its name
abbrev pub if_alone : Sign → List Argument → List Argument → Option Argument → Option Argument
if_alone sign plural singular None = None
if_alone sign plural singular (Some a) =
    if list_all (λ b. not (shows sign singular b) || is_same_name a.name b.name) plural then Some a else None

-- the only argument that shows so, where it first_showing stands
unfoldable pub only : Sign → List Argument → List Argument → Option Argument
only sign plural singular = if_alone sign plural singular (first_showing sign plural singular)

-- the one that was found, else the only one that shows so
abbrev pub else_only : Sign → List Argument → List Argument → Option Argument → Option Argument
else_only sign plural singular (Some a) = Some a
else_only sign plural singular None = only sign plural singular

-- the first_showing integer without a name; else the only argument with a number's name, else the only one
-- that the singular text lacks, else the only one at all that may be a number; else it isn't clear
abbrev pub number_of : List Argument → List Argument → Option Argument
number_of plural singular =
    else_only Alone plural singular
    (else_only Lacking plural singular
    (else_only Named plural singular
    (first_showing Counted plural singular)))
