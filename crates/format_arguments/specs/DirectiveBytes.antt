-- The bytes of directives: classes, the longest run of a class, and numbers.
use Rattle.std.specs.Prelude.{ℕ, ◌+◌, ◌-◌, ◌*◌, ◌==◌, List, [], ◌∷◌, Bool, true, false, ◌&&◌, ◌||◌, not, nat_le, min, codes, Option, Some, None, if◌then◌else◌}
use Rattle.format_arguments.specs.declared.bytes.Class.{Class}
use Rattle.format_arguments.specs.declared.bytes.Class.TheVariants.{Digit, Letter, Flag, Size, Field, Macro, Name, Barred, Unquoted}
use Rattle.format_arguments.specs.declared.format.Format.{Format}
use Rattle.format_arguments.specs.declared.format.Format.TheVariants.{PythonBrace, Java}
use Rattle.format_arguments.specs.DirectiveTables.{is_one_of, flags_of, sizes_of}

abbrev pub is_in_byte_range : ℕ → ℕ → ℕ → Bool
is_in_byte_range low high b = nat_le low b && nat_le b high

abbrev pub is_directive_digit : ℕ → Bool
is_directive_digit b = is_in_byte_range 48 57 b

abbrev pub is_directive_letter : ℕ → Bool
is_directive_letter b = is_in_byte_range 97 122 b || is_in_byte_range 65 90 b

-- a letter, a digit or a low line of ASCII
abbrev pub is_of_word : ℕ → Bool
is_of_word b = is_directive_letter b || is_directive_digit b || b == 95

-- a name in braces: a number in Java; in Python also what picks a part of the argument, as `.name`
-- and `[0]`
abbrev pub is_of_field : Format → ℕ → Bool
is_of_field PythonBrace b = is_of_word b || is_one_of (codes ".[]") b
is_of_field Java b = is_directive_digit b
is_of_field _ b = is_of_word b

abbrev pub is_in_directive_class : Class → ℕ → Bool
is_in_directive_class Digit b = is_directive_digit b
is_in_directive_class Letter b = is_directive_letter b
is_in_directive_class (Flag f) b = is_one_of (flags_of f) b
is_in_directive_class (Size f) b = is_one_of (sizes_of f) b
is_in_directive_class (Field f) b = is_of_field f b
-- the bits behind C's `PRIu`, as 64 and MAX
is_in_directive_class Macro b = is_in_byte_range 65 90 b || is_directive_digit b
-- a name in round brackets
is_in_directive_class Name b = not (b == 40 || b == 41)
is_in_directive_class Barred b = not (b == 124)
is_in_directive_class Unquoted b = not (b == 39)

-- the longest front of bytes of the class
abbrev pub run_front : Class → List ℕ → List ℕ
run_front class [] = []
run_front class (b ∷ s) = if is_in_directive_class class b then b ∷ run_front class s else []

-- what follows it
abbrev pub behind_directive_run : Class → List ℕ → List ℕ
behind_directive_run class [] = []
behind_directive_run class (b ∷ s) = if is_in_directive_class class b then behind_directive_run class s else b ∷ s

abbrev pub is_without_bytes : List ℕ → Bool
is_without_bytes [] = true
is_without_bytes (b ∷ s) = false

-- the text begins with this byte
abbrev pub begins_with : ℕ → List ℕ → Bool
begins_with byte [] = false
begins_with byte (b ∷ s) = b == byte

-- what follows the first byte
abbrev pub behind_first_byte : List ℕ → List ℕ
behind_first_byte [] = []
behind_first_byte (b ∷ s) = s

-- what follows the word, if it is at the front
abbrev pub after_directive_word : List ℕ → List ℕ → Option (List ℕ)
after_directive_word [] s = Some s
after_directive_word (w ∷ word) [] = None
after_directive_word (w ∷ word) (b ∷ s) = if w == b then after_directive_word word s else None

-- the number that n and then these digits write
abbrev pub number_from : ℕ → List ℕ → ℕ
number_from n [] = n
number_from n (b ∷ s) = number_from (n * 10 + (b - 48)) s

-- the place that digits write: all from 999999999 on are one
unfoldable pub place_of_digits : List ℕ → ℕ
place_of_digits digits = min (number_from 0 digits) 999999999
