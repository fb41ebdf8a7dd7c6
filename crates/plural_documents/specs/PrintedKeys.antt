-- How the keys of a document are printed: its locales, parts, messages and forms.
--     key_text most key      what is printed for a key, in at most so many bytes
--     name_text name      what is printed for a name, in at most 64 bytes
use Rattle.std.specs.Prelude.{ℕ, ◌/◌, ◌%◌, ◌==◌, nat_lt, Bool, not, ◌&&◌, if◌then◌else◌, List, [], ◌∷◌, ◌++◌, length, codes}
use Rattle.std.specs.Char.{digit_char}
use Rattle.std.specs.Fmt.{decimal}
use Rattle.std.specs.List.{flat_map}

-- a byte that is printed as it is: no control character of ASCII and no backslash
abbrev pub is_plain : ℕ → Bool
is_plain byte = not (nat_lt byte 32) && not (byte == 92) && not (byte == 127)

-- `\x` and two hexadecimal digits
abbrev pub byte_escape : ℕ → List ℕ
byte_escape byte = codes "\\x" ++ digit_char (byte / 16) ∷ digit_char (byte % 16) ∷ []

-- so a printed backslash always begins an escape
abbrev pub printed_byte : ℕ → List ℕ
printed_byte byte = if is_plain byte then byte ∷ [] else byte_escape byte

abbrev pub escaped_key : List ℕ → List ℕ
escaped_key key = flat_map printed_byte key

-- `\(300 bytes)`, which no key prints with escapes
abbrev pub length_text : List ℕ → List ℕ
length_text key = codes "\\(" ++ (decimal (length key) ++ codes " bytes)")

-- the length in place of a key that has or would print more bytes
abbrev pub key_text : ℕ → List ℕ → List ℕ
key_text most key =
    if nat_lt most (length key) then length_text key
    else (if nat_lt most (length (escaped_key key)) then length_text key else escaped_key key)

-- the most bytes that a name prints
abbrev pub most_name_text : ℕ
most_name_text = 64

abbrev pub name_text : List ℕ → List ℕ
name_text name = key_text most_name_text name

-- ---- the lines of a report: the first ten of a place are told, and the others are counted

abbrev pub most_told : ℕ
most_told = 10

abbrev pub ended_line : List ℕ → List ℕ
ended_line text = text ++ 10 ∷ []
