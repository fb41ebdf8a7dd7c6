-- The bytes of a pattern: white space, classes, the longest run of a class, and words. White space
-- is that of Unicode Standard Annex 31, Pattern_White_Space.
use Rattle.std.specs.Prelude.{ℕ, zero, suc, ◌-◌, ◌==◌, List, [], ◌∷◌, Bool, true, false, ◌&&◌, ◌||◌, not, nat_le, Option, Some, None, if◌then◌else◌}
use Rattle.pattern_bytes.specs.declared.bytes.Class.{Class}
use Rattle.pattern_bytes.specs.declared.bytes.Class.TheVariants.{Name, Number, Digit, Letter, Plain, Unquoted}

-- ---- the bytes that mean something

abbrev pub hash : ℕ
hash = 35

abbrev pub apostrophe : ℕ
apostrophe = 39

abbrev pub comma : ℕ
comma = 44

abbrev pub minus_sign : ℕ
minus_sign = 45

abbrev pub decimal_point : ℕ
decimal_point = 46

abbrev pub equals : ℕ
equals = 61

abbrev pub opening : ℕ
opening = 123

abbrev pub closing : ℕ
closing = 125

-- ---- white space

abbrev pub is_between : ℕ → ℕ → ℕ → Bool
is_between low high b = nat_le low b && nat_le b high

-- how many bytes the white space at the front has: U+0009 to U+000D, U+0020, U+0085, U+200E,
-- U+200F, U+2028 and U+2029, in UTF-8; 0 if there is none
abbrev pub white_width : List ℕ → ℕ
white_width [] = 0
white_width (a ∷ []) = if is_between 9 13 a || a == 32 then 1 else 0
white_width (a ∷ b ∷ []) =
    if is_between 9 13 a || a == 32 then 1 else if a == 0xc2 && b == 0x85 then 2 else 0
white_width (a ∷ b ∷ c ∷ s) =
    if is_between 9 13 a || a == 32 then 1
    else if a == 0xc2 && b == 0x85 then 2
    else if (a == 0xe2 && b == 0x80) && (is_between 0x8e 0x8f c || is_between 0xa8 0xa9 c) then 3
    else 0

-- the bytes after n bytes and all white space that follows them
abbrev pub skip : ℕ → List ℕ → List ℕ
skip zero [] = []
skip (suc n) [] = []
skip zero (b ∷ s) = if white_width (b ∷ s) == 0 then b ∷ s else skip (white_width (b ∷ s) - 1) s
skip (suc n) (b ∷ s) = skip n s

-- the bytes after the white space at the front
abbrev pub after_white : List ℕ → List ℕ
after_white s = skip 0 s

-- ---- classes

abbrev pub is_digit : ℕ → Bool
is_digit b = is_between 48 57 b

abbrev pub is_letter : ℕ → Bool
is_letter b = is_between 65 90 b || is_between 97 122 b

-- the byte is of the class: a name has letters, digits, `_` and all bytes above ASCII; a number's
-- text has digits, `-` and `.`; plain text is all but `'`, `{`, `}` and `#`
abbrev pub is_in : Class → ℕ → Bool
is_in Name b = is_letter b || is_digit b || b == 95 || nat_le 128 b
is_in Number b = is_digit b || b == minus_sign || b == decimal_point
is_in Digit b = is_digit b
is_in Letter b = is_letter b
is_in Plain b = not (b == apostrophe || b == opening || b == closing || b == hash)
is_in Unquoted b = not (b == apostrophe)

-- a byte of the class begins the text; in a name white space doesn't: a name has no
-- Pattern_White_Space
abbrev pub begins : Class → List ℕ → Bool
begins class [] = false
begins Name (b ∷ s) = is_in Name b && white_width (b ∷ s) == 0
begins class (b ∷ s) = is_in class b

-- the longest front of bytes of the class
abbrev pub class_front : Class → List ℕ → List ℕ
class_front class [] = []
class_front class (b ∷ s) = if begins class (b ∷ s) then b ∷ class_front class s else []

-- what follows it
abbrev pub behind_run : Class → List ℕ → List ℕ
behind_run class [] = []
behind_run class (b ∷ s) = if begins class (b ∷ s) then behind_run class s else b ∷ s

abbrev pub is_empty_text : List ℕ → Bool
is_empty_text [] = true
is_empty_text (b ∷ s) = false

-- ---- words

-- what follows the word, if it is at the front
abbrev pub after_word : List ℕ → List ℕ → Option (List ℕ)
after_word [] s = Some s
after_word (w ∷ word) [] = None
after_word (w ∷ word) (b ∷ s) = if w == b then after_word word s else None
