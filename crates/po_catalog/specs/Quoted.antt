-- What a text in quotation marks says: the bytes behind its first mark, one after the other, with
-- gettext's escapes, up to the next mark.
use Rattle.std.specs.Prelude.{◌≡◌, ℕ, ◌+◌, ◌-◌, ◌*◌, ◌==◌, zero, suc, nat_lt, List, [], ◌∷◌, Option, Some, None, Result, Ok, Err, if◌then◌else◌}
use Rattle.po_catalog.specs.declared.fault.Cause.{Cause}
use Rattle.po_catalog.specs.declared.fault.Cause.TheVariants.{UnclosedText, UnknownEscape}
use Rattle.po_catalog.specs.PoBytes.{is_within}

-- ---- escapes

-- the value of a hexadecimal digit, and 16 of what is none
unfoldable pub digit_value : ℕ → ℕ
digit_value b =
    if is_within 48 57 b then b - 48
    else (if is_within 97 102 b then b - 97 + 10
    else (if is_within 65 70 b then b - 65 + 10
    else 16))

-- the number of n and the hexadecimal digits at the front, and what follows them
abbrev pub hexadecimal : ℕ → List ℕ → ℕ × List ℕ
hexadecimal n [] = (n, [])
hexadecimal n (b ∷ s) = if nat_lt (digit_value b) 16 then hexadecimal (n * 16 + digit_value b) s else (n, b ∷ s)

-- the number of n and the octal digits at the front, at most so many, and what follows them
abbrev pub octal : ℕ → ℕ → List ℕ → ℕ × List ℕ
octal zero n s = (n, s)
octal (suc more) n [] = (n, [])
octal (suc more) n (b ∷ s) = if nat_lt (digit_value b) 8 then octal more (n * 8 + digit_value b) s else (n, b ∷ s)

-- the code, if it is a byte
abbrev pub of_byte : ℕ × List ℕ → Option (ℕ × List ℕ)
of_byte code = if nat_lt code.0 256 then Some code else None

-- the byte of a letter or a mark behind a backslash
unfoldable pub byte_of_letter : ℕ → Option ℕ
byte_of_letter b =
    if b == 110 then Some 10
    else (if b == 34 then Some 34
    else (if b == 92 then Some 92
    else (if b == 116 then Some 9
    else (if b == 114 then Some 13
    else (if b == 97 then Some 7
    else (if b == 98 then Some 8
    else (if b == 118 then Some 11
    else (if b == 102 then Some 12
    else None))))))))

-- the code of the hexadecimal digits at the front, of which there is one
abbrev pub hexadecimal_code : List ℕ → Option (ℕ × List ℕ)
hexadecimal_code [] = None
hexadecimal_code (b ∷ s) = if nat_lt (digit_value b) 16 then of_byte (hexadecimal (digit_value b) s) else None

-- the code behind a backslash: x and hexadecimal digits, or one to three octal digits
abbrev pub code_front : ℕ → List ℕ → Option (ℕ × List ℕ)
code_front b s =
    if b == 120 then hexadecimal_code s
    else (if nat_lt (digit_value b) 8 then of_byte (octal 2 (digit_value b) s)
    else None)

abbrev pub letter_or_code : Option ℕ → ℕ → List ℕ → Option (ℕ × List ℕ)
letter_or_code (Some byte) b s = Some (byte, s)
letter_or_code None b s = code_front b s

-- ---- texts

-- what stands at the front of a text
pub data Said : Type 0 where
  -- the mark that ends it, and what follows
  End : List ℕ → Said
  -- a byte, and what follows
  Byte : ℕ → List ℕ → Said

abbrev pub said_code : Option (ℕ × List ℕ) → Result Said Cause
said_code None = Err UnknownEscape
said_code (Some (byte, rest)) = Ok (Byte byte rest)

-- behind a backslash
abbrev pub escape_front : List ℕ → Result Said Cause
escape_front [] = Err UnclosedText
escape_front (b ∷ s) = said_code (letter_or_code (byte_of_letter b) b s)

abbrev pub said_front : List ℕ → Result Said Cause
said_front [] = Err UnclosedText
said_front (b ∷ s) = if b == 34 then Ok (End s) else (if b == 92 then escape_front s else Ok (Byte b s))

-- what stands behind the first mark of a text says these bytes, up to its last mark, and these
-- follow; or it has this fault
pub data Says : List ℕ → Result (List ℕ × List ℕ) Cause → Type 0 where
  ends : (s rest : List ℕ) → said_front s ≡ Ok (End rest) → Says s (Ok ([], rest))
  goes : (s after text rest : List ℕ) (b : ℕ) → said_front s ≡ Ok (Byte b after) → Says after (Ok (text, rest)) → Says s (Ok (b ∷ text, rest))
  fails : (s : List ℕ) (cause : Cause) → said_front s ≡ Err cause → Says s (Err cause)
  fails_later : (s after : List ℕ) (b : ℕ) (cause : Cause) → said_front s ≡ Ok (Byte b after) → Says after (Err cause) → Says s (Err cause)

-- what stands behind the first mark of a text says these bytes, and then has this fault
pub data Breaks : List ℕ → List ℕ → Cause → Type 0 where
  at_once : (s : List ℕ) (cause : Cause) → said_front s ≡ Err cause → Breaks s [] cause
  later : (s after text : List ℕ) (b : ℕ) (cause : Cause) → said_front s ≡ Ok (Byte b after) → Breaks after text cause → Breaks s (b ∷ text) cause
