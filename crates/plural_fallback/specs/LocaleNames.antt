-- Locales as the bytes of their names: subtags with `-` or `_` between them.
--     is_same one other      the same but for ASCII case and `_` in place of `-`
--     key_of keys locale      the key of a locale
--     language locale      the first subtag
--     before_last locale      the locale without its last subtag
use Rattle.std.specs.Prelude.{ℕ, List, [], ◌∷◌, Bool, Option, Some, None, option_map, ◌==◌, ◌||◌, bytes_eq, if◌then◌else◌}
use Rattle.std.specs.Char.{to_ascii_lowercase}
use Rattle.std.specs.Cmp.Lexicographic.{pointwise}
use Rattle.std.specs.List.{before_first, find}
use Rattle.std.specs.Option.{option_or}

-- `-` or `_`
abbrev pub is_separator : ℕ → Bool
is_separator byte = byte == 45 || byte == 95

-- in lower case, and `_` as `-`
abbrev pub folded : ℕ → ℕ
folded byte = if byte == 95 then 45 else to_ascii_lowercase byte

-- as long, and the same byte by byte
abbrev pub is_same : List ℕ → List ℕ → Bool
is_same = pointwise (λ one other. folded one == folded other)

-- the locale itself, else the first key that is the same
abbrev pub key_of : List (List ℕ) → List ℕ → Option (List ℕ)
key_of keys locale = option_or (find (bytes_eq locale) keys) (find (is_same locale) keys)

-- what stands before the first separator, or all
abbrev pub language : List ℕ → List ℕ
language = before_first is_separator

-- what stands before the last separator, if there is one
abbrev pub before_last : List ℕ → Option (List ℕ)
before_last [] = None
before_last (byte ∷ bytes) =
    option_or (option_map (λ front. byte ∷ front) (before_last bytes)) (if is_separator byte then Some [] else None)
