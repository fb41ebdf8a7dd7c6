-- The header of a catalog, its fields, and the charset that it names.
use Rattle.std.specs.Prelude.{ℕ, ◌-◌, ◌==◌, ◌&&◌, Bool, false, not, List, [], ◌∷◌, length, take, drop, map, codes, Option, Some, None, option_and_then, option_map, is_none, if◌then◌else◌}
use Rattle.std.specs.Char.{is_ascii_whitespace, to_ascii_lowercase}
use Rattle.std.specs.List.{find, prefix_len, suffix_len}
use Rattle.std.specs.Option.{option_or}
use Rattle.std.specs.Str.{bytes_eq}
use Rattle.po_catalog.specs.Catalogs.{PoMessage, PoText}
use Rattle.po_catalog.specs.FileLines.{cut_at, lines_of}
use Rattle.po_catalog.specs.PoBytes.{first_flag}

-- ---- the header

abbrev pub is_empty_id : Option PoText → Bool
is_empty_id None = false
is_empty_id (Some text) = length text.bytes == 0

-- its id is empty, it has no context, and it doesn't stand behind `#~`
abbrev pub is_header : PoMessage → Bool
is_header message = not message.is_obsolete && (is_none message.context && is_empty_id message.id)

abbrev pub first_text : List PoText → Option (List ℕ)
first_text [] = None
first_text (text ∷ more) = Some text.bytes

-- the text of the first header
abbrev pub header_text : List PoMessage → Option (List ℕ)
header_text messages = option_and_then (λ (message : PoMessage). first_text message.forms) (find is_header messages)

-- ---- its fields

-- a text without ASCII's white space in front, and behind it
abbrev pub from_front : List ℕ → List ℕ
from_front s = drop (prefix_len is_ascii_whitespace s) s

abbrev pub up_to_end : List ℕ → List ℕ
up_to_end s = take (length s - suffix_len is_ascii_whitespace s) s

abbrev pub trimmed : List ℕ → List ℕ
trimmed s = up_to_end (from_front s)

-- both are the same without white space around the first, and without regard to case
abbrev pub is_named : List ℕ → List ℕ → Bool
is_named found name = bytes_eq (map to_ascii_lowercase (trimmed found)) (map to_ascii_lowercase name)

abbrev pub unless_empty : List ℕ → Option (List ℕ)
unless_empty [] = None
unless_empty (b ∷ s) = Some (b ∷ s)

abbrev pub value_behind : Option (List ℕ) → Option (List ℕ)
value_behind None = None
value_behind (Some s) = unless_empty (trimmed s)

-- what stands behind the colon of a line, if this name stands before it, and anything behind it
abbrev pub value_in : List ℕ → List ℕ → Option (List ℕ)
value_in name line = if is_named (cut_at 58 line).0 name then value_behind (cut_at 58 line).1 else None

-- the value of the first line that has one
abbrev pub first_field_value : List ℕ → List (List ℕ) → Option (List ℕ)
first_field_value name [] = None
first_field_value name (line ∷ lines) = option_or (value_in name line) (first_field_value name lines)

abbrev pub field_in : List ℕ → List ℕ → Option (List ℕ)
field_in name text = first_field_value name (lines_of text)

-- the value of a field of the header
abbrev pub field_of : List ℕ → List PoMessage → Option (List ℕ)
field_of name messages = option_and_then (field_in name) (header_text messages)

-- ---- its charset

-- what follows the first place where this text stands
abbrev pub behind_first_place : List ℕ → List ℕ → Option (List ℕ)
behind_first_place text [] = None
behind_first_place text (b ∷ s) = if bytes_eq (take (length text) (b ∷ s)) text then Some (drop (length text) (b ∷ s)) else behind_first_place text s

-- up to the first semicolon, comma or white space
abbrev pub charset_word : List ℕ → List ℕ
charset_word s = first_flag (cut_at 59 s).0

abbrev pub charset_in : List ℕ → Option (List ℕ)
charset_in s = option_map charset_word (behind_first_place (codes "charset=") s)

-- the charset that `Content-Type` names
abbrev pub charset_of : List PoMessage → Option (List ℕ)
charset_of messages = option_and_then charset_in (field_of (codes "Content-Type") messages)
