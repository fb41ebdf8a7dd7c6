-- How the keys of messages and the bytes of patterns are printed.
--     message_text key      what is printed for the key of a message
--     bytes_text bytes      what is printed for bytes of a pattern
use Rattle.std.specs.Prelude.{ℕ, List, if◌then◌else◌}
use Rattle.std.specs.Str.{is_utf8}
use Rattle.plural_documents.specs.PrintedKeys.{key_text, length_text, name_text}

-- the most bytes that the key of a message prints
abbrev pub most_message_bytes : ℕ
most_message_bytes = 255

abbrev pub message_text : List ℕ → List ℕ
message_text key = key_text most_message_bytes key

-- bytes of a pattern, which is a text: the length in place of bytes that cut a character
abbrev pub bytes_text : List ℕ → List ℕ
bytes_text bytes = if is_utf8 bytes then name_text bytes else length_text bytes
