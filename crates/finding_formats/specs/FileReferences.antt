-- The name of a file as a URI reference (RFC 3986, section 4.2): a relative reference without a
-- scheme, an authority, a query and a fragment.
--     file_reference name      that reference
use Rattle.std.specs.Prelude.{ℕ, ◌==◌, nat_le, nat_lt, Bool, ◌&&◌, ◌||◌, List, [], ◌∷◌, ◌++◌, codes, if◌then◌else◌, slice_index}
use Rattle.std.specs.List.{flat_map, list_any}
use Rattle.percent_encoding.specs.Percent.{percent_encode_byte}

-- the byte is at least the first and at most the last
abbrev pub is_byte_between : ℕ → ℕ → ℕ → Bool
is_byte_between first last byte = nat_le first byte && nat_le byte last

-- a letter or a digit of ASCII
abbrev pub is_alphanumeric : ℕ → Bool
is_alphanumeric byte = is_byte_between 48 57 byte || is_byte_between 65 90 byte || is_byte_between 97 122 byte

-- what else stands in a path for itself: the other unreserved characters, the delimiters within a
-- segment, `@`, and `/` between segments; `:` does so too, but not in a first segment
abbrev pub path_marks : List ℕ
path_marks = codes "-._~" ++ (codes "!$&'()*+,;=" ++ codes "@/")

abbrev pub is_path_byte : ℕ → Bool
is_path_byte byte = nat_lt byte 128 && (is_alphanumeric byte || list_any (λ mark. mark == byte) path_marks)

-- the byte, or its escape
abbrev pub path_byte : ℕ → List ℕ
path_byte byte = if is_path_byte byte then byte ∷ [] else percent_encode_byte byte

-- behind `//` would stand an authority; `/.//` begins the same path without one
abbrev pub path_start : List ℕ → List ℕ
path_start name = if (slice_index name 0 == 47) && (slice_index name 1 == 47) then codes "/." else []

abbrev pub file_reference : List ℕ → List ℕ
file_reference name = path_start name ++ flat_map path_byte name
