-- The parents of a document, found by the names of their locales.
--     parent_among members locale      the text that the members have under the locale's key
--     named_parent parents locale      the parent by the rows that were made of the members
use Rattle.std.specs.Prelude.{ℕ, List, Option, Some, None, bytes_eq, map, if◌then◌else◌, option_and_then}
use Rattle.serde_json.specs.Data.{Members}
use Rattle.serde_json.specs.Find.{as_str, get_member}
use Rattle.plural_fallback.specs.LocaleNames.{folded, key_of}
use Rattle.plural_fallback.specs.LocalesJson.{keys_of}
use Rattle.document_members.specs.declared.parent_rows.Parents.{Parents}
use Rattle.document_members.specs.Inner.Rows.{Seen, row_at, row_text}

-- the text that members have under a key
abbrev pub text_among : Members → List ℕ → Option (List ℕ)
text_among members key = option_and_then as_str (get_member key members)

abbrev pub parent_among : Members → List ℕ → Option (List ℕ)
parent_among members locale = option_and_then (text_among members) (key_of (keys_of members) locale)

-- the parent of the row under the exact name, else that of another
abbrev pub exact_parent : Option (List ℕ) → Option Seen → Option (List ℕ)
exact_parent other None = other
exact_parent other (Some row) = row.1

-- the parent of a locale, by the rows under its folded and its exact name
abbrev pub parent_by : Option (List ℕ) → List ℕ → Option Seen → Option Seen → Option (List ℕ)
parent_by absent locale None exact = absent
parent_by absent locale (Some row) exact = if bytes_eq row.0 locale then row.1 else exact_parent row.1 exact

abbrev pub named_parent : Parents → List ℕ → Option (List ℕ)
named_parent parents locale =
    parent_by (row_text parents.absent) locale (row_at parents.folded (map folded locale)) (row_at parents.exact locale)
