-- The JSON value of an input whose parts and locales are objects, or the first reason why it has
-- none (docs/JSON.md).
--     document_of_input input      the value, or the first fault
--     members_at part value      the members of a part, by locale
use Rattle.std.specs.Prelude.{ℕ, List, Option, Some, None, is_some, Bool, Result, Ok, Err, ⊤, codes, if◌then◌else◌, ◌==◌, ◌++◌}
use Rattle.std.specs.Option.{option_and_then}
use Rattle.serde_json.specs.Data.{Data, Members, no_members, member}
use Rattle.serde_json.specs.Find.{get, as_null, as_object}
use Rattle.serde_json.specs.Written.{has_float}
use Rattle.plural_documents.specs.Inputs.{within_limit, json_of}
use Rattle.plural_documents.specs.PrintedKeys.{name_text}
use Rattle.plural_documents.specs.Steps.{◌>>=◌, value_or_fault}
use Rattle.plural_fallback.specs.LocalesJson.{part_name}
use Rattle.document_report.specs.declared.error.CheckError.{CheckError}
use Rattle.document_report.specs.declared.error.CheckError.TheVariants.{TooLong, Json, Float, NoObject}
use Rattle.plural_fallback.specs.declared.locales.Part.{Part}
use Rattle.plural_fallback.specs.declared.locales.Part.TheVariants.{Cardinal, Ordinal, Ranges}
use Rattle.document_report.specs.declared.place.Place.TheVariants as place
use Rattle.std.specs.List.{list_any}
use Rattle.document_report.specs.declared.place.Place.{Place}

-- ---- Objects

-- the value of `ranges` in a locale's value, if it is an object
abbrev pub table_in : Data → Option Members
table_in value = option_and_then as_object (get (codes "ranges") value)

-- the value of a locale is an object; in the part `ranges`, it has an object under `ranges`
abbrev pub has_part_form : Part → Data → Bool
has_part_form Cardinal value = is_some (as_object value)
has_part_form Ordinal value = is_some (as_object value)
has_part_form Ranges value = is_some (table_in value)

-- all locales have the form of the part, or the fault names the first one that hasn't
abbrev pub locales_formed : Part → Members → Result ⊤ CheckError
locales_formed part no_members = Ok tt
locales_formed part (member locale value members) =
    if has_part_form part value then locales_formed part members else Err (NoObject (place.Locale part (name_text locale)))

-- the object of a part
abbrev pub object_formed : Part → Option Members → Result ⊤ CheckError
object_formed part None = Err (NoObject (place.Part part))
object_formed part (Some members) = locales_formed part members

-- a part is absent, null or an object
abbrev pub part_formed : Part → Option Data → Result ⊤ CheckError
part_formed part None = Ok tt
part_formed part (Some value) = if is_some (as_null value) then Ok tt else object_formed part (as_object value)

-- the parts of a document, in this order
abbrev pub parts_formed : Data → Result ⊤ CheckError
parts_formed value =
    part_formed Cardinal (get (part_name Cardinal) value)
    >>= λ _. part_formed Ordinal (get (part_name Ordinal) value)
    >>= λ _. part_formed Ranges (get (part_name Ranges) value)

-- a document has no float; it, its parts and the value of each locale are objects
abbrev pub document_formed : Data → Result ⊤ CheckError
document_formed value =
    if has_float value then Err Float
    else (if is_some (as_object value) then parts_formed value else Err (NoObject place.Document))

-- ---- The value of an input

-- the value, if it is a document
abbrev pub document_with : Data → Result Data CheckError
document_with value = document_formed value >>= λ _. Ok value

-- the value of the bytes
abbrev pub document_of_bytes : List ℕ → Result Data CheckError
document_of_bytes bytes = value_or_fault Json (json_of bytes) >>= document_with

-- the value of an input; its length is checked first
abbrev pub document_of_input : List ℕ → Result Data CheckError
document_of_input input = within_limit TooLong document_of_bytes input

-- ---- What a document has

-- the members, or no members if there is no object
abbrev pub members_or_none : Option Members → Members
members_or_none None = no_members
members_or_none (Some members) = members

-- the members of a part, by locale
abbrev pub members_at : Part → Data → Members
members_at part value = members_or_none (option_and_then as_object (get (part_name part) value))

-- ---- names in a document, and the text of a place where an object is expected

abbrev pub has_underscore : List ℕ → Bool
has_underscore name = list_any (λ byte. byte == 95) name

-- the text of a place; a locale has its printed name
abbrev pub place_text : Place → List ℕ
place_text place.Document = codes "document"
place_text (place.Part part) = part_name part
place_text (place.Locale part locale) = part_name part ++ codes " " ++ locale
