-- The keys and the parents in a JSON document: its parts are objects from locales.
--     keys_under name value      the keys of a part, in the order of their bytes
--     parent_in value locale      the text of the locale's key in the part `parents`
use Rattle.std.specs.Prelude.{ℕ, List, [], ◌∷◌, Option, Some, None, codes}
use Rattle.std.specs.Option.{option_and_then}
use Rattle.serde_json.specs.Data.{Data, Members, no_members, member}
use Rattle.serde_json.specs.Find.{get, as_object, as_str}
use Rattle.plural_fallback.specs.LocaleNames.{key_of}
use Rattle.plural_fallback.specs.declared.locales.Part.{Part}
use Rattle.plural_fallback.specs.declared.locales.Part.TheVariants.{Cardinal, Ordinal, Ranges}

abbrev pub part_name : Part → List ℕ
part_name Cardinal = codes "cardinal"
part_name Ordinal = codes "ordinal"
part_name Ranges = codes "ranges"

abbrev pub keys_of : Members → List (List ℕ)
keys_of no_members = []
keys_of (member key value members) = key ∷ keys_of members

-- those of an object; no other value has keys
abbrev pub keys_in_object : Option Members → List (List ℕ)
keys_in_object None = []
keys_in_object (Some members) = keys_of members

abbrev pub keys_under : List ℕ → Data → List (List ℕ)
keys_under name value = keys_in_object (option_and_then as_object (get name value))

-- the text under a key of `parents`
abbrev pub text_at : Data → List ℕ → Option (List ℕ)
text_at value key = option_and_then as_str (option_and_then (get key) (get (codes "parents") value))

abbrev pub parent_in : Data → List ℕ → Option (List ℕ)
parent_in value locale = option_and_then (text_at value) (key_of (keys_under (codes "parents") value) locale)
