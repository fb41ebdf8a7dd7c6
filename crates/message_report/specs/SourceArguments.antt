-- What the source text of a message has (docs/TRANSLATORS.md). Its arguments are a list of texts
-- under the message's key in a part of the locale, `source`; the text `{}` is the number.
--     IsTextList value      the value is a list of texts
--     LacksNumber part key      a list of texts is under the key, and none of these is the number
use Rattle.std.specs.Prelude.{◌≡◌, ◌≢◌, ℕ, List, codes, map, Option, Some, None}
use Rattle.std.specs.List.{AllByRecursion}
use Rattle.std.specs.Option.{option_and_then}
use Rattle.serde_json.specs.Data.{Data, array, string}
use Rattle.serde_json.specs.Find.{get}
use Rattle.serde_json.specs.View.{items_of}
use Rattle.plural_message.specs.Messages.{placeholder}

-- the key of the part
abbrev pub source_name : List ℕ
source_name = codes "source"

-- the list of these texts
abbrev pub text_list : List (List ℕ) → Data
text_list texts = array (items_of (map string texts))

abbrev pub IsTextList : Data → Type 0
IsTextList value = (texts : List (List ℕ)) × (value ≡ text_list texts)

-- a list of other texts than the number
abbrev pub IsWithoutNumber : Data → Type 0
IsWithoutNumber value =
    (texts : List (List ℕ)) × (value ≡ text_list texts) × AllByRecursion (λ text. text ≢ placeholder) texts

abbrev pub IsWithoutNumberIf : Option Data → Type 0
IsWithoutNumberIf None = ⊥
IsWithoutNumberIf (Some value) = IsWithoutNumber value

-- such a list is under the key, in a part that may be absent
abbrev pub LacksNumber : Option Data → List ℕ → Type 0
LacksNumber part key = IsWithoutNumberIf (option_and_then (get key) part)
