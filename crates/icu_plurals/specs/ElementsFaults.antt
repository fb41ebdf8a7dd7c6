-- What is wrong with bytes that aren't packed elements, in the order in which faults are looked
-- for.
use Rattle.std.specs.Prelude.{◌≡◌, ℕ, ◌+◌, ◌/◌, ◌%◌, ◌<◌, ◌≤◌, List, [], ◌∷◌, ◌++◌, length, if◌then◌else◌, nat_lt, IsTrue, IsFalse}
use Rattle.std.specs.Prelude.{Option, Some, None, codes}
use Rattle.std.specs.Fmt.{decimal}
use Rattle.std.specs.Option.{option_or}
use Rattle.std.specs.Str.{is_utf8}
use Rattle.packed_list.specs.ListBytes.{ListBytes, HasFault, list_error_text}
use Rattle.icu_plurals.specs.declared.packed.error.ElementsBytesError.{ElementsBytesError}
use Rattle.icu_plurals.specs.declared.packed.error.ElementsBytesError.TheVariants as errors

-- ---- the parts

-- the first byte, the default's text, and what is left after it if bit 7 of the first byte says
-- that items follow
pub record ElementsParts : Type 0 where
  pub first : ℕ
  pub text : List ℕ
  pub rest : Option (List ℕ)

-- bytes are made of a first byte, a text and what is left
abbrev pub PartsWith : ℕ → List ℕ → Option (List ℕ) → List ℕ → Type 0
PartsWith first text None bytes = (first < 128) × (bytes ≡ first ∷ text)
PartsWith first text (Some rest) bytes = (128 ≤ first) × (bytes ≡ first ∷ length text ∷ (text ++ rest))

-- bytes are made of the parts
abbrev pub ArePartsOf : ElementsParts → List ℕ → Type 0
ArePartsOf parts bytes = PartsWith parts.first parts.text parts.rest bytes

-- bit 7 of the first byte is set, and the length of the text is missing or more than the bytes left
abbrev pub IsShort : List ℕ → Type 0
IsShort [] = ⊥
IsShort (first ∷ []) = 128 ≤ first
IsShort (first ∷ len ∷ bytes) = (128 ≤ first) × (length bytes < len)

-- ---- the items

-- the fault of the item at a place: no byte, a key above 6, or a text that isn't UTF-8
abbrev pub element_fault : ℕ → List ℕ → Option ElementsBytesError
element_fault place [] = Some (errors.ItemEmpty place)
element_fault place (byte ∷ text) =
    if nat_lt 6 (byte / 16) then Some (errors.Key place) else (if is_utf8 text then None else Some (errors.ItemText place))

-- the fault of the first bad item, if any; the first item is at the given place
abbrev pub first_element_fault : ℕ → List (List ℕ) → Option ElementsBytesError
first_element_fault place [] = None
first_element_fault place (item ∷ items) = option_or (element_fault place item) (first_element_fault (place + 1) items)

-- ---- the faults

-- what is left isn't a list, or a list with a bad item
abbrev pub HasItemsFault : List ℕ → ElementsBytesError → Type 0
HasItemsFault rest (errors.List fault) = HasFault rest fault
HasItemsFault rest fault = (items : List (List ℕ)) × ListBytes items rest × (first_element_fault 0 items ≡ Some fault)

-- `HasItemsFault` of what is left, if items follow
abbrev pub HasRestFault : Option (List ℕ) → ElementsBytesError → Type 0
HasRestFault None fault = ⊥
HasRestFault (Some rest) fault = HasItemsFault rest fault

-- one of the bits 4 to 6 of the first byte is set
abbrev pub HasPadding : ℕ → Type 0
HasPadding first = 16 ≤ first % 128

-- the fault of the parts: first the padding, then the default's text, then what is left
abbrev pub HasPartsFault : ElementsParts → ElementsBytesError → Type 0
HasPartsFault parts errors.Padding = HasPadding parts.first
HasPartsFault parts errors.DefaultText = (¬ (HasPadding parts.first)) × IsFalse (is_utf8 parts.text)
HasPartsFault parts fault = (¬ (HasPadding parts.first)) × IsTrue (is_utf8 parts.text) × HasRestFault parts.rest fault

-- bytes are refused with a fault
abbrev pub HasElementsFault : List ℕ → ElementsBytesError → Type 0
HasElementsFault bytes errors.Empty = bytes ≡ []
HasElementsFault bytes errors.Short = IsShort bytes
HasElementsFault bytes fault = (parts : ElementsParts) × ArePartsOf parts bytes × HasPartsFault parts fault

-- ---- the texts of the errors

-- why bytes aren't packed elements
abbrev pub elements_bytes_error_text : ElementsBytesError → List ℕ
elements_bytes_error_text errors.Empty = codes "elements without a byte"
elements_bytes_error_text errors.Short = codes "default of elements too short"
elements_bytes_error_text errors.Padding = codes "bad first byte of elements"
elements_bytes_error_text errors.DefaultText = codes "default of elements is not UTF-8"
elements_bytes_error_text (errors.List fault) = list_error_text fault
elements_bytes_error_text (errors.ItemEmpty place) = codes "element " ++ decimal place ++ codes " without a byte"
elements_bytes_error_text (errors.Key place) = codes "bad key of element " ++ decimal place
elements_bytes_error_text (errors.ItemText place) = codes "text of element " ++ decimal place ++ codes " is not UTF-8"
