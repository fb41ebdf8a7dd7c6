-- Bytes have at most one fault, and none if they encode packed elements.
use Rattle.std.proofs.Common.{◌≡◌, ℕ, ◌+◌, ◌/◌, ◌<◌, List, [], ◌∷◌, ◌++◌, length, refl, sym, ap, ◌∙◌, subst}
use Rattle.std.proofs.Common.{arith, Bool, true, false, Some, None, inl, inr, ◌⊎◌}
use Rattle.std.specs.Prelude.{Option, Result, Ok, Err, nat_lt, if◌then◌else◌, IsTrue, MatchResult, ⊤, is_some}
use Rattle.std.specs.Option.{option_or}
use Rattle.std.specs.Str.{is_utf8}
use Rattle.std.proofs.lemmas.List.{length-append}
use Rattle.packed_list.specs.ListBytes.{ListBytes}
use Rattle.icu_plurals.specs.declared.packed.error.ElementsBytesError.{ElementsBytesError}
use Rattle.icu_plurals.specs.declared.packed.error.ElementsBytesError.TheVariants.{Empty, Short, Padding, DefaultText}
use Rattle.icu_plurals.specs.declared.packed.error.ElementsBytesError.TheVariants.{List as InList, ItemEmpty, Key, ItemText}
use Rattle.icu_plurals.specs.ElementsFaults.{ElementsParts, PartsWith, ArePartsOf, IsShort, HasPadding, HasItemsFault}
use Rattle.icu_plurals.specs.ElementsFaults.{HasRestFault, HasPartsFault, HasElementsFault, element_fault, first_element_fault}
use Rattle.icu_plurals.specs.Inner.ElementsReading.{HasPlaceFault, AreGoodItems, IsGoodRest, AreGoodParts}
use Rattle.icu_plurals.proofs.ElementsAgain.{one_parts}

-- ---- faults of the first byte and of the length

-- bytes that are made of parts have a first byte
parts_not_empty : (first : ℕ) (text : List ℕ) (rest : Option (List ℕ)) (bytes : List ℕ) → PartsWith first text rest bytes → bytes ≡ [] → ⊥
parts_not_empty first text None bytes h e = cc
parts_not_empty first text (Some rest) bytes h e = cc

-- a first byte without bit 7 announces no length
single_not_short : (first : ℕ) (text : List ℕ) → first < 128 → IsShort (first ∷ text) → ⊥
single_not_short first [] h s = omega (arith, h, s)
single_not_short first (len ∷ text) h s = omega (arith, h, s.0)

-- bytes that are made of parts have all the bytes that they announce
parts_not_short : (first : ℕ) (text : List ℕ) (rest : Option (List ℕ)) (bytes : List ℕ) → PartsWith first text rest bytes
    → IsShort bytes → ⊥
parts_not_short first text None bytes h s = single_not_short first text h.0 (subst IsShort h.1 s)
parts_not_short first text (Some rest) bytes h s =
    let short : IsShort (first ∷ length text ∷ (text ++ rest)) = subst IsShort h.1 s in
    omega (arith, short.1, length-append text rest)

-- bytes with such a fault have no parts
pub place_fault-no_parts : (bytes : List ℕ) (fault : ElementsBytesError) (parts : ElementsParts) → HasPlaceFault bytes fault
    → ArePartsOf parts bytes → ⊥
place_fault-no_parts bytes Empty parts h are = parts_not_empty parts.first parts.text parts.rest bytes are h
place_fault-no_parts bytes Short parts h are = parts_not_short parts.first parts.text parts.rest bytes are h
place_fault-no_parts bytes Padding parts h are = h
place_fault-no_parts bytes DefaultText parts h are = h
place_fault-no_parts bytes (InList fault) parts h are = h
place_fault-no_parts bytes (ItemEmpty place) parts h are = h
place_fault-no_parts bytes (Key place) parts h are = h
place_fault-no_parts bytes (ItemText place) parts h are = h

-- a fault of the first byte or of the length is one of the bytes
pub place_fault_is : (bytes : List ℕ) (fault : ElementsBytesError) → HasPlaceFault bytes fault → HasElementsFault bytes fault
place_fault_is bytes Empty h = h
place_fault_is bytes Short h = h
place_fault_is bytes Padding h = absurd h
place_fault_is bytes DefaultText h = absurd h
place_fault_is bytes (InList fault) h = absurd h
place_fault_is bytes (ItemEmpty place) h = absurd h
place_fault_is bytes (Key place) h = absurd h
place_fault_is bytes (ItemText place) h = absurd h

-- empty bytes aren't short
empty_or_short : (bytes : List ℕ) → bytes ≡ [] → IsShort bytes → ⊥
empty_or_short bytes e s = subst IsShort e s

-- bytes with such a fault have no other
pub place_fault_only : (bytes : List ℕ) (fault other : ElementsBytesError) → HasPlaceFault bytes fault
    → HasElementsFault bytes other → fault ≡ other
place_fault_only bytes Empty Empty h g = refl
place_fault_only bytes Empty Short h g = absurd (empty_or_short bytes h g)
place_fault_only bytes Short Empty h g = absurd (empty_or_short bytes g h)
place_fault_only bytes Short Short h g = refl
place_fault_only bytes fault Padding h g = absurd (place_fault-no_parts bytes fault g.0 h g.1)
place_fault_only bytes fault DefaultText h g = absurd (place_fault-no_parts bytes fault g.0 h g.1)
place_fault_only bytes fault (InList other) h g = absurd (place_fault-no_parts bytes fault g.0 h g.1)
place_fault_only bytes fault (ItemEmpty place) h g = absurd (place_fault-no_parts bytes fault g.0 h g.1)
place_fault_only bytes fault (Key place) h g = absurd (place_fault-no_parts bytes fault g.0 h g.1)
place_fault_only bytes fault (ItemText place) h g = absurd (place_fault-no_parts bytes fault g.0 h g.1)
place_fault_only bytes Padding other h g = absurd h
place_fault_only bytes DefaultText other h g = absurd h
place_fault_only bytes (InList fault) other h g = absurd h
place_fault_only bytes (ItemEmpty place) other h g = absurd h
place_fault_only bytes (Key place) other h g = absurd h
place_fault_only bytes (ItemText place) other h g = absurd h

-- ---- faults of items

-- the faults that an item may have
abbrev pub IsItemFault : ElementsBytesError → Type 0
IsItemFault (ItemEmpty place) = ⊤
IsItemFault (Key place) = ⊤
IsItemFault (ItemText place) = ⊤
IsItemFault fault = ⊥

-- what the tests of a key and of a text find is a fault of an item
of_tests : (place : ℕ) (high text : Bool) (fault : ElementsBytesError)
    → (if high then Some (Key place) else (if text then None else Some (ItemText place))) ≡ Some fault → IsItemFault fault
of_tests place true text fault h = let e : Key place ≡ fault = cc in subst IsItemFault e tt
of_tests place false true fault h = cc
of_tests place false false fault h = let e : ItemText place ≡ fault = cc in subst IsItemFault e tt

-- what is found in an item is a fault of an item
of_item : (place : ℕ) (item : List ℕ) (fault : ElementsBytesError) → element_fault place item ≡ Some fault → IsItemFault fault
of_item place [] fault h = let e : ItemEmpty place ≡ fault = cc in subst IsItemFault e tt
of_item place (byte ∷ text) fault h = of_tests place (nat_lt 6 (byte / 16)) (is_utf8 text) fault h

-- the first of two faults is one of them
either : (first other : Option ElementsBytesError) (fault : ElementsBytesError) → option_or first other ≡ Some fault
    → (first ≡ Some fault) ⊎ (other ≡ Some fault)
either None other fault h = inr h
either (Some f) other fault h = inl h

-- what is found in the first bad item of a list is a fault of an item
pub of_items : (place : ℕ) (items : List (List ℕ)) (fault : ElementsBytesError)
    → first_element_fault place items ≡ Some fault → IsItemFault fault
of_items place [] fault h = cc
of_items place (item ∷ items) fault h = elim (either (element_fault place item) (first_element_fault (place + 1) items) fault h) [
  | inl here ↦ of_item place item fault here
  | inr later ↦ of_items (place + 1) items fault later
]

-- ---- faults of parts

-- a fault of the items is a fault of the parts, if everything before the items is good
pub items_fault_is : (parts : ElementsParts) (rest : List ℕ) (fault : ElementsBytesError) → parts.rest ≡ Some rest
    → ¬ (HasPadding parts.first) → IsTrue (is_utf8 parts.text)
    → HasItemsFault rest fault → HasPartsFault parts fault
items_fault_is parts rest Padding e low text h = absurd (of_items 0 h.0 Padding h.2)
items_fault_is parts rest DefaultText e low text h = absurd (of_items 0 h.0 DefaultText h.2)
items_fault_is parts rest Empty e low text h = (low, text, subst (λ all. HasRestFault all Empty) (sym e) h)
items_fault_is parts rest Short e low text h = (low, text, subst (λ all. HasRestFault all Short) (sym e) h)
items_fault_is parts rest (InList fault) e low text h = (low, text, subst (λ all. HasRestFault all (InList fault)) (sym e) h)
items_fault_is parts rest (ItemEmpty place) e low text h = (low, text, subst (λ all. HasRestFault all (ItemEmpty place)) (sym e) h)
items_fault_is parts rest (Key place) e low text h = (low, text, subst (λ all. HasRestFault all (Key place)) (sym e) h)
items_fault_is parts rest (ItemText place) e low text h = (low, text, subst (λ all. HasRestFault all (ItemText place)) (sym e) h)

-- and a fault of such parts is a fault of the rest
pub rest_fault : (parts : ElementsParts) (fault : ElementsBytesError) → ¬ (HasPadding parts.first)
    → IsTrue (is_utf8 parts.text) → HasPartsFault parts fault → HasRestFault parts.rest fault
rest_fault parts Padding low text h = absurd (low h)
rest_fault parts DefaultText low text h = cc
rest_fault parts Empty low text h = h.2
rest_fault parts Short low text h = h.2
rest_fault parts (InList fault) low text h = h.2
rest_fault parts (ItemEmpty place) low text h = h.2
rest_fault parts (Key place) low text h = h.2
rest_fault parts (ItemText place) low text h = h.2

-- if there is padding, it is the only fault of the parts
pub padding_only : (parts : ElementsParts) (fault : ElementsBytesError) → HasPadding parts.first → HasPartsFault parts fault
    → Padding ≡ fault
padding_only parts Padding high h = refl
padding_only parts DefaultText high h = absurd (h.0 high)
padding_only parts Empty high h = absurd (h.0 high)
padding_only parts Short high h = absurd (h.0 high)
padding_only parts (InList fault) high h = absurd (h.0 high)
padding_only parts (ItemEmpty place) high h = absurd (h.0 high)
padding_only parts (Key place) high h = absurd (h.0 high)
padding_only parts (ItemText place) high h = absurd (h.0 high)

-- otherwise, if the text isn't UTF-8, it is the only fault
pub text_only : (parts : ElementsParts) (fault : ElementsBytesError) → ¬ (HasPadding parts.first)
    → is_utf8 parts.text ≡ false → HasPartsFault parts fault → DefaultText ≡ fault
text_only parts Padding low text h = absurd (low h)
text_only parts DefaultText low text h = refl
text_only parts Empty low text h = let t : is_utf8 parts.text ≡ true = h.1 in cc
text_only parts Short low text h = let t : is_utf8 parts.text ≡ true = h.1 in cc
text_only parts (InList fault) low text h = let t : is_utf8 parts.text ≡ true = h.1 in cc
text_only parts (ItemEmpty place) low text h = let t : is_utf8 parts.text ≡ true = h.1 in cc
text_only parts (Key place) low text h = let t : is_utf8 parts.text ≡ true = h.1 in cc
text_only parts (ItemText place) low text h = let t : is_utf8 parts.text ≡ true = h.1 in cc

-- an absent rest has no fault
no_rest_fault : (rest : Option (List ℕ)) (fault : ElementsBytesError) → rest ≡ None → HasRestFault rest fault → ⊥
no_rest_fault None fault e h = h
no_rest_fault (Some rest) fault e h = cc

-- the rest after the default never has the fault of no bytes
rest_not_empty : (rest : Option (List ℕ)) → HasRestFault rest Empty → ⊥
rest_not_empty None h = h
rest_not_empty (Some rest) h = of_items 0 h.0 Empty h.2

-- the rest after the default never has the fault of a short default
rest_not_short : (rest : Option (List ℕ)) → HasRestFault rest Short → ⊥
rest_not_short None h = h
rest_not_short (Some rest) h = of_items 0 h.0 Short h.2

-- a fault of the parts is a fault of the bytes
pub parts_fault_is : (bytes : List ℕ) (parts : ElementsParts) (fault : ElementsBytesError) → ArePartsOf parts bytes
    → HasPartsFault parts fault → HasElementsFault bytes fault
parts_fault_is bytes parts Empty are h = absurd (rest_not_empty parts.rest h.2)
parts_fault_is bytes parts Short are h = absurd (rest_not_short parts.rest h.2)
parts_fault_is bytes parts Padding are h = (parts, are, h)
parts_fault_is bytes parts DefaultText are h = (parts, are, h)
parts_fault_is bytes parts (InList fault) are h = (parts, are, h)
parts_fault_is bytes parts (ItemEmpty place) are h = (parts, are, h)
parts_fault_is bytes parts (Key place) are h = (parts, are, h)
parts_fault_is bytes parts (ItemText place) are h = (parts, are, h)

-- and a fault of the bytes is a fault of the parts
pub fault_of_parts : (bytes : List ℕ) (parts : ElementsParts) (fault : ElementsBytesError) → ArePartsOf parts bytes
    → HasElementsFault bytes fault → HasPartsFault parts fault
fault_of_parts bytes parts Empty are h = absurd (place_fault-no_parts bytes Empty parts h are)
fault_of_parts bytes parts Short are h = absurd (place_fault-no_parts bytes Short parts h are)
fault_of_parts bytes parts Padding are h =
    subst (λ (all : ElementsParts). HasPartsFault all Padding) (one_parts h.0 parts bytes h.1 are) h.2
fault_of_parts bytes parts DefaultText are h =
    subst (λ (all : ElementsParts). HasPartsFault all DefaultText) (one_parts h.0 parts bytes h.1 are) h.2
fault_of_parts bytes parts (InList fault) are h =
    subst (λ (all : ElementsParts). HasPartsFault all (InList fault)) (one_parts h.0 parts bytes h.1 are) h.2
fault_of_parts bytes parts (ItemEmpty place) are h =
    subst (λ (all : ElementsParts). HasPartsFault all (ItemEmpty place)) (one_parts h.0 parts bytes h.1 are) h.2
fault_of_parts bytes parts (Key place) are h =
    subst (λ (all : ElementsParts). HasPartsFault all (Key place)) (one_parts h.0 parts bytes h.1 are) h.2
fault_of_parts bytes parts (ItemText place) are h =
    subst (λ (all : ElementsParts). HasPartsFault all (ItemText place)) (one_parts h.0 parts bytes h.1 are) h.2

-- ---- one item more was checked

-- the first of two faults is the first one if it is present
option_or_some : (fault other : Option ElementsBytesError) → is_some fault ≡ true → option_or fault other ≡ fault
option_or_some None other h = cc
option_or_some (Some fault) other h = refl

-- if the first of two is absent, the first fault is the other
option_or_none : (fault other : Option ElementsBytesError) → is_some fault ≡ false → option_or fault other ≡ other
option_or_none None other h = refl
option_or_none (Some fault) other h = cc

-- a fault of the first remaining item is the first fault of the remaining items
pub found_here : (k : ℕ) (left : List (List ℕ)) (item : List ℕ) (behind : List (List ℕ)) (fault : Option ElementsBytesError)
    → left ≡ item ∷ behind → fault ≡ element_fault k item → is_some fault ≡ true → first_element_fault k left ≡ fault
found_here k left item behind fault first told some =
    ap (first_element_fault k) first ∙ ap (λ f. option_or f (first_element_fault (k + 1) behind)) (sym told)
    ∙ option_or_some fault (first_element_fault (k + 1) behind) some

-- if the first remaining item has no fault, the first fault is that of the items after it
pub found_behind : (k : ℕ) (left : List (List ℕ)) (item : List ℕ) (behind : List (List ℕ)) (fault : Option ElementsBytesError)
    → left ≡ item ∷ behind → fault ≡ element_fault k item → is_some fault ≡ false
    → first_element_fault k left ≡ first_element_fault (k + 1) behind
found_behind k left item behind fault first told none =
    ap (first_element_fault k) first ∙ ap (λ f. option_or f (first_element_fault (k + 1) behind)) (sym told)
    ∙ option_or_none fault (first_element_fault (k + 1) behind) none

-- the fault of the first bad item is a fault of the list
pub first_fault_is : (rest : List ℕ) (items : List (List ℕ)) (fault : ElementsBytesError) → ListBytes items rest
    → first_element_fault 0 items ≡ Some fault → HasItemsFault rest fault
first_fault_is rest items (InList fault) list h = absurd (of_items 0 items (InList fault) h)
first_fault_is rest items Empty list h = (items, list, h)
first_fault_is rest items Short list h = (items, list, h)
first_fault_is rest items Padding list h = (items, list, h)
first_fault_is rest items DefaultText list h = (items, list, h)
first_fault_is rest items (ItemEmpty place) list h = (items, list, h)
first_fault_is rest items (Key place) list h = (items, list, h)
first_fault_is rest items (ItemText place) list h = (items, list, h)

-- ---- the result for parts whose default is good

-- good items are all that the rest needs
good_rest : (parts : ElementsParts) (rest : List ℕ) → parts.rest ≡ Some rest → AreGoodItems rest → IsGoodRest parts.rest
good_rest parts rest e good = subst IsGoodRest (sym e) good

-- if the default is good, a result for the items is a result for the parts
pub parts_answer : {T : Type 0} (parts : ElementsParts) (rest : List ℕ) (answer : Result T ElementsBytesError)
    → parts.rest ≡ Some rest → ¬ (HasPadding parts.first) → IsTrue (is_utf8 parts.text)
    → MatchResult answer (λ _. AreGoodItems rest) (λ fault. HasItemsFault rest fault)
    → MatchResult answer (λ _. AreGoodParts parts) (λ fault. HasPartsFault parts fault)
parts_answer parts rest (Ok value) e low text h = (low, text, good_rest parts rest e h)
parts_answer parts rest (Err fault) e low text h = items_fault_is parts rest fault e low text h
