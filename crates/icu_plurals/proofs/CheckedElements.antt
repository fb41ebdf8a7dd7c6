-- The bytes of packed elements determine them, and are cut into their parts.
use Rattle.std.proofs.Common.{◌≡◌, ℕ, List, [], map, Some, None, true, refl, sym, ap, ◌∙◌, subst}
use Rattle.std.specs.Prelude.{Option, Result, Ok, Err, IsOk, MatchResult, unwrap_or, option_map}
use Rattle.std.specs.Borrow.{Bor}
use Rattle.std.specs.List.{AllByRecursion, list_all}
use Rattle.packed_list.specs.ListBytes.{ListBytes}
use Rattle.packed_list.specs.Inner.ListReading.{IsList, items_in}
use Rattle.icu_plurals.specs.declared.packed.error.ElementsBytesError.{ElementsBytesError}
use Rattle.icu_plurals.specs.declared.packed.parts.Parts.{Parts}
use Rattle.icu_plurals.specs.ElementsFaults.{ArePartsOf}
use Rattle.icu_plurals.specs.Inner.ElementsReading.{AreElements, AreShown, HasPlaceFault, read_elements, is_item, read_item}
use Rattle.icu_plurals.specs.Inner.ElementsViews.{lent_parts}
use Rattle.icu_plurals.specs.PackedElements.{PackedElements, PackedItem, ElementsBytes, IsPackedItem, item_bytes}
use Rattle.icu_plurals.proofs.ElementsAgain.{PackedItems, elements_in_one, elements_parts, items_again, packed_are_items, parts_shown}
use Rattle.icu_plurals.proofs.ElementsOneFault.{place_fault-no_parts}

-- packed elements with the same bytes are equal
pub same_elements : PackedItems → (packed others : PackedElements) (bytes : List ℕ) → ElementsBytes packed bytes
    → ElementsBytes others bytes → packed ≡ others
same_elements again packed others bytes are too = sym (elements_in_one again packed bytes are) ∙ elements_in_one again others bytes too

-- the bytes of packed elements pass the check
pub are_elements : PackedItems → (packed : PackedElements) (bytes : List ℕ) → ElementsBytes packed bytes → AreElements bytes
are_elements again packed bytes are = subst (λ p. ElementsBytes p bytes) (sym (elements_in_one again packed bytes are)) are

-- ---- their parts

-- the bytes of packed elements are cut without a fault
pub are_cut : {T : Type 0} (P : T → Type 0) (bytes : List ℕ) (cut : Result T ElementsBytesError) → AreElements bytes
    → MatchResult cut P (λ fault. HasPlaceFault bytes fault) → IsOk cut
are_cut P bytes (Ok parts) are h = refl
are_cut P bytes (Err fault) are h = absurd (place_fault-no_parts bytes fault _ h (elements_parts (read_elements bytes) bytes are))

-- the parts that the bytes are cut into show the elements
pub cut_shows : (bytes : List ℕ) (cut : Result Parts ElementsBytesError) (parts : Parts) → AreElements bytes
    → MatchResult cut (λ p. ArePartsOf (lent_parts p) bytes) (λ fault. HasPlaceFault bytes fault) → cut ≡ Ok parts
    → AreShown (lent_parts parts) (read_elements bytes)
cut_shows bytes cut parts are told is =
    let of = subst (λ r. MatchResult r (λ p. ArePartsOf (lent_parts p) bytes) (λ fault. HasPlaceFault bytes fault)) is told in
    parts_shown (read_elements bytes) (lent_parts parts) bytes are of

-- the rest, borrowed if present, otherwise nothing
pub lent_rest : (rest : Option (Bor (List ℕ))) (none : Bor (List ℕ)) → none.now ≡ []
    → (unwrap_or rest none).now ≡ unwrap_or (option_map (λ (x : Bor (List ℕ)). x.now) rest) []
lent_rest None none h = h
lent_rest (Some bytes) none h = refl

-- the items in the list of the rest
pub items_of_rest : PackedItems → (items : List PackedItem) (list : List (List ℕ)) (bytes rest : List ℕ)
    → AllByRecursion IsPackedItem items → ListBytes (map item_bytes items) rest → bytes ≡ rest → ListBytes list bytes
    → (map read_item list ≡ items) × (list_all is_item list ≡ true)
items_of_rest again items list bytes rest fit is same read =
    let all : list ≡ map item_bytes items = sym (again list bytes read) ∙ ap items_in same ∙ again (map item_bytes items) rest is in
    (ap (map read_item) all ∙ items_again items fit, ap (list_all is_item) all ∙ packed_are_items items fit)

-- the rest is a list
pub rest_is_list : PackedItems → (items : List PackedItem) (bytes rest : List ℕ) → ListBytes (map item_bytes items) rest
    → bytes ≡ rest → IsList bytes
rest_is_list again items bytes rest is same =
    subst IsList (sym same) (subst (λ list. ListBytes list rest) (sym (again (map item_bytes items) rest is)) is)
