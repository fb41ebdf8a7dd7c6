-- The bytes that are written encode the packed elements.
use Rattle.std.proofs.Common.{◌≡◌, ◌≢◌, ◌↔◌, ℕ, ◌<◌, ◌≤◌, List, [], ◌∷◌, length, Bool, true, false, cond, Option, Some, None, Result, Ok, Err}
use Rattle.std.proofs.Common.{refl, sym, ap, subst, ◌∙◌, arith, append-nil}
use Rattle.std.specs.Prelude.{IsTrue, map, nat_lt, unwrap_or}
use Rattle.std.specs.List.{AllByRecursion}
use Rattle.std.proofs.lemmas.Bool.{lt-ltb, le-ltb, ltb-true, ltb-false}
use Rattle.packed_list.specs.ListBytes.{CanPack, has_high_start}
use Rattle.plural_base.specs.declared.elements_pack_error.ElementsPackError.{ElementsPackError}
use Rattle.plural_base.specs.declared.elements_pack_error.ElementsPackError.TheVariants.{DefaultLimit, StartLimit, Memory}
use Rattle.icu_plurals.specs.declared.encode.items.Item.{Item}
use Rattle.icu_plurals.specs.Elements.{Elements, element_at}
use Rattle.icu_plurals.specs.PackedElements.{AnswersAs, fault_beside, pack_fault, PackedValue, PackedItem, IsPackedValue}
use Rattle.icu_plurals.specs.PackedElements.{IsPackedItem, CanPackItems, ElementsBytes, bytes_with, elements_of, item_bytes}
use Rattle.icu_plurals.specs.PackedElements.{none_if_empty, packed_items, packed_of}
use Rattle.icu_plurals.specs.Inner.ElementsReading.{bytes_with_items}
use Rattle.icu_plurals.specs.Inner.ElementsViews.{lent_bytes}
use Rattle.icu_plurals.proofs.ElementsAgain.{PackedItems}
use Rattle.icu_plurals.proofs.CheckedElements.{same_elements}
use Rattle.icu_plurals.proofs.PackedAgain.{answers_again}

-- there are as many borrowed items as packed items
pub as_many : (lent : List Item) (items : List PackedItem) → lent_bytes lent ≡ map item_bytes items → length lent ≡ length items
as_many [] [] h = refl
as_many [] (item ∷ items) h = cc
as_many (x ∷ lent) [] h = cc
as_many (x ∷ lent) (item ∷ items) h = let rest : lent_bytes lent ≡ map item_bytes items = cc in omega (arith, as_many lent items rest)

-- ---- the first of two faults, by their tests

-- the first fault is found exactly if its test is true
first_fault : (long high : Bool) → (cond long (Some DefaultLimit) (cond high (Some StartLimit) None) ≡ Some DefaultLimit) ↔ (long ≡ true)
first_fault true high = ((λ h. refl), (λ h. refl))
first_fault false true = ((λ h. absurd cc), (λ h. cc))
first_fault false false = ((λ h. absurd cc), (λ h. cc))

-- the second fault is found exactly if its test is true and the first test is false
second_fault : (long high : Bool)
    → (cond long (Some DefaultLimit) (cond high (Some StartLimit) None) ≡ Some StartLimit) ↔ ((long ≡ false) × (high ≡ true))
second_fault true high = ((λ h. absurd cc), (λ h. absurd (let e : true ≡ false = h.0 in cc)))
second_fault false true = ((λ h. (refl, refl)), (λ h. refl))
second_fault false false = ((λ h. absurd cc), (λ h. absurd (let e : false ≡ true = h.1 in cc)))

-- a default is too long only if there are items beside it
long_beside : (default : PackedValue) (items : List PackedItem)
    → (fault_beside default (none_if_empty items) ≡ Some DefaultLimit) ↔ ((0 < length items) × (255 < length default.text))
long_beside default [] = ((λ h. absurd cc), (λ h. absurd (omega (arith, h.0))))
long_beside default (item ∷ items) =
    let told = first_fault (nat_lt 255 (length default.text)) (has_high_start (map item_bytes (item ∷ items))) in
    ((λ h. (omega arith, ltb-true 255 (length default.text) (told.0 h))), (λ h. told.1 (lt-ltb 255 (length default.text) h.1)))

-- a start is too high only if the default isn't too long
high_beside : (default : PackedValue) (items : List PackedItem)
    → (fault_beside default (none_if_empty items) ≡ Some StartLimit) ↔
    ((length default.text ≤ 255) × IsTrue (has_high_start (map item_bytes items)))
high_beside default [] = ((λ h. absurd cc), (λ h. absurd (let e : false ≡ true = h.1 in cc)))
high_beside default (item ∷ items) =
    let told = second_fault (nat_lt 255 (length default.text)) (has_high_start (map item_bytes (item ∷ items))) in (
      (λ h. let both = told.0 h in (ltb-false 255 (length default.text) both.0, both.1)),
      (λ h. told.1 (le-ltb 255 (length default.text) h.0, h.1)),
    )

-- ---- the bytes

-- a short default and a list that can be packed can be packed together
can_pack_items : (default : PackedValue) (items : List PackedItem) → (0 < length items → length default.text ≤ 255)
    → CanPack (map item_bytes items) → CanPackItems default (none_if_empty items)
can_pack_items default [] short can = tt
can_pack_items default (item ∷ items) short can = record { length = short (omega arith); list = can }

-- without items only the default is written; with items, also its length and the list
spelled_with : (default : PackedValue) (items : List PackedItem)
    → bytes_with_items default (map item_bytes items) ≡ bytes_with default (none_if_empty items)
spelled_with default [] = ap (λ text. default.metadata ∷ text) (append-nil default.text)
spelled_with default (item ∷ items) = refl

-- each item is valid, also if the list is left out because it is empty
all_items : (items : List PackedItem) → AllByRecursion IsPackedItem items → AllByRecursion IsPackedItem (unwrap_or (none_if_empty items) [])
all_items [] are = tt
all_items (item ∷ items) are = are

-- the bytes that are written encode the packed elements
pub encoded : (e : Elements PackedValue) (lent : List Item) (bytes : List ℕ)
    → lent_bytes lent ≡ map item_bytes (packed_items e) → AllByRecursion IsPackedItem (packed_items e)
    → IsPackedValue e.other → (0 < length lent → length e.other.text ≤ 255) → CanPack (lent_bytes lent)
    → bytes ≡ bytes_with_items e.other (lent_bytes lent)
    → ElementsBytes (packed_of e) bytes
encoded e lent bytes same are valid short can spelled =
    let count = as_many lent (packed_items e) same in record {
      default = valid;
      items = all_items (packed_items e) are;
      can_pack = can_pack_items e.other (packed_items e) (λ some. short (omega arith)) (subst CanPack same can);
      spelled = spelled ∙ ap (bytes_with_items e.other) same ∙ spelled_with e.other (packed_items e);
    }

-- bytes of the packed elements, and of no others, give every number the same value as the elements
pub answers_as : (again : PackedItems) (e : Elements PackedValue) (bytes : List ℕ) → ElementsBytes (packed_of e) bytes → AnswersAs e bytes
answers_as again e bytes h = (
  (packed_of e, h),
  λ packed are op rules.
      let same : packed ≡ packed_of e = same_elements again packed (packed_of e) bytes are h in
      ap (λ p. element_at (elements_of p) op rules) same ∙ answers_again e op rules,
)

-- the default and the borrowed items are refused exactly if the elements have that fault
pub default_refused : (e : Elements PackedValue) (default : PackedValue) (lent : List Item) → default ≡ e.other
    → lent_bytes lent ≡ map item_bytes (packed_items e)
    → ((0 < length lent) × (255 < length default.text)) ↔ (pack_fault (packed_of e) ≡ Some DefaultLimit)
default_refused e default lent other same =
    let count = as_many lent (packed_items e) same in
    let text = ap (λ (value : PackedValue). length value.text) other in
    let beside = long_beside e.other (packed_items e) in (
      (λ h. beside.1 (omega (arith, h.0), omega (arith, h.1))),
      (λ h. let told = beside.0 h in (omega (arith, told.0), omega (arith, told.1))),
    )

-- a start is too high exactly if the elements have that fault
pub start_refused : (e : Elements PackedValue) (default : PackedValue) (lent : List Item) → default ≡ e.other
    → lent_bytes lent ≡ map item_bytes (packed_items e)
    → ((length default.text ≤ 255) × IsTrue (has_high_start (lent_bytes lent))) ↔ (pack_fault (packed_of e) ≡ Some StartLimit)
start_refused e default lent other same =
    let beside = high_beside e.other (packed_items e) in
    let text = ap (λ (value : PackedValue). length value.text) other in
    let high = ap has_high_start same in
    ((λ h. beside.1 (omega (arith, h.0), sym high ∙ h.1)), (λ h. let told = beside.0 h in (omega (arith, told.0), high ∙ told.1)))

-- a default and items that can be packed together have no fault
fault_free : (default : PackedValue) (items : Option (List PackedItem)) → CanPackItems default items → fault_beside default items ≡ None
fault_free default None can = refl
fault_free default (Some items) can = rw (le-ltb 255 (length default.text) can.length, can.list.starts) refl

-- if neither test is true, there is none
no_third_fault : (long high : Bool) → cond long (Some DefaultLimit) (cond high (Some StartLimit) None) ≢ Some DefaultLimit
    → cond long (Some DefaultLimit) (cond high (Some StartLimit) None) ≢ Some StartLimit
    → cond long (Some DefaultLimit) (cond high (Some StartLimit) None) ≡ None
no_third_fault true high default start = absurd (default refl)
no_third_fault false true default start = absurd (start refl)
no_third_fault false false default start = refl

one_of_two : (default : PackedValue) (items : Option (List PackedItem)) → fault_beside default items ≢ Some DefaultLimit
    → fault_beside default items ≢ Some StartLimit → fault_beside default items ≡ None
one_of_two default None long high = refl
one_of_two default (Some items) long high =
    no_third_fault (nat_lt 255 (length default.text)) (has_high_start (map item_bytes items)) long high

-- elements with neither fault have none
pub no_other_fault : (e : Elements PackedValue) → pack_fault (packed_of e) ≢ Some DefaultLimit
    → pack_fault (packed_of e) ≢ Some StartLimit → pack_fault (packed_of e) ≡ None
no_other_fault e long high = one_of_two e.other (none_if_empty (packed_items e)) long high

-- elements that have bytes have no fault
pub no_fault : (e : Elements PackedValue) (bytes : List ℕ) → ElementsBytes (packed_of e) bytes → pack_fault (packed_of e) ≡ None
no_fault e bytes h = fault_free e.other (none_if_empty (packed_items e)) h.can_pack

-- ---- the answer after a list is made, or refused

-- where the list is made, an answer that isn't a fault shows that there is none
pub not_refused : {T S E P : Type 0} {made : Result T E} {list : T} {fault : E} {answer : Result S E}
    → made ≡ Ok list → (made ≡ Err fault) ↔ P → answer ≢ Err fault → (answer ≡ Err fault) ↔ P
not_refused was told other = ((λ h. absurd (other h)), (λ h. absurd (let is = told.1 h in cc)))

-- where the list is refused, its error is the answer
pub refused : {T S E P : Type 0} {made : Result T E} {error fault : E} {answer : Result S E}
    → made ≡ Err error → answer ≡ Err error → (made ≡ Err fault) ↔ P → (answer ≡ Err fault) ↔ P
refused was same told = ((λ h. told.0 cc), (λ h. let is = told.1 h in cc))

-- bytes are no fault, and want of memory is another one
pub bytes_are_no_fault : {T E : Type 0} (bytes : T) (fault : E) → Ok bytes ≢ Err fault
bytes_are_no_fault bytes fault h = absurd cc

pub memory_is_no_default_limit : {T : Type 0} (answer : Result T ElementsPackError) → answer ≡ Err Memory → answer ≢ Err DefaultLimit
memory_is_no_default_limit answer is h = absurd cc

pub memory_is_no_start_limit : {T : Type 0} (answer : Result T ElementsPackError) → answer ≡ Err Memory → answer ≢ Err StartLimit
memory_is_no_start_limit answer is h = absurd cc
