-- Bytes have one fault as a pattern at most, and none if they are one.
use Rattle.std.proofs.Common.{◌≡◌, ◌∙◌, ◌↔◌, ◌⊎◌, ℕ, ◌+◌, List, [], ◌∷◌, ap, map, sym, true, false, Bool, Some, None, inl, inr}
use Rattle.std.specs.Prelude.{Option, not, if◌then◌else◌}
use Rattle.packed_list.specs.ListBytes.{ListBytes, HasFault}
use Rattle.packed_list.specs.declared.error.ListError.{ListError}
use Rattle.packed_pattern.specs.PatternBlocks.{HasBlockFault, first_item_fault, has_places_before, is_part_item, item_fault, items_fault, or_block_fault}
use Rattle.packed_pattern.specs.PatternBlocks.{order_fault}
use Rattle.packed_part.specs.PartOrder.{before_all, first_misplaced}
use Rattle.packed_part.specs.Inner.PartReading.{part_in}
use Rattle.packed_pattern.specs.declared.error.BlockError.{BlockError}
use Rattle.packed_pattern.specs.declared.error.BlockError.TheVariants as errors

-- no item has a fault of lists
item_fault-list : (place : ℕ) (item : List ℕ) (items : List (List ℕ)) (fault : ListError)
    → item_fault place item items ≡ Some (errors.List fault) → ⊥
item_fault-list place item items fault h = no_list (is_part_item item) (has_places_before item items) h
  where
    no_list : (part skip : Bool) →
        (if not part then Some (errors.Part place) else if not skip then Some (errors.Place place) else None) ≡ Some (errors.List fault) → ⊥
    no_list true true e = cc
    no_list true false e = cc
    no_list false skip e = cc

-- the first fault is that of this item, or one of the others
either : (first other : Option BlockError) (fault : BlockError) → or_block_fault first other ≡ Some fault
    → (first ≡ Some fault) ⊎ (other ≡ Some fault)
either None other fault h = inr h
either (Some f) other fault h = inl h

-- so the first fault of items is none of lists
first_item_fault-list : (place : ℕ) (items : List (List ℕ)) (fault : ListError)
    → first_item_fault place items ≡ Some (errors.List fault) → ⊥
first_item_fault-list place [] fault h = cc
first_item_fault-list place (item ∷ items) fault h =
    elim (either (item_fault place item items) (first_item_fault (place + 1) items) (errors.List fault) h) [
      | inl here ↦ item_fault-list place item items fault here
      | inr later ↦ first_item_fault-list (place + 1) items fault later
    ]

-- neither is that of their order
order_fault-list : (at : Option ℕ) (fault : ListError) → order_fault at ≡ Some (errors.List fault) → ⊥
order_fault-list None fault h = cc
order_fault-list (Some place) fault h = cc

items_fault-list : (items : List (List ℕ)) (fault : ListError) → items_fault items ≡ Some (errors.List fault) → ⊥
items_fault-list items fault h =
    let order = first_misplaced 0 before_all (map part_in items) in
    elim (either (first_item_fault 0 items) (order_fault order) (errors.List fault) h) [
      | inl here ↦ first_item_fault-list 0 items fault here
      | inr later ↦ order_fault-list order fault later
    ]

-- bytes that aren't a packed list have the list's fault alone
pub list_refused : (bytes : List ℕ) (found : ListError) → ((items : List (List ℕ)) → ListBytes items bytes → ⊥)
    → ((fault : ListError) → (found ≡ fault) ↔ HasFault bytes fault)
    → (fault : BlockError) → (errors.List found ≡ fault) ↔ HasBlockFault bytes fault
list_refused bytes found no_list told (errors.List fault) = (
  (λ h. let same : found ≡ fault = cc in (told fault).0 same),
  (λ h. ap errors.List ((told fault).1 h)),
)
list_refused bytes found no_list told (errors.Part place) = ((λ h. absurd cc), (λ h. absurd (no_list h.0 h.1)))
list_refused bytes found no_list told (errors.Place place) = ((λ h. absurd cc), (λ h. absurd (no_list h.0 h.1)))
list_refused bytes found no_list told (errors.Order place) = ((λ h. absurd cc), (λ h. absurd (no_list h.0 h.1)))

-- the same items have the same first fault
one_first : (items others : List (List ℕ)) (found fault : BlockError) → others ≡ items
    → items_fault items ≡ Some found → items_fault others ≡ Some fault → found ≡ fault
one_first items others found fault same first other =
    let both : Some found ≡ Some fault = sym first ∙ ap (items_fault) (sym same) ∙ other in cc

-- items of a list with a bad one have the fault of the first bad one alone
pub item_refused : (bytes : List ℕ) (items : List (List ℕ)) (found : BlockError) → ListBytes items bytes
    → items_fault items ≡ Some found
    → ((others : List (List ℕ)) → ListBytes others bytes → others ≡ items) → ((fault : ListError) → HasFault bytes fault → ⊥)
    → (fault : BlockError) → (found ≡ fault) ↔ HasBlockFault bytes fault
item_refused bytes items found list first one no_fault (errors.List fault) = (
  (λ h. absurd (items_fault-list items fault (first ∙ ap Some h))),
  (λ h. absurd (no_fault fault h)),
)
item_refused bytes items found list first one no_fault (errors.Part place) = (
  (λ h. (items, list, first ∙ ap Some h)),
  (λ h. one_first items h.0 found (errors.Part place) (one h.0 h.1) first h.2),
)
item_refused bytes items found list first one no_fault (errors.Place place) = (
  (λ h. (items, list, first ∙ ap Some h)),
  (λ h. one_first items h.0 found (errors.Place place) (one h.0 h.1) first h.2),
)
item_refused bytes items found list first one no_fault (errors.Order place) = (
  (λ h. (items, list, first ∙ ap Some h)),
  (λ h. one_first items h.0 found (errors.Order place) (one h.0 h.1) first h.2),
)

-- items without a fault have no first one
no_first : (items others : List (List ℕ)) (fault : BlockError) → others ≡ items
    → items_fault items ≡ None → items_fault others ≡ Some fault → ⊥
no_first items others fault same none other =
    let both : items_fault items ≡ Some fault = ap (items_fault) (sym same) ∙ other in cc

-- a list without a bad item has no fault
pub not_refused : (bytes : List ℕ) (items : List (List ℕ)) → items_fault items ≡ None
    → ((others : List (List ℕ)) → ListBytes others bytes → others ≡ items) → ((fault : ListError) → HasFault bytes fault → ⊥)
    → (fault : BlockError) → HasBlockFault bytes fault → ⊥
not_refused bytes items none one no_fault (errors.List fault) h = no_fault fault h
not_refused bytes items none one no_fault (errors.Part place) h = no_first items h.0 (errors.Part place) (one h.0 h.1) none h.2
not_refused bytes items none one no_fault (errors.Place place) h = no_first items h.0 (errors.Place place) (one h.0 h.1) none h.2
not_refused bytes items none one no_fault (errors.Order place) h = no_first items h.0 (errors.Order place) (one h.0 h.1) none h.2
