-- Bytes have one fault as a rule at most, and none if they are a rule.
use Rattle.std.proofs.Common.{◌≡◌, ◌↔◌, ℕ, List, ap, sym, ◌∙◌, Some, None}
use Rattle.packed_list.specs.ListBytes.{ListBytes, HasFault}
use Rattle.packed_list.specs.declared.error.ListError.{ListError}
use Rattle.plural_runtime.specs.PackedRelations.{HasRuleFault, first_relation_fault}
use Rattle.plural_runtime.specs.declared.error.RuleBytesError.{RuleBytesError}
use Rattle.plural_runtime.specs.declared.error.RuleBytesError.TheVariants as errors
use Rattle.plural_runtime.proofs.bytes.RuleItems.{first_relation_fault-list}

-- bytes that aren't a packed list have the list's fault alone
pub list_refused : (bytes : List ℕ) (found : ListError) → ((items : List (List ℕ)) → ListBytes items bytes → ⊥)
    → ((fault : ListError) → (found ≡ fault) ↔ HasFault bytes fault)
    → (fault : RuleBytesError) → (errors.List found ≡ fault) ↔ HasRuleFault bytes fault
list_refused bytes found no_list told (errors.List fault) = (
  (λ h. let same : found ≡ fault = cc in (told fault).0 same),
  (λ h. ap errors.List ((told fault).1 h)),
)
list_refused bytes found no_list told (errors.ItemLength place) = ((λ h. absurd cc), (λ h. absurd (no_list h.0 h.1)))
list_refused bytes found no_list told (errors.Operand place) = ((λ h. absurd cc), (λ h. absurd (no_list h.0 h.1)))

-- the same items have the same first fault
one_first : (items others : List (List ℕ)) (found fault : RuleBytesError) → others ≡ items
    → first_relation_fault 0 items ≡ Some found → first_relation_fault 0 others ≡ Some fault → found ≡ fault
one_first items others found fault same first other =
    let both : Some found ≡ Some fault = sym first ∙ ap (first_relation_fault 0) (sym same) ∙ other in cc

-- items of a list with a bad one have the fault of the first bad one alone
pub item_refused : (bytes : List ℕ) (items : List (List ℕ)) (found : RuleBytesError) → ListBytes items bytes
    → first_relation_fault 0 items ≡ Some found
    → ((others : List (List ℕ)) → ListBytes others bytes → others ≡ items) → ((fault : ListError) → HasFault bytes fault → ⊥)
    → (fault : RuleBytesError) → (found ≡ fault) ↔ HasRuleFault bytes fault
item_refused bytes items found list first one no_fault (errors.List fault) = (
  (λ h. absurd (first_relation_fault-list 0 items fault (first ∙ ap Some h))),
  (λ h. absurd (no_fault fault h)),
)
item_refused bytes items found list first one no_fault (errors.ItemLength place) = (
  (λ h. (items, list, first ∙ ap Some h)),
  (λ h. one_first items h.0 found (errors.ItemLength place) (one h.0 h.1) first h.2),
)
item_refused bytes items found list first one no_fault (errors.Operand place) = (
  (λ h. (items, list, first ∙ ap Some h)),
  (λ h. one_first items h.0 found (errors.Operand place) (one h.0 h.1) first h.2),
)

-- items without a fault have no first one
no_first : (items others : List (List ℕ)) (fault : RuleBytesError) → others ≡ items
    → first_relation_fault 0 items ≡ None → first_relation_fault 0 others ≡ Some fault → ⊥
no_first items others fault same none other =
    let both : first_relation_fault 0 items ≡ Some fault = ap (first_relation_fault 0) (sym same) ∙ other in cc

-- a list without a bad item has no fault
pub not_refused : (bytes : List ℕ) (items : List (List ℕ)) → first_relation_fault 0 items ≡ None
    → ((others : List (List ℕ)) → ListBytes others bytes → others ≡ items) → ((fault : ListError) → HasFault bytes fault → ⊥)
    → (fault : RuleBytesError) → HasRuleFault bytes fault → ⊥
not_refused bytes items none one no_fault (errors.List fault) h = no_fault fault h
not_refused bytes items none one no_fault (errors.ItemLength place) h =
    no_first items h.0 (errors.ItemLength place) (one h.0 h.1) none h.2
not_refused bytes items none one no_fault (errors.Operand place) h = no_first items h.0 (errors.Operand place) (one h.0 h.1) none h.2
