-- The items of a rule, and the fault of the first bad one.
use Rattle.std.proofs.Common.{◌≡◌, ℕ, zero, suc, ◌+◌, ◌%◌, ◌<◌, List, [], ◌∷◌, length, drop, get_or, map, refl, sym, ap, ◌∙◌, subst}
use Rattle.std.proofs.Common.{Bool, true, false, Some, None, inl, inr, ◌⊎◌}
use Rattle.std.specs.Prelude.{Option, nat_le, nat_lt, if◌then◌else◌, not, slice_get, is_some}
use Rattle.std.proofs.lemmas.Option.{slice_get-get_or}
use Rattle.std.specs.List.{AllByRecursion, list_all}
use Rattle.std.specs.Cmp.{first_so, second_so}
use Rattle.std.proofs.lemmas.List.{drop_more}
use Rattle.std.proofs.lemmas.Bool.{le-ltb, le-leb, leb-true, ltb-false}
use Rattle.packed_list.specs.declared.error.ListError.{ListError}
use Rattle.packed_list.specs.Inner.ListReading.{AreBytes, items_in, IsList}
use Rattle.packed_list.specs.ListBytes.{ListBytes}
use Rattle.plural_runtime.specs.PackedRelations.{PackedRelation, FitsBytes, relation_bytes, RuleBytes, is_item_length, is_relation}
use Rattle.plural_runtime.specs.PackedRelations.{relation_fault, or_else, first_relation_fault}
use Rattle.plural_runtime.specs.Inner.RuleReading.{relation_in, relations_in, AreRuleBytes}
use Rattle.plural_runtime.specs.declared.error.RuleBytesError.{RuleBytesError}
use Rattle.plural_runtime.specs.declared.error.RuleBytesError.TheVariants as errors
use Rattle.plural_runtime.proofs.bytes.ItemBytes.{packed_is_relation, relation-fits, relation_again, relation_spelled}

-- the items that relations are packed to hold these relations
pub relations_again : (relations : List PackedRelation) → AllByRecursion FitsBytes relations
    → map relation_in (map relation_bytes relations) ≡ relations
relations_again [] h = refl
relations_again (relation ∷ relations) h = rw (relation_again relation h.0, relations_again relations h.1) refl

-- items that pass the test are packed from the relations that they hold
pub relations_spelled : (items : List (List ℕ)) → AllByRecursion AreBytes items → list_all is_relation items ≡ true
    → map relation_bytes (map relation_in items) ≡ items
relations_spelled [] is h = refl
relations_spelled (item ∷ items) is h =
    rw (
      relation_spelled item is.0 (first_so (is_relation item) (list_all is_relation items) h),
      relations_spelled items is.1 (second_so (is_relation item) (list_all is_relation items) h),
    ) refl

-- the relations that items hold fit their bytes
pub relations-fit : (items : List (List ℕ)) → AllByRecursion AreBytes items → AllByRecursion FitsBytes (map relation_in items)
relations-fit [] is = tt
relations-fit (item ∷ items) is = (relation-fits item is.0, relations-fit items is.1)

-- the items that relations are packed to pass the test
pub packed_are_relations : (relations : List PackedRelation) → list_all is_relation (map relation_bytes relations) ≡ true
packed_are_relations [] = refl
packed_are_relations (relation ∷ relations) = rw (packed_is_relation relation, packed_are_relations relations) refl

-- the law of packed lists that is used below
abbrev pub PackedItems : Type 0
PackedItems = (items : List (List ℕ)) (bytes : List ℕ) → ListBytes items bytes → items_in bytes ≡ items

-- bytes are a rule of at most one list of relations
pub relations_in_one : PackedItems → (relations : List PackedRelation) (bytes : List ℕ) → RuleBytes relations bytes
    → relations_in bytes ≡ relations
unfolding relations_in
relations_in_one law relations bytes h = ap (map relation_in) (law (map relation_bytes relations) bytes h.packed)
    ∙ relations_again relations h.fit

-- bytes of a packed list whose items pass are a rule
pub is_rule : (bytes : List ℕ) → IsList bytes → AllByRecursion AreBytes (items_in bytes)
    → list_all is_relation (items_in bytes) ≡ true → AreRuleBytes bytes
unfolding relations_in
is_rule bytes list are pass = record {
  fit = relations-fit (items_in bytes) are;
  packed = subst (λ items. ListBytes items bytes) (sym (relations_spelled (items_in bytes) are pass)) list;
}

-- an item that passes the test has no fault
pub relation_fault-none : (place : ℕ) (item : List ℕ) → is_relation item ≡ true → relation_fault place item ≡ None
relation_fault-none place item h =
    let p = first_so (is_item_length (length item)) (nat_le (get_or item 0 0 % 64) 7) h in
    let q : nat_lt 7 (get_or item 0 0 % 64) ≡ false =
    le-ltb 7 _ (leb-true _ 7 (second_so (is_item_length (length item)) (nat_le (get_or item 0 0 % 64) 7) h)) in
    rw (p, q) refl

-- items that all pass have none
pub first_relation_fault-none : (place : ℕ) (items : List (List ℕ)) → list_all is_relation items ≡ true
    → first_relation_fault place items ≡ None
first_relation_fault-none place [] h = refl
first_relation_fault-none place (item ∷ items) h =
    ap (λ f. or_else f (first_relation_fault (place + 1) items))
    (relation_fault-none place item (first_so (is_relation item) (list_all is_relation items) h))
    ∙ first_relation_fault-none (place + 1) items (second_so (is_relation item) (list_all is_relation items) h)

-- without a fault both tests have passed
pub two_tests : (long low : Bool) (fault other : RuleBytesError)
    → (if not long then Some fault else (if low then Some other else None)) ≡ None → (long ≡ true) × (low ≡ false)
two_tests true true fault other h = (refl, cc)
two_tests true false fault other h = (refl, refl)
two_tests false low fault other h = (cc, cc)

-- without a first fault neither this item nor a later one has one
pub neither : (first other : Option RuleBytesError) → or_else first other ≡ None → (first ≡ None) × (other ≡ None)
neither None other h = (refl, h)
neither (Some fault) other h = (h, cc)

-- an item without a fault passes the test
pub item_passes : (place : ℕ) (item : List ℕ) → relation_fault place item ≡ None → is_relation item ≡ true
item_passes place item h =
    let t = two_tests (is_item_length (length item)) (nat_lt 7 (get_or item 0 0 % 64)) (errors.ItemLength place)
    (errors.Operand place) h in
    let low : nat_le (get_or item 0 0 % 64) 7 ≡ true = le-leb _ 7 (ltb-false 7 _ t.1) in
    rw (t.0, low) refl

-- items without a fault all pass
pub items_pass : (place : ℕ) (items : List (List ℕ)) → first_relation_fault place items ≡ None → list_all is_relation items ≡ true
items_pass place [] h = refl
items_pass place (item ∷ items) h =
    let n = neither (relation_fault place item) (first_relation_fault (place + 1) items) h in
    rw (item_passes place item n.0, items_pass (place + 1) items n.1) refl

-- what a rule is packed to has no bad item
pub no_fault : (place : ℕ) (relations : List PackedRelation) → first_relation_fault place (map relation_bytes relations) ≡ None
no_fault place relations = first_relation_fault-none place (map relation_bytes relations) (packed_are_relations relations)

-- one item more was checked
pub first_fault_more : (items : List (List ℕ)) (k : ℕ) → k < length items
    → first_relation_fault k (drop k items)
    ≡ or_else (relation_fault k (get_or items k [])) (first_relation_fault (k + 1) (drop (k + 1) items))
first_fault_more items k h = ap (first_relation_fault k) (drop_more items k [] h)

pub first_fault_step : (items : List (List ℕ)) (k : ℕ) (item : List ℕ) (fault : Option RuleBytesError) → k < length items
    → Some item ≡ slice_get items k → fault ≡ relation_fault k item
    → first_relation_fault k (drop k items) ≡ or_else fault (first_relation_fault (k + 1) (drop (k + 1) items))
first_fault_step items k item fault h e f =
    let g = slice_get-get_or items k [] h in
    let i : get_or items k [] ≡ item = cc in
    first_fault_more items k h ∙ ap (λ p. or_else (relation_fault k p) (first_relation_fault (k + 1) (drop (k + 1) items))) i
    ∙ ap (λ p. or_else p (first_relation_fault (k + 1) (drop (k + 1) items))) (sym f)

-- a fault that was found is the first one
pub or_else_some : (fault other : Option RuleBytesError) → is_some fault ≡ true → or_else fault other ≡ fault
or_else_some None other h = cc
or_else_some (Some fault) other h = refl

-- if none was found, the others decide
pub or_else_none : (fault other : Option RuleBytesError) → is_some fault ≡ false → or_else fault other ≡ other
or_else_none None other h = refl
or_else_none (Some fault) other h = cc

-- no item has a fault of lists
pub relation_fault-list : (place : ℕ) (item : List ℕ) (fault : ListError) → relation_fault place item ≡ Some (errors.List fault) → ⊥
relation_fault-list place item fault h = no_list (is_item_length (length item)) (nat_lt 7 (get_or item 0 0 % 64)) h
  where
    no_list : (long low : Bool) →
        (if not long then Some (errors.ItemLength place) else (if low then Some (errors.Operand place) else None))
        ≡ Some (errors.List fault) → ⊥
    no_list true true e = cc
    no_list true false e = cc
    no_list false low e = cc

-- the first fault is that of this item, or one of the others
pub either : (first other : Option RuleBytesError) (fault : RuleBytesError) → or_else first other ≡ Some fault
    → (first ≡ Some fault) ⊎ (other ≡ Some fault)
either None other fault h = inr h
either (Some f) other fault h = inl h

-- so the first fault of items is none of lists
pub first_relation_fault-list : (place : ℕ) (items : List (List ℕ)) (fault : ListError)
    → first_relation_fault place items ≡ Some (errors.List fault) → ⊥
first_relation_fault-list place [] fault h = cc
first_relation_fault-list place (item ∷ items) fault h =
    elim (either (relation_fault place item) (first_relation_fault (place + 1) items) (errors.List fault) h) [
      | inl here ↦ relation_fault-list place item fault here
      | inr later ↦ first_relation_fault-list (place + 1) items fault later
    ]

-- if all items pass, the one at a place does
pub item_at_passes : (items : List (List ℕ)) (k : ℕ) (item : List ℕ) → list_all is_relation items ≡ true
    → Some item ≡ slice_get items k → is_relation item ≡ true
item_at_passes [] k item h e = cc
item_at_passes (x ∷ items) zero item h e =
    let f : x ≡ item = cc in
    subst (λ i. is_relation i ≡ true) f (first_so (is_relation x) (list_all is_relation items) h)
item_at_passes (x ∷ items) (suc k) item h e = item_at_passes items k item (second_so (is_relation x) (list_all is_relation items) h) e

-- the relation at a place is the one of the item there
pub slice_get-relations : (items : List (List ℕ)) (k : ℕ) (item : List ℕ) → Some item ≡ slice_get items k
    → Some (relation_in item) ≡ slice_get (map relation_in items) k
slice_get-relations [] k item e = cc
slice_get-relations (x ∷ items) zero item e = let f : x ≡ item = cc in ap (λ i. Some (relation_in i)) (sym f)
slice_get-relations (x ∷ items) (suc k) item e = slice_get-relations items k item e

-- past the last item there is no relation
pub slice_get-none : (items : List (List ℕ)) (k : ℕ) → None ≡ slice_get items k → None ≡ slice_get (map relation_in items) k
slice_get-none [] k e = refl
slice_get-none (x ∷ items) zero e = cc
slice_get-none (x ∷ items) (suc k) e = slice_get-none items k e
