-- What a text says is packed without a fault of its values, and its tree is what a text says.
use Rattle.std.proofs.Common.{◌≡◌, ◌≢◌, ℕ, List, [], ◌∷◌, ◌++◌, map, refl, sym, ap, ◌∙◌, subst, append-nil, Bool, true, false}
use Rattle.std.proofs.Common.{Option, Some, None}
use Rattle.std.specs.Prelude.{◌||◌, ◌==◌, flat_map, IfSome}
use Rattle.std.specs.List.{list_any, AllByRecursion}
use Rattle.std.proofs.lemmas.Bool.{le-ltb}
use Rattle.std.proofs.lemmas.List.Elements.{All-from_recursion, recursion_from_All}
use Rattle.plural_reference.specs.declared.ast.AndCondition.{AndCondition}
use Rattle.plural_reference.specs.declared.ast.Condition.{Condition}
use Rattle.plural_reference.specs.declared.ast.RangeListItem.{RangeListItem}
use Rattle.plural_reference.specs.declared.ast.RangeListItem.TheVariants as items
use Rattle.plural_reference.specs.declared.ast.Relation.{Relation}
use Rattle.plural_reference.specs.declared.ast.Value.{Value}
use Rattle.plural_reference.specs.PrintingLaws.{FitsToken, IsSpellableItem, IsSpellableRelation, IsSpellableGroup, IsSpellable}
use Rattle.plural_reference.specs.Truth.{ends_of, modulus_of, meaning_of, groups_of}
use Rattle.plural_runtime.specs.declared.kinds.AndOr.{AndOr}
use Rattle.plural_runtime.specs.declared.kinds.AndOr.TheVariants.{And, Or}
use Rattle.plural_runtime.specs.PackedRelations.{PackedRelation, groups, at_front}
use Rattle.plural_runtime.specs.PackedTree.{packed, packed_groups, packed_and_condition, packed_relation, unpacked, unpacked_groups}
use Rattle.plural_runtime.specs.PackedTree.{unpacked_meaning, unpacked_modulus, unpacked_range, unpacked_relation}
use Rattle.plural_runtime.specs.PackedTree.{condition_of_groups, has_large_value, is_large, is_large_item, is_large_modulus}
use Rattle.plural_runtime.specs.PackedTree.{is_large_relation}
use Rattle.plural_runtime.proofs.walks.Walks.{first_group}

-- ---- no value is large

-- if both tests fail, neither passes
both_false : (a b : Bool) → a ≡ false → b ≡ false → (a || b) ≡ false
both_false a b e f = rw (e, f) refl

-- a value that fits a token is not large
fitting_value : (value : Value) → FitsToken value → is_large value ≡ false
fitting_value value h = le-ltb 4294967295 value.0 h

-- nor is an item of such values
fitting_item : (item : RangeListItem) → IsSpellableItem item → is_large_item item ≡ false
fitting_item (items.Range start end) h = both_false (is_large start) (is_large end) (fitting_value start h.0) (fitting_value end h.1)
fitting_item (items.Value value) h = fitting_value value h

-- nor is one in a list of such items
fitting_items : (list : List RangeListItem) → AllByRecursion IsSpellableItem list → list_any is_large_item list ≡ false
fitting_items [] h = refl
fitting_items (item ∷ list) h =
    both_false (is_large_item item) (list_any is_large_item list) (fitting_item item h.0) (fitting_items list h.1)

-- nor is a modulus that fits a token
fitting_modulus : (modulus : Option Value) → IfSome modulus FitsToken → is_large_modulus modulus ≡ false
fitting_modulus None h = refl
fitting_modulus (Some modulus) h = fitting_value modulus h

-- so a relation that a text says has no large value
fitting_relation : (relation : Relation) → IsSpellableRelation relation → is_large_relation relation ≡ false
fitting_relation relation h =
    both_false (is_large_modulus relation.expression.modulus) (list_any is_large_item relation.range_list.0)
    (fitting_modulus relation.expression.modulus h.0)
    (fitting_items relation.range_list.0 (recursion_from_All IsSpellableItem relation.range_list.0 h.2))

-- nor has a list of such relations
fitting_group : (relations : List Relation) → AllByRecursion IsSpellableRelation relations
    → list_any is_large_relation relations ≡ false
fitting_group [] h = refl
fitting_group (relation ∷ relations) h =
    both_false (is_large_relation relation) (list_any is_large_relation relations) (fitting_relation relation h.0)
    (fitting_group relations h.1)

-- nor have and-conditions of such relations
fitting_groups : (conditions : List AndCondition) → AllByRecursion IsSpellableGroup conditions
    → list_any (λ (group : AndCondition). list_any is_large_relation group.0) conditions ≡ false
fitting_groups [] h = refl
fitting_groups (group ∷ conditions) h =
    both_false (list_any is_large_relation group.0) (list_any (λ (g : AndCondition). list_any is_large_relation g.0) conditions)
    (fitting_group group.0 (recursion_from_All IsSpellableRelation group.0 h.0.1)) (fitting_groups conditions h.1)

-- no value of what a text says is large
pub spellable_is_small : (condition : Condition) → IsSpellable condition → has_large_value condition ≡ false
unfolding has_large_value
spellable_is_small condition h = fitting_groups condition.0 (recursion_from_All IsSpellableGroup condition.0 h)

-- ---- the tree comes back

-- a relation with equal ends as values, and without a modulus 0
abbrev again : Relation → Relation
again relation = unpacked_meaning (meaning_of relation)

-- an and-condition has a relation
abbrev NotEmpty : List Relation → Type 0
NotEmpty group = group ≢ []

-- relations at the front of the first group
abbrev put_front : List PackedRelation → List (List PackedRelation) → List (List PackedRelation)
put_front front [] = front ∷ []
put_front front (group ∷ gs) = (front ++ group) ∷ gs

-- one relation more at the front
front_more : (relation : PackedRelation) (front : List PackedRelation) (gs : List (List PackedRelation))
    → at_front relation (put_front front gs) ≡ put_front (relation ∷ front) gs
front_more relation front [] = refl
front_more relation front (group ∷ gs) = refl

-- nothing at the front changes no group
no_front : (relations : List PackedRelation) → groups relations ≡ put_front [] (groups relations)
no_front relations = let f = first_group relations in f.is ∙ sym (ap (put_front []) f.is)

-- relations marked And stay in the group that they begin
groups-ands : (relations : List Relation) (more : List PackedRelation)
    → groups (map (packed_relation And) relations ++ more) ≡ put_front (map (packed_relation And) relations) (groups more)
groups-ands [] more = no_front more
groups-ands (relation ∷ relations) more =
    ap (at_front (packed_relation And relation)) (groups-ands relations more)
    ∙ front_more (packed_relation And relation) (map (packed_relation And) relations) (groups more)

-- each and-condition whose first relation is marked Or is a group, after an empty first group
groups-ors : (gs : List (List Relation)) → AllByRecursion NotEmpty gs
    → groups (flat_map (packed_and_condition Or) gs) ≡ [] ∷ map (packed_and_condition Or) gs
groups-ors [] h = refl
groups-ors ([] ∷ gs) h = absurd (h.0 refl)
groups-ors ((relation ∷ group) ∷ gs) h =
    let rest = flat_map (packed_and_condition Or) gs in
    let front = map (packed_relation And) group in
    ap (λ g. [] ∷ at_front (packed_relation Or relation) g) (groups-ands group rest ∙ ap (put_front front) (groups-ors gs h.1))
    ∙ ap (λ (g : List PackedRelation). [] ∷ (packed_relation Or relation ∷ g) ∷ map (packed_and_condition Or) gs) (append-nil front)

-- the groups of a tree's relations are its and-conditions
groups-packed : (group : List Relation) (gs : List (List Relation)) → AllByRecursion NotEmpty (group ∷ gs)
    → groups (packed_groups (group ∷ gs)) ≡ packed_and_condition And group ∷ map (packed_and_condition Or) gs
groups-packed [] gs h = absurd (h.0 refl)
groups-packed (relation ∷ group) gs h =
    let rest = flat_map (packed_and_condition Or) gs in
    let front = map (packed_relation And) group in
    ap (at_front (packed_relation And relation)) (groups-ands group rest ∙ ap (put_front front) (groups-ors gs h.1))
    ∙ ap (λ (g : List PackedRelation). (packed_relation And relation ∷ g) ∷ map (packed_and_condition Or) gs) (append-nil front)

-- the tree of relations marked And is that of the relations
unpacked-marked : (relations : List Relation) → map unpacked_relation (map (packed_relation And) relations) ≡ map again relations
unpacked-marked [] = refl
unpacked-marked (relation ∷ relations) = ap (λ rs. again relation ∷ rs) (unpacked-marked relations)

-- so is that of an and-condition with a mark
unpacked-group : (mark : AndOr) (group : List Relation) → map unpacked_relation (packed_and_condition mark group) ≡ map again group
unpacked-group mark [] = refl
unpacked-group mark (relation ∷ group) = ap (λ rs. again relation ∷ rs) (unpacked-marked group)

-- so are those of the and-conditions after the first one
unpacked-ors : (gs : List (List Relation)) → map (map unpacked_relation) (map (packed_and_condition Or) gs) ≡ map (map again) gs
unpacked-ors [] = refl
unpacked-ors (group ∷ gs) = rw (unpacked-group Or group, unpacked-ors gs) refl

unpacked_groups-some : (relation : PackedRelation) (relations : List PackedRelation)
    → unpacked_groups (relation ∷ relations) ≡ map (map unpacked_relation) (groups (relation ∷ relations))
unpacked_groups-some relation relations = refl

packed-some : (relation : Relation) (group : List Relation) (gs : List (List Relation))
    → unpacked_groups (packed_groups ((relation ∷ group) ∷ gs))
    ≡ map (map unpacked_relation) (groups (packed_groups ((relation ∷ group) ∷ gs)))
packed-some relation group gs = refl

-- the groups of a tree without an empty one come back
groups_again : (gs : List (List Relation)) → AllByRecursion NotEmpty gs → unpacked_groups (packed_groups gs) ≡ map (map again) gs
groups_again [] h = refl
groups_again ([] ∷ gs) h = absurd (h.0 refl)
groups_again ((relation ∷ group) ∷ gs) h =
    packed-some relation group gs ∙ ap (map (map unpacked_relation)) (groups-packed (relation ∷ group) gs h)
    ∙ rw (unpacked-group And (relation ∷ group), unpacked-ors gs) refl

-- ---- and is what a text says

-- both ends of an item that a text says fit a token
ends_fit : (item : RangeListItem) → IsSpellableItem item → FitsToken (record { 0 = (ends_of item).0 })
    × FitsToken (record { 0 = (ends_of item).1 })
ends_fit (items.Range start end) h = h
ends_fit (items.Value value) h = (h, h)

-- a range whose ends fit a token is one that a text says
range_spellable : (range : ℕ × ℕ) → FitsToken (record { 0 = range.0 }) → FitsToken (record { 0 = range.1 })
    → IsSpellableItem (unpacked_range range)
range_spellable range a b = by (range.0 == range.1) refl
  where
    by : (same : Bool) → (range.0 == range.1) ≡ same → IsSpellableItem (unpacked_range range)
    by true h = rw h a
    by false h = rw h (a, b)

-- so items stay what a text says
items_spellable : (list : List RangeListItem) → AllByRecursion IsSpellableItem list
    → AllByRecursion IsSpellableItem (map unpacked_range (map ends_of list))
items_spellable [] h = tt
items_spellable (item ∷ list) h = let f = ends_fit item h.0 in (range_spellable (ends_of item) f.0 f.1, items_spellable list h.1)

-- a list of items that isn't empty stays so
items_there : (list : List RangeListItem) → list ≢ [] → map unpacked_range (map ends_of list) ≢ []
items_there [] h = h
items_there (item ∷ list) h = λ e. cc

modulus_spellable : (modulus : Option Value) → IfSome modulus FitsToken → IfSome (unpacked_modulus (modulus_of modulus)) FitsToken
modulus_spellable None h = tt
modulus_spellable (Some modulus) h = by (modulus.0 == 0) refl
  where
    by : (none : Bool) → (modulus.0 == 0) ≡ none → IfSome (unpacked_modulus modulus.0) FitsToken
    by true e = rw e tt
    by false e = rw e h

-- so a relation stays what a text says
relation_spellable : (relation : Relation) → IsSpellableRelation relation → IsSpellableRelation (again relation)
relation_spellable relation h = (
  modulus_spellable relation.expression.modulus h.0,
  items_there relation.range_list.0 h.1,
  All-from_recursion IsSpellableItem _
      (items_spellable relation.range_list.0 (recursion_from_All IsSpellableItem relation.range_list.0 h.2)),
)

-- so do the relations of an and-condition
group_spellable : (relations : List Relation) → AllByRecursion IsSpellableRelation relations
    → AllByRecursion IsSpellableRelation (map again relations)
group_spellable [] h = tt
group_spellable (relation ∷ relations) h = (relation_spellable relation h.0, group_spellable relations h.1)

-- an and-condition that isn't empty stays so
group_there : (relations : List Relation) → relations ≢ [] → map again relations ≢ []
group_there [] h = h
group_there (relation ∷ relations) h = λ e. cc

-- so and-conditions stay what a text says
groups_spellable : (conditions : List AndCondition) → AllByRecursion IsSpellableGroup conditions
    → AllByRecursion IsSpellableGroup
    (map (λ (group : List Relation). record { 0 = group }) (map (map again) (map (λ (group : AndCondition). group.0) conditions)))
groups_spellable [] h = tt
groups_spellable (group ∷ conditions) h = (
  (
    group_there group.0 h.0.0,
    All-from_recursion IsSpellableRelation _
        (group_spellable group.0 (recursion_from_All IsSpellableRelation group.0 h.0.1)),
  ),
  groups_spellable conditions h.1,
)

-- the and-conditions that a text says are not empty
not_empty : (conditions : List AndCondition) → AllByRecursion IsSpellableGroup conditions
    → AllByRecursion NotEmpty (map (λ (group : AndCondition). group.0) conditions)
not_empty [] h = tt
not_empty (group ∷ conditions) h = (h.0.0, not_empty conditions h.1)

-- the tree of what a text says is what a text says
pub spellable_again : (condition : Condition) → IsSpellable condition → IsSpellable (unpacked (packed condition))
unfolding packed unpacked
spellable_again condition h =
    let all = recursion_from_All IsSpellableGroup condition.0 h in
    let same = groups_again (groups_of condition) (not_empty condition.0 all) in
    subst (λ (gs : List (List Relation)). IsSpellable (condition_of_groups gs)) (sym same)
    (All-from_recursion IsSpellableGroup _ (groups_spellable condition.0 all))
