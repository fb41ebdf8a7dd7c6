-- The result of packing a tree.
use Rattle.std.proofs.Common.{◌≡◌, ℕ, ◌+◌, ◌-◌, ◌*◌, ◌<◌, ◌≤◌, ◌^◌, List, [], ◌∷◌, ◌++◌, length, map, refl, ap, ◌∙◌, arith, Bool}
use Rattle.std.proofs.Common.{true, false, Some, None}
use Rattle.std.specs.Prelude.{◌||◌, nat_lt, Option, Ok, Err, flat_map}
use Rattle.std.specs.List.{list_any, AllByRecursion}
use Rattle.std.proofs.lemmas.Bool.{lt-ltb, ltb-false}
use Rattle.packed_list.specs.ListBytes.{has_high_start, starts_from}
use Rattle.plural_reference.specs.declared.ast.AndCondition.{AndCondition}
use Rattle.plural_reference.specs.declared.ast.Condition.{Condition}
use Rattle.plural_reference.specs.declared.ast.RangeListItem.{RangeListItem}
use Rattle.plural_reference.specs.declared.ast.RangeListItem.TheVariants as items
use Rattle.plural_reference.specs.declared.ast.Relation.{Relation}
use Rattle.plural_reference.specs.declared.ast.Value.{Value}
use Rattle.plural_reference.specs.declared.error.ParseError.TheVariants.{ValueTooLarge}
use Rattle.plural_reference.specs.Truth.{ends_of, modulus_of}
use Rattle.plural_runtime.specs.declared.kinds.AndOr.{AndOr}
use Rattle.plural_runtime.specs.declared.kinds.AndOr.TheVariants.{And, Or}
use Rattle.plural_runtime.specs.declared.error.RuleError.TheVariants.{Parse, StartLimit}
use Rattle.plural_runtime.specs.PackedRelations.{PackedRelation, FitsBytes, relation_bytes}
use Rattle.plural_runtime.specs.PackedTree.{packed, packed_groups, packed_and_condition, packed_relation, has_large_value, is_large}
use Rattle.plural_runtime.specs.PackedTree.{is_large_item, is_large_modulus, is_large_relation, packing}

-- ---- the three results

-- a large value anywhere is refused first
pub packing-large : (condition : Condition) → has_large_value condition ≡ true → packing condition ≡ Err (Parse ValueTooLarge)
unfolding packing
packing-large condition h = rw h refl

-- otherwise a high start is refused
pub packing-high : (condition : Condition) → has_large_value condition ≡ false
    → has_high_start (map relation_bytes (packed condition)) ≡ true → packing condition ≡ Err StartLimit
unfolding packing
packing-high condition h high = rw (h, high) refl

-- otherwise the relations of the tree are packed
pub packing-ok : (condition : Condition) → has_large_value condition ≡ false
    → has_high_start (map relation_bytes (packed condition)) ≡ false → packing condition ≡ Ok (packed condition)
unfolding packing
packing-ok condition h low = rw (h, low) refl

-- ---- small values fit their bytes

-- if neither of two tests passes, each fails
neither_true : (a b : Bool) → (a || b) ≡ false → (a ≡ false) × (b ≡ false)
neither_true true b h = cc
neither_true false b h = (refl, h)

-- a value that is not large fits four bytes
small_value : (value : Value) → is_large value ≡ false → value.0 < 2 ^ 32
small_value value h = let e = ltb-false 4294967295 value.0 h in omega arith

-- both ends of an item that is not large fit
small_ends : (item : RangeListItem) → is_large_item item ≡ false → ((ends_of item).0 < 2 ^ 32) × ((ends_of item).1 < 2 ^ 32)
small_ends (items.Range start end) h = let n = neither_true (is_large start) (is_large end) h in
    (small_value start n.0, small_value end n.1)
small_ends (items.Value value) h = (small_value value h, small_value value h)

-- so do those of a list of such items
small_ranges : (list : List RangeListItem) → list_any is_large_item list ≡ false
    → AllByRecursion (λ range. (range.0 < 2 ^ 32) × (range.1 < 2 ^ 32)) (map ends_of list)
small_ranges [] h = tt
small_ranges (item ∷ list) h = let n = neither_true (is_large_item item) (list_any is_large_item list) h in
    (small_ends item n.0, small_ranges list n.1)

-- a modulus that is not large fits, and so does the 0 for none
small_modulus : (modulus : Option Value) → is_large_modulus modulus ≡ false → modulus_of modulus < 2 ^ 32
small_modulus None h = omega arith
small_modulus (Some modulus) h = small_value modulus h

-- so the relation of a tree without a large value fits its bytes
small_relation : (mark : AndOr) (relation : Relation) → is_large_relation relation ≡ false → FitsBytes (packed_relation mark relation)
small_relation mark relation h =
    let n = neither_true (is_large_modulus relation.expression.modulus) (list_any is_large_item relation.range_list.0) h in
    record { modulus = small_modulus relation.expression.modulus n.0; ranges = small_ranges relation.range_list.0 n.1 }

-- so do relations marked And
small_relations : (relations : List Relation) → list_any is_large_relation relations ≡ false
    → AllByRecursion FitsBytes (map (packed_relation And) relations)
small_relations [] h = tt
small_relations (relation ∷ relations) h = let n =
    neither_true (is_large_relation relation) (list_any is_large_relation relations) h in
    (small_relation And relation n.0, small_relations relations n.1)

-- so do those of an and-condition with a mark
small_group : (mark : AndOr) (relations : List Relation) → list_any is_large_relation relations ≡ false
    → AllByRecursion FitsBytes (packed_and_condition mark relations)
small_group mark [] h = tt
small_group mark (relation ∷ relations) h = let n =
    neither_true (is_large_relation relation) (list_any is_large_relation relations) h in
    (small_relation mark relation n.0, small_relations relations n.1)

-- relations fit together if both parts do
both_fit : (some more : List PackedRelation) → AllByRecursion FitsBytes some → AllByRecursion FitsBytes more
    → AllByRecursion FitsBytes (some ++ more)
both_fit [] more a b = b
both_fit (relation ∷ some) more a b = (a.0, both_fit some more a.1 b)

-- the relations of the and-conditions after the first one fit
small_others : (groups : List AndCondition) → list_any (λ (group : AndCondition). list_any is_large_relation group.0) groups
    ≡ false → AllByRecursion FitsBytes (flat_map (packed_and_condition Or) (map (λ (group : AndCondition). group.0) groups))
small_others [] h = tt
small_others (group ∷ groups) h =
    let n = neither_true (list_any is_large_relation group.0)
    (list_any (λ (group : AndCondition). list_any is_large_relation group.0) groups) h in
    both_fit (packed_and_condition Or group.0)
    (flat_map (packed_and_condition Or) (map (λ (group : AndCondition). group.0) groups)) (small_group Or group.0 n.0)
    (small_others groups n.1)

-- so those of all and-conditions do
small_groups : (groups : List AndCondition) → list_any (λ (group : AndCondition). list_any is_large_relation group.0) groups
    ≡ false → AllByRecursion FitsBytes (packed_groups (map (λ (group : AndCondition). group.0) groups))
small_groups [] h = tt
small_groups (group ∷ groups) h =
    let n = neither_true (list_any is_large_relation group.0)
    (list_any (λ (group : AndCondition). list_any is_large_relation group.0) groups) h in
    both_fit (packed_and_condition And group.0)
    (flat_map (packed_and_condition Or) (map (λ (group : AndCondition). group.0) groups)) (small_group And group.0 n.0)
    (small_others groups n.1)

-- the relations of a tree without a large value fit their bytes
pub small_tree : (condition : Condition) → has_large_value condition ≡ false → AllByRecursion FitsBytes (packed condition)
unfolding has_large_value packed
small_tree condition h = small_groups condition.0 h

-- ---- many relations have a high start

-- a relation has at least the bytes of its head
relation_length : (relation : PackedRelation) → 5 ≤ length (relation_bytes relation)
unfolding relation_bytes
relation_length relation = omega arith

-- if the place is high enough for the relations that follow, some start after it is high
high_behind : (bound place : ℕ) (relations : List PackedRelation) → 0 < length relations
    → bound < place + 5 * (length relations - 1)
    → list_any (λ start. nat_lt bound start) (starts_from place (map relation_bytes relations)) ≡ true
high_behind bound place [] some h = absurd (omega arith)
high_behind bound place (relation ∷ []) some h = let e : nat_lt bound place ≡ true = lt-ltb bound place (omega arith) in rw e refl
high_behind bound place (relation ∷ next ∷ relations) some h =
    let l = relation_length relation in
    let again = high_behind bound (place + length (relation_bytes relation)) (next ∷ relations) (omega arith) (omega (arith, l)) in
    ap (λ b. nat_lt bound place || b) again ∙ or_true (nat_lt bound place)
  where
    or_true : (a : Bool) → (a || true) ≡ true
    or_true true = refl
    or_true false = refl

-- of more than 65535 relations one starts too high
pub many_high : (relations : List PackedRelation) → 65535 < length relations → has_high_start (map relation_bytes relations) ≡ true
many_high relations h = high_behind 65535 0 relations (omega arith) (omega arith)
