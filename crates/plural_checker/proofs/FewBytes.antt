-- A condition that is read from few tokens can be packed: no value is large, and no start is high.
use Rattle.std.proofs.Common.{◌≡◌, ℕ, ◌+◌, ◌*◌, ◌≤◌, List, [], ◌∷◌, ◌++◌, Bool, false, Option, Some, None, Ok, inl, inr, refl, ap, ◌∙◌, length, map, arith, length-append}
use Rattle.std.specs.Prelude.{◌||◌, flat_map, nat_lt, IfSome}
use Rattle.std.specs.List.{list_any}
use Rattle.std.proofs.lemmas.Bool.{le-ltb}
use Rattle.std.proofs.lemmas.List.{length-map}
use Rattle.std.proofs.lemmas.List.Elements.{All-weaker}
use Rattle.std.proofs.lemmas.List.Folds.{list_any_none}
use Rattle.icu_plurals.specs.declared.provider.rules.reference.Token.{Token}
use Rattle.icu_plurals.specs.declared.provider.rules.reference.Token.TheVariants.{And, Comma, Operator, Or}
use Rattle.icu_plurals.specs.declared.provider.rules.reference.ast.AndCondition.{AndCondition}
use Rattle.icu_plurals.specs.declared.provider.rules.reference.ast.Condition.{Condition}
use Rattle.icu_plurals.specs.declared.provider.rules.reference.ast.RangeListItem.{RangeListItem}
use Rattle.icu_plurals.specs.declared.provider.rules.reference.ast.RangeListItem.TheVariants as items
use Rattle.icu_plurals.specs.declared.provider.rules.reference.ast.Relation.{Relation}
use Rattle.icu_plurals.specs.declared.provider.rules.reference.ast.Value.{Value}
use Rattle.icu_plurals.specs.declared.provider.rules.runtime.ast.AndOr.{AndOr}
use Rattle.icu_plurals.specs.declared.provider.rules.runtime.ast.AndOr.TheVariants as mark
use Rattle.icu_plurals.specs.ListBytes.{starts_from}
use Rattle.icu_plurals.specs.PackedRelations.{PackedRelation, range_bytes, relation_bytes}
use Rattle.icu_plurals.specs.PackedTree.{has_large_value, is_large, is_large_item, is_large_modulus, is_large_relation}
use Rattle.icu_plurals.specs.PackedTree.{packed, packed_and_condition, packed_groups, packed_relation, packing}
use Rattle.icu_plurals.specs.Parser.{IsAndCondition, IsCondition, IsItem, IsRelation, ReadsUpTo, Separated}
use Rattle.icu_plurals.specs.Truth.{ends_of}
use Rattle.plural_reference.specs.PrintingLaws.{FitsToken, IsSpellable, IsSpellableGroup, IsSpellableItem, IsSpellableRelation}

-- ---- no value is large

-- none of two tests passes
neither : (a b : Bool) → a ≡ false → b ≡ false → (a || b) ≡ false
neither a b e f = rw (e, f) refl

-- of what tokens hold no value is large
small_value : (value : Value) → FitsToken value → is_large value ≡ false
small_value value h = le-ltb 4294967295 value.0 h

small_item : (item : RangeListItem) → IsSpellableItem item → is_large_item item ≡ false
small_item (items.Range start end) h = neither (is_large start) (is_large end) (small_value start h.0) (small_value end h.1)
small_item (items.Value value) h = small_value value h

small_modulus : (modulus : Option Value) → IfSome modulus FitsToken → is_large_modulus modulus ≡ false
small_modulus None h = refl
small_modulus (Some modulus) h = small_value modulus h

small_relation : (relation : Relation) → IsSpellableRelation relation → is_large_relation relation ≡ false
small_relation relation h =
    neither (is_large_modulus relation.expression.modulus) (list_any is_large_item relation.range_list.0)
    (small_modulus relation.expression.modulus h.0)
    (list_any_none is_large_item relation.range_list.0
    (All-weaker IsSpellableItem (λ item. is_large_item item ≡ false) small_item relation.range_list.0 h.2))

small_group : (group : AndCondition) → IsSpellableGroup group → list_any is_large_relation group.0 ≡ false
small_group group h =
    list_any_none is_large_relation group.0
    (All-weaker IsSpellableRelation (λ relation. is_large_relation relation ≡ false) small_relation group.0 h.1)

small_condition : (condition : Condition) → IsSpellable condition → has_large_value condition ≡ false
unfolding has_large_value
small_condition condition h =
    list_any_none (λ (group : AndCondition). list_any is_large_relation group.0) condition.0
    (All-weaker IsSpellableGroup (λ group. list_any is_large_relation group.0 ≡ false) small_group condition.0 h)

-- ---- eight bytes a token are enough

-- the sum of the sizes of a list's elements
abbrev total : {A : Type 0} → (A → ℕ) → List A → ℕ
total size [] = 0
total size (x ∷ xs) = size x + total size xs

total-append : {A : Type 0} (size : A → ℕ) (xs ys : List A) → total size (xs ++ ys) ≡ total size xs + total size ys
total-append size [] ys = omega arith
total-append size (x ∷ xs) ys = let h = total-append size xs ys in omega arith

-- enough for each part is enough for all
enough_together : {A : Type 0} (separator : Token) (Part : List Token → A → Type 0) (size : A → ℕ)
    → ((tokens : List Token) (x : A) → Part tokens x → size x ≤ 8 * length tokens)
    → (tokens : List Token) (xs : List A) → Separated separator Part tokens xs → total size xs ≤ 8 * length tokens
enough_together separator Part size enough tokens [] none = absurd none
enough_together separator Part size enough tokens (x ∷ []) part = let h = enough tokens x part in omega arith
enough_together separator Part size enough tokens (x ∷ y ∷ ys) (part, rest, e, here, more) =
    let h = enough part x here in
    let i = enough_together separator Part size enough rest (y ∷ ys) more in
    let l : length tokens ≡ length part + length (separator ∷ rest) = ap length e ∙ length-append part (separator ∷ rest) in
    omega arith

-- an item takes eight bytes
abbrev item_size : RangeListItem → ℕ
item_size item = 8

enough_for_item : (tokens : List Token) (item : RangeListItem) → IsItem tokens item → item_size item ≤ 8 * length tokens
enough_for_item tokens (items.Value v) (t, e, is) = let l : length tokens ≡ 1 = ap length e in omega arith
enough_for_item tokens (items.Range a b) (t, u, e, is, more) = let l : length tokens ≡ 3 = ap length e in omega arith

items_size : (list : List RangeListItem) → total item_size list ≡ 8 * length list
items_size [] = refl
items_size (item ∷ list) = let h = items_size list in omega arith

-- a relation takes five more than its items
abbrev relation_size : Relation → ℕ
relation_size relation = 5 + 8 * length relation.range_list.0

enough_for_relation : (tokens : List Token) (relation : Relation) → IsRelation tokens relation → relation_size relation ≤ 8 * length tokens
enough_for_relation tokens relation (left, right, e, (t, modulus, f, operand, is), list) =
    let h = enough_together Comma IsItem item_size enough_for_item right relation.range_list.0 list in
    let i = items_size relation.range_list.0 in
    let l : length tokens ≡ length left + length (Operator relation.operator ∷ right) =
    ap length e ∙ length-append left (Operator relation.operator ∷ right) in
    let m : length left ≡ length (t ∷ modulus) = ap length f in
    omega arith

abbrev group_size : AndCondition → ℕ
group_size group = total relation_size group.0

enough_for_group : (tokens : List Token) (group : AndCondition) → IsAndCondition tokens group → group_size group ≤ 8 * length tokens
enough_for_group tokens group = enough_together And IsRelation relation_size enough_for_relation tokens group.0

enough_for_condition : (tokens : List Token) (condition : Condition) → IsCondition tokens condition
    → total group_size condition.0 ≤ 8 * length tokens
enough_for_condition tokens condition = enough_together Or IsAndCondition group_size enough_for_group tokens condition.0

-- ---- the bytes of packed relations are as many

abbrev packed_size : PackedRelation → ℕ
packed_size relation = length (relation_bytes relation)

size_of_ranges : (ranges : List (ℕ × ℕ)) → length (flat_map range_bytes ranges) ≡ 8 * length ranges
size_of_ranges [] = refl
size_of_ranges (range ∷ ranges) = let h = size_of_ranges ranges in omega arith

size_of_relation : (and_or : AndOr) (relation : Relation) → packed_size (packed_relation and_or relation) ≡ relation_size relation
unfolding relation_bytes
size_of_relation and_or relation =
    let h = size_of_ranges (map ends_of relation.range_list.0) in
    let l = length-map relation.range_list.0 ends_of in
    omega arith

size_of_relations : (relations : List Relation) → total packed_size (map (packed_relation mark.And) relations) ≡ total relation_size relations
size_of_relations [] = refl
size_of_relations (relation ∷ relations) =
    let h = size_of_relation mark.And relation in
    let i = size_of_relations relations in
    omega arith

size_of_group : (and_or : AndOr) (group : List Relation) → total packed_size (packed_and_condition and_or group) ≡ total relation_size group
size_of_group and_or [] = refl
size_of_group and_or (relation ∷ relations) =
    let h = size_of_relation and_or relation in
    let i = size_of_relations relations in
    omega arith

-- the relations of and-conditions
abbrev relations_of : List AndCondition → List (List Relation)
relations_of groups = map (λ (group : AndCondition). group.0) groups

size_of_others : (groups : List AndCondition)
    → total packed_size (flat_map (packed_and_condition mark.Or) (relations_of groups)) ≡ total group_size groups
size_of_others [] = refl
size_of_others (group ∷ groups) =
    let h = size_of_group mark.Or group.0 in
    let i = size_of_others groups in
    let l = total-append packed_size (packed_and_condition mark.Or group.0) (flat_map (packed_and_condition mark.Or) (relations_of groups)) in
    omega arith

size_of_groups : (groups : List AndCondition) → total packed_size (packed_groups (relations_of groups)) ≡ total group_size groups
size_of_groups [] = refl
size_of_groups (group ∷ groups) =
    let h = size_of_group mark.And group.0 in
    let i = size_of_others groups in
    let l = total-append packed_size (packed_and_condition mark.And group.0) (flat_map (packed_and_condition mark.Or) (relations_of groups)) in
    omega arith

size_of_condition : (condition : Condition) → total packed_size (packed condition) ≡ total group_size condition.0
unfolding packed
size_of_condition condition = size_of_groups condition.0

-- what is read from tokens takes at most eight bytes for each
size_read : (tokens rest : List Token) (condition : Condition) → ReadsUpTo tokens condition rest
    → total packed_size (packed condition) ≤ 8 * length tokens
size_read tokens rest condition (inl (none, e, is)) =
    let h = size_of_condition condition in
    let n : total group_size condition.0 ≡ 0 = ap (λ (c : Condition). total group_size c.0) none in
    omega arith
size_read tokens rest condition (inr (spelled, e, is, end)) =
    let h = size_of_condition condition in
    let i = enough_for_condition spelled condition is in
    let l : length tokens ≡ length spelled + length rest = ap length e ∙ length-append spelled rest in
    omega arith

-- ---- no start is high

none_is_high : (place : ℕ) (relations : List PackedRelation) → place + total packed_size relations ≤ 65535
    → list_any (λ start. nat_lt 65535 start) (starts_from place (map relation_bytes relations)) ≡ false
none_is_high place [] low = refl
none_is_high place (relation ∷ relations) low =
    neither (nat_lt 65535 place) _ (le-ltb 65535 place (omega arith))
    (none_is_high (place + length (relation_bytes relation)) relations (omega arith))

-- so what is read from few tokens can be packed
pub few_tokens : (tokens rest : List Token) (condition : Condition) → length tokens ≤ 1024 → IsSpellable condition
    → ReadsUpTo tokens condition rest → packing condition ≡ Ok (packed condition)
unfolding packing
few_tokens tokens rest condition few spellable reads =
    let h = size_read tokens rest condition reads in
    rw (small_condition condition spellable, none_is_high 0 (packed condition) (omega arith)) refl
