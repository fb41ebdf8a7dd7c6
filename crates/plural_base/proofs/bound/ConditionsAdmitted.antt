-- What is read and packed is what the agreement of kept and exact operands asks for: its moduli are
-- listed, and its ranges end below 10 ^ 18.
use Rattle.std.proofs.Common.{◌≡◌, ℕ, ◌^◌, ◌<◌, List, [], ◌∷◌, ◌++◌, map, flat_map, Bool, true, false, refl, sym, ap, ◌∙◌, arith}
use Rattle.std.specs.Prelude.{◌||◌, Contains}
use Rattle.std.specs.List.{list_any, AllByRecursion}
use Rattle.std.proofs.lemmas.Bool.Decides.{nat_tests}
use Rattle.std.proofs.lemmas.List.Elements.{Contains-append_left, Contains-append_right, Contains-push}
use Rattle.plural_reference.specs.declared.ast.AndCondition.{AndCondition}
use Rattle.plural_reference.specs.declared.ast.Condition.{Condition}
use Rattle.plural_reference.specs.declared.ast.Relation.{Relation}
use Rattle.plural_reference.specs.declared.ast.RangeListItem.{RangeListItem}
use Rattle.plural_reference.specs.declared.ast.RangeListItem.TheVariants as items
use Rattle.plural_reference.specs.declared.ast.Value.{Value}
use Rattle.plural_operands.specs.declared.operand.Operand.{Operand}
use Rattle.plural_operands.specs.declared.operand.Operand.TheVariants.{N, I, V, W, F, T, C, E}
use Rattle.plural_reference.specs.Exactness.{IsListed, IsAdmitted}
use Rattle.plural_reference.specs.Truth.{RelationMeaning, meaning_of, groups_of, ends_of}
use Rattle.plural_runtime.specs.declared.kinds.AndOr.{AndOr}
use Rattle.plural_runtime.specs.declared.kinds.AndOr.TheVariants.{And, Or}
use Rattle.plural_runtime.specs.PackedRelations.{PackedRelation}
use Rattle.plural_runtime.specs.PackedTree.{packed_relation, packed_and_condition, packed_groups, packed, is_large, is_large_item}
use Rattle.plural_runtime.specs.PackedTree.{is_large_modulus, is_large_relation, has_large_value}
use Rattle.plural_base.specs.FiveRules.{modulus_on, moduli_of_relation}

-- ---- Moduli

-- the list contains each of these
abbrev pub Covers : List ℕ → List ℕ → Type 0
Covers moduli some = (m : ℕ) → Contains some m → Contains moduli m

-- if a modulus on n or i is covered, it is listed; on other operands nothing needs to be listed
listed_of : (moduli : List ℕ) (operand : Operand) (modulus : ℕ) → Covers moduli (modulus_on operand modulus)
    → IsListed operand modulus moduli
listed_of moduli N modulus covers = λ _. covers modulus (Contains-push [] modulus)
listed_of moduli I modulus covers = λ _. covers modulus (Contains-push [] modulus)
listed_of moduli V modulus covers = tt
listed_of moduli W modulus covers = tt
listed_of moduli F modulus covers = tt
listed_of moduli T modulus covers = tt
listed_of moduli C modulus covers = tt
listed_of moduli E modulus covers = tt

-- the modulus of what a relation says is listed
abbrev pub HasListed : List ℕ → RelationMeaning → Type 0
HasListed moduli meaning = IsListed meaning.operand meaning.modulus moduli

-- what packed relations say is listed if all their moduli are covered
packed_listed : (moduli : List ℕ) (relations : List PackedRelation) → Covers moduli (flat_map moduli_of_relation relations)
    → AllByRecursion (λ relation. HasListed moduli relation.meaning) relations
packed_listed moduli [] covers = tt
packed_listed moduli (relation ∷ relations) covers = (
  listed_of moduli relation.meaning.operand relation.meaning.modulus
      (λ m here. covers m (Contains-append_left (moduli_of_relation relation) (flat_map moduli_of_relation relations) m here)),
  packed_listed moduli relations
      (λ m here. covers m (Contains-append_right (moduli_of_relation relation) (flat_map moduli_of_relation relations) m here)),
)

-- ---- From packed relations to the relations of a tree

-- what holds of what each packed relation says
abbrev pub Says : (RelationMeaning → Type 0) → PackedRelation → Type 0
Says P relation = P relation.meaning

-- what holds of what a relation of a tree says
abbrev pub Means : (RelationMeaning → Type 0) → Relation → Type 0
Means P relation = P (meaning_of relation)

-- what holds of all of two joined lists holds of all of each
split_all : (P : PackedRelation → Type 0) (xs ys : List PackedRelation) → AllByRecursion P (xs ++ ys)
    → AllByRecursion P xs × AllByRecursion P ys
split_all P [] ys all = (tt, all)
split_all P (x ∷ xs) ys all = let both = split_all P xs ys all.1 in ((all.0, both.0), both.1)

-- what holds of relations that are marked And holds of the tree's relations
of_marked : (P : RelationMeaning → Type 0) (relations : List Relation) → AllByRecursion (Says P) (map (packed_relation And) relations)
    → AllByRecursion (Means P) relations
of_marked P [] all = tt
of_marked P (relation ∷ relations) all = (all.0, of_marked P relations all.1)

-- so it does for an and-condition, however its first relation is marked
of_group : (P : RelationMeaning → Type 0) (mark : AndOr) (group : List Relation)
    → AllByRecursion (Says P) (packed_and_condition mark group) → AllByRecursion (Means P) group
of_group P mark [] all = tt
of_group P mark (relation ∷ relations) all = (all.0, of_marked P relations all.1)

-- so it does for each and-condition after the first
of_later : (P : RelationMeaning → Type 0) (gs : List (List Relation)) → AllByRecursion (Says P) (flat_map (packed_and_condition Or) gs)
    → AllByRecursion (AllByRecursion (Means P)) gs
of_later P [] all = tt
of_later P (group ∷ gs) all =
    let both = split_all (Says P) (packed_and_condition Or group) (flat_map (packed_and_condition Or) gs) all in
    (of_group P Or group both.0, of_later P gs both.1)

-- so it does for all and-conditions of a tree
of_groups : (P : RelationMeaning → Type 0) (gs : List (List Relation)) → AllByRecursion (Says P) (packed_groups gs)
    → AllByRecursion (AllByRecursion (Means P)) gs
of_groups P [] all = tt
of_groups P (group ∷ gs) all =
    let both = split_all (Says P) (packed_and_condition And group) (flat_map (packed_and_condition Or) gs) all in
    (of_group P And group both.0, of_later P gs both.1)

-- each relation of a condition has its modulus listed, if those of the packed relations are covered
condition_listed : (moduli : List ℕ) (condition : Condition) → Covers moduli (flat_map moduli_of_relation (packed condition))
    → AllByRecursion (AllByRecursion (Means (HasListed moduli))) (groups_of condition)
unfolding packed
condition_listed moduli condition covers =
    of_groups (HasListed moduli) (groups_of condition) (packed_listed moduli (packed condition) covers)

-- ---- Ends

-- if a disjunction is false, both its sides are
neither : (a b : Bool) → (a || b) ≡ false → (a ≡ false) × (b ≡ false)
neither false false e = (refl, refl)
neither false true e = cc
neither true b e = cc

-- a value that fits 32 bits is below 10 ^ 18
is_small : (value : Value) → is_large value ≡ false → value.0 < 10 ^ 18
is_small value e = grind (arith, nat_tests)

-- so is the end of an item whose values fit 32 bits
item_small : (item : RangeListItem) → is_large_item item ≡ false → (ends_of item).1 < 10 ^ 18
item_small (items.Range start end) e = is_small end (neither (is_large start) (is_large end) e).1
item_small (items.Value value) e = is_small value e

-- so are the ends of all items, if none is large
items_small : (list : List RangeListItem) → list_any is_large_item list ≡ false
    → AllByRecursion (λ range. range.1 < 10 ^ 18) (map ends_of list)
items_small [] e = tt
items_small (item ∷ list) e =
    let both = neither (is_large_item item) (list_any is_large_item list) e in (item_small item both.0, items_small list both.1)

-- all ranges end below 10 ^ 18
abbrev pub HasSmallEnds : RelationMeaning → Type 0
HasSmallEnds meaning = AllByRecursion (λ range. range.1 < 10 ^ 18) meaning.ranges

-- the ranges of a relation without large values end below 10 ^ 18
relation_small : (relation : Relation) → is_large_relation relation ≡ false → Means HasSmallEnds relation
relation_small relation e =
    items_small relation.range_list.0
    (neither (is_large_modulus relation.expression.modulus) (list_any is_large_item relation.range_list.0) e).1

-- so do those of an and-condition
group_small : (group : List Relation) → list_any is_large_relation group ≡ false → AllByRecursion (Means HasSmallEnds) group
group_small [] e = tt
group_small (relation ∷ group) e =
    let both = neither (is_large_relation relation) (list_any is_large_relation group) e in
    (relation_small relation both.0, group_small group both.1)

-- so do those of all and-conditions
groups_small : (gs : List (List Relation)) → list_any (list_any is_large_relation) gs ≡ false
    → AllByRecursion (AllByRecursion (Means HasSmallEnds)) gs
groups_small [] e = tt
groups_small (group ∷ gs) e =
    let both = neither (list_any is_large_relation group) (list_any (list_any is_large_relation) gs) e in
    (group_small group both.0, groups_small gs both.1)

-- large values are looked for in the same lists, with or without the wrapping of an and-condition
large_groups : (gs : List AndCondition)
    → list_any (λ group. list_any is_large_relation group.0) gs ≡ list_any (list_any is_large_relation) (map (λ group. group.0) gs)
large_groups [] = refl
large_groups (group ∷ gs) = ap (λ b. list_any is_large_relation group.0 || b) (large_groups gs)

-- the ranges of a condition without large values end below 10 ^ 18
condition_small : (condition : Condition) → has_large_value condition ≡ false
    → AllByRecursion (AllByRecursion (Means HasSmallEnds)) (groups_of condition)
unfolding has_large_value
condition_small condition e = groups_small (groups_of condition) (sym (large_groups condition.0) ∙ e)

-- ---- Both

-- if moduli are listed and ends are small, the relations of a group are admitted
group_both : (moduli : List ℕ) (group : List Relation) → AllByRecursion (Means (HasListed moduli)) group
    → AllByRecursion (Means HasSmallEnds) group
    → AllByRecursion (Means (IsAdmitted moduli)) group
group_both moduli [] listed ends = tt
group_both moduli (relation ∷ group) listed ends = (record { listed = listed.0; ends = ends.0 }, group_both moduli group listed.1 ends.1)

-- and so are those of all groups
groups_both : (moduli : List ℕ) (gs : List (List Relation)) → AllByRecursion (AllByRecursion (Means (HasListed moduli))) gs
    → AllByRecursion (AllByRecursion (Means HasSmallEnds)) gs
    → AllByRecursion (AllByRecursion (Means (IsAdmitted moduli))) gs
groups_both moduli [] listed ends = tt
groups_both moduli (group ∷ gs) listed ends = (group_both moduli group listed.0 ends.0, groups_both moduli gs listed.1 ends.1)

-- each relation of a condition without large values is admitted, if the moduli of its packed
-- relations are listed
pub condition_admitted : (moduli : List ℕ) (condition : Condition) → has_large_value condition ≡ false
    → Covers moduli (flat_map moduli_of_relation (packed condition))
    → AllByRecursion (AllByRecursion (λ relation. IsAdmitted moduli (meaning_of relation))) (groups_of condition)
condition_admitted moduli condition small covers =
    groups_both moduli (groups_of condition) (condition_listed moduli condition covers) (condition_small condition small)
