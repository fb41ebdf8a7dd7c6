-- A condition and the relations that it is packed to have the same truth.
use Rattle.std.proofs.Common.{◌≡◌, List, [], ◌∷◌, ◌++◌, map, flat_map, Bool, refl, sym, ap, ◌∙◌, subst, inl, inr}
use Rattle.std.proofs.lemmas.List.{append-nil}
use Rattle.std.specs.Prelude.{◌&&◌, ◌||◌}
use Rattle.std.specs.List.{list_any, list_all, AllByRecursion}
use Rattle.plural_reference.specs.declared.ast.AndCondition.{AndCondition}
use Rattle.plural_reference.specs.declared.ast.Condition.{Condition}
use Rattle.plural_reference.specs.declared.ast.Relation.{Relation}
use Rattle.plural_reference.specs.declared.token.Token.{Token}
use Rattle.plural_reference.specs.declared.token.Token.TheVariants as tokens
use Rattle.plural_operands.specs.Operands.{Operands}
use Rattle.plural_reference.specs.Parser.{Separated, IsAndCondition, IsRelation, ReadsUpTo}
use Rattle.plural_reference.specs.Truth.{relation_truth, some_group, is_true_of, meaning_of, groups_of}
use Rattle.plural_runtime.specs.declared.kinds.AndOr.{AndOr}
use Rattle.plural_runtime.specs.declared.kinds.AndOr.TheVariants.{And, Or}
use Rattle.plural_runtime.specs.PackedRelations.{PackedRelation, groups, at_front}
use Rattle.plural_runtime.specs.PackedTruth.{packed_truth, is_true_at}
use Rattle.plural_runtime.specs.PackedTree.{packed_relation, packed_and_condition, packed_groups, packed}

-- a group has a relation
abbrev pub IsFilled : {A : Type 0} → List A → Type 0
IsFilled [] = ⊥
IsFilled (x ∷ xs) = Unit {0}

-- ---- The groups of what is packed

-- relations marked And before others are in the first group of these
and_before : (relations : List Relation) (others : List PackedRelation) (first : List PackedRelation) (more : List (List PackedRelation))
    → groups others ≡ first ∷ more
    → groups (map (packed_relation And) relations ++ others) ≡ (map (packed_relation And) relations ++ first) ∷ more
and_before [] others first more e = e
and_before (relation ∷ relations) others first more e =
    ap (at_front (packed_relation And relation)) (and_before relations others first more e)

-- each filled group begins with Or
or_groups : (gs : List (List Relation)) → AllByRecursion IsFilled gs
    → groups (flat_map (packed_and_condition Or) gs) ≡ [] ∷ map (packed_and_condition Or) gs
or_groups [] filled = refl
or_groups ([] ∷ gs) filled = absurd filled.0
or_groups ((relation ∷ relations) ∷ gs) filled =
    ap (λ found. [] ∷ at_front (packed_relation Or relation) found)
    (and_before relations (flat_map (packed_and_condition Or) gs) [] _ (or_groups gs filled.1))
    ∙ ap (λ group. [] ∷ (packed_relation Or relation ∷ group) ∷ map (packed_and_condition Or) gs)
    (append-nil (map (packed_relation And) relations))

-- an and-condition that begins with And has nothing but And
and_group : (group : List Relation) → packed_and_condition And group ≡ map (packed_relation And) group
and_group [] = refl
and_group (relation ∷ relations) = refl

-- the groups of a tree whose groups but the first are filled
packed_groups_are : (group : List Relation) (gs : List (List Relation)) → AllByRecursion IsFilled gs
    → groups (packed_groups (group ∷ gs)) ≡ packed_and_condition And group ∷ map (packed_and_condition Or) gs
packed_groups_are group gs filled =
    ap (λ front. groups (front ++ flat_map (packed_and_condition Or) gs)) (and_group group)
    ∙ and_before group (flat_map (packed_and_condition Or) gs) [] _ (or_groups gs filled)
    ∙ ap (λ front. front ∷ map (packed_and_condition Or) gs) (append-nil (map (packed_relation And) group) ∙ sym (and_group group))

-- ---- Their truth

-- the test of a relation of a tree
abbrev pub test_of : Operands → Relation → Bool
test_of number relation = relation_truth number (meaning_of relation)

-- relations marked And have the same truth as the tree's
marked_alike : (number : Operands) (relations : List Relation)
    → list_all (is_true_at number) (map (packed_relation And) relations) ≡ list_all (test_of number) relations
marked_alike number [] = refl
marked_alike number (relation ∷ relations) = ap (λ b. test_of number relation && b) (marked_alike number relations)

-- so has an and-condition, however it is marked
group_alike : (number : Operands) (mark : AndOr) (group : List Relation)
    → list_all (is_true_at number) (packed_and_condition mark group) ≡ list_all (test_of number) group
group_alike number mark [] = refl
group_alike number mark (relation ∷ relations) = ap (λ b. test_of number relation && b) (marked_alike number relations)

-- so has one of several and-conditions
groups_alike : (number : Operands) (gs : List (List Relation))
    → list_any (list_all (is_true_at number)) (map (packed_and_condition Or) gs) ≡ list_any (list_all (test_of number)) gs
groups_alike number [] = refl
groups_alike number (group ∷ gs) =
    ap (λ b. b || list_any (list_all (is_true_at number)) (map (packed_and_condition Or) gs)) (group_alike number Or group)
    ∙ ap (λ b. list_all (test_of number) group || b) (groups_alike number gs)

-- all groups but the first have a relation
abbrev pub AreLaterFilled : {A : Type 0} → List (List A) → Type 0
AreLaterFilled [] = Unit {0}
AreLaterFilled (group ∷ gs) = AllByRecursion IsFilled gs

-- all groups together have the same truth as the condition
truth_of_groups : (number : Operands) (gs : List (List Relation)) → AreLaterFilled gs
    → some_group (is_true_at number) (groups (packed_groups gs)) ≡ is_true_of (test_of number) gs
truth_of_groups number [] filled = refl
truth_of_groups number (group ∷ gs) filled =
    ap (some_group (is_true_at number)) (packed_groups_are group gs filled)
    ∙ ap (λ b. b || list_any (list_all (is_true_at number)) (map (packed_and_condition Or) gs)) (group_alike number And group)
    ∙ ap (λ b. list_all (test_of number) group || b) (groups_alike number gs)

-- a condition whose groups but the first have relations has the same truth as its packing
pub packed_truth-packed : (number : Operands) (condition : Condition) → AreLaterFilled (groups_of condition)
    → packed_truth number (packed condition) ≡ is_true_of (test_of number) (groups_of condition)
unfolding packed_truth packed
packed_truth-packed number condition filled = truth_of_groups number (groups_of condition) filled

-- ---- What is read has filled groups

-- an and-condition that is read has a relation
filled_group : (ts : List Token) (group : AndCondition) → IsAndCondition ts group → IsFilled group.0
filled_group ts group h = filled ts group.0 h
  where
    -- there is a relation among those that are read one after the other
    filled : (us : List Token) (relations : List Relation) → Separated tokens.And IsRelation us relations → IsFilled relations
    filled us [] h = absurd h
    filled us (relation ∷ relations) h = tt

-- each of the and-conditions that are read one after the other has a relation
filled_groups : (ts : List Token) (gs : List AndCondition) → Separated tokens.Or IsAndCondition ts gs
    → AllByRecursion IsFilled (map (λ group. group.0) gs)
filled_groups ts [] h = tt
filled_groups ts (group ∷ []) h = (filled_group ts group h, tt)
filled_groups ts (group ∷ next ∷ gs) h = (filled_group h.0 group h.3, filled_groups h.1 (next ∷ gs) h.4)

-- if all groups have a relation, all but the first have
later_filled : (gs : List (List Relation)) → AllByRecursion IsFilled gs → AreLaterFilled gs
later_filled [] filled = tt
later_filled (group ∷ gs) filled = filled.1

-- all groups but the first of a condition that is read have a relation
pub read_is_filled : (ts : List Token) (condition : Condition) (rest : List Token) → ReadsUpTo ts condition rest
    → AreLaterFilled (groups_of condition)
read_is_filled ts condition rest (inl none) = let P : Condition → Type 0 = λ c. AreLaterFilled (groups_of c) in subst P (sym none.0) tt
read_is_filled ts condition rest (inr some) = later_filled (groups_of condition) (filled_groups some.0 condition.0 some.2)
