-- The truth of packed relations and of their tree.
use Rattle.std.proofs.Common.{◌≡◌, ℕ, List, [], ◌∷◌, map, refl, sym, ap, ◌∙◌, Bool, true, false, Some, None, inl, inr, ◌⊎◌}
use Rattle.std.specs.Prelude.{◌&&◌, ◌||◌, not, ◌==◌, Option, option_map, IsTrue}
use Rattle.std.specs.List.{list_all, AllByRecursion}
use Rattle.std.specs.Cmp.{first_so, second_so}
use Rattle.std.proofs.lemmas.Bool.{eq-eqb}
use Rattle.plural_operands.specs.Operands.{Operands}
use Rattle.plural_reference.specs.declared.ast.Operator.{Operator}
use Rattle.plural_reference.specs.declared.ast.Operator.TheVariants.{Eq, NotEq}
use Rattle.plural_operands.specs.declared.operand.Operand.{Operand}
use Rattle.plural_operands.specs.declared.operand.Operand.TheVariants.{N, I, V, W, F, T, C, E}
use Rattle.plural_reference.specs.Truth.{remainder, holds_value, is_in_ranges, under, RelationMeaning, some_group}
use Rattle.plural_operands.specs.Operands.{operand_value}
use Rattle.plural_reference.specs.Truth.{is_true_of, tree_value, holds_by, tree_relation_truth, tree_truth}
use Rattle.plural_runtime.specs.declared.kinds.AndOr.{AndOr}
use Rattle.plural_runtime.specs.declared.kinds.AndOr.TheVariants.{And, Or}
use Rattle.plural_runtime.specs.PackedRelations.{PackedRelation, groups, at_front, cut_before}
use Rattle.plural_runtime.specs.PackedTruth.{is_true_at, group_truth, packed_truth}
use Rattle.plural_runtime.specs.PackedTree.{unpacked_meaning, unpacked_relation, unpacked_groups, unpacked, is_negated_n}
use Rattle.plural_runtime.specs.PackedTree.{has_no_negated_n}
use Rattle.plural_runtime.proofs.truth.Meanings.{ranges_again, modulus_again, modulus_not_zero}
use Rattle.plural_runtime.proofs.truth.TreeGroups.{wrapped}
use Rattle.plural_runtime.proofs.walks.Walks.{first_group}

-- a relation of which both truths are the same: the fraction is zero, or `!=` doesn't test n
abbrev pub Agrees : Operands → PackedRelation → Type 0
Agrees number relation = (number.w ≡ 0) ⊎ (is_negated_n relation.meaning.operator relation.meaning.operand ≡ false)

-- what the operator is if there is no value
no_value : (number : Operands) (operator : Operator) (operand : Operand) → (number.w ≡ 0) ⊎ (is_negated_n operator operand ≡ false)
    → operand_value operand number ≡ None → operator ≡ Eq
no_value number Eq operand ok h = refl
no_value number NotEq N (inl whole) h = let e : (number.w == 0) ≡ true = eq-eqb number.w 0 whole in
    let f : operand_value N number ≡ Some number.i = rw e refl in cc
no_value number NotEq N (inr never) h = cc
no_value number NotEq I ok h = cc
no_value number NotEq V ok h = cc
no_value number NotEq W ok h = cc
no_value number NotEq F ok h = cc
no_value number NotEq T ok h = cc
no_value number NotEq C ok h = cc
no_value number NotEq E ok h = cc

-- the value that the tree of a relation tests
same_value : (number : Operands) (relation : RelationMeaning)
    → tree_value number (unpacked_meaning relation).expression
    ≡ option_map (remainder relation.modulus) (operand_value relation.operand number)
same_value number relation = rw (modulus_not_zero relation.modulus, modulus_again relation.modulus) refl

-- at a value, or none, a relation and its tree have the same truth, if the operator is `=` without
-- a value
same_at : (relation : RelationMeaning) (value : Option ℕ) → (value ≡ None → relation.operator ≡ Eq) →
    holds_by (unpacked_meaning relation) value ≡ under relation.operator (holds_value relation.ranges value)
same_at relation None h = sym (ap (λ operator. under operator false) (h refl))
same_at relation (Some value) h = ap (λ ranges. under relation.operator (is_in_ranges ranges value)) (ranges_again relation.ranges)

-- if a remainder is absent, the value was
mapped_none : (f : ℕ → ℕ) (value : Option ℕ) → option_map f value ≡ None → value ≡ None
mapped_none f None h = refl
mapped_none f (Some value) h = cc

-- a relation that agrees has the same truth as its tree
same_relation : (number : Operands) (relation : PackedRelation) → Agrees number relation
    → tree_relation_truth number (unpacked_relation relation) ≡ is_true_at number relation
same_relation number relation ok =
    let m = relation.meaning in
    let value : Option ℕ = option_map (remainder m.modulus) (operand_value m.operand number) in
    ap (holds_by (unpacked_meaning m)) (same_value number m)
    ∙ same_at m value (λ none. no_value number m.operator m.operand ok
    (mapped_none (remainder m.modulus) (operand_value m.operand number) none))

-- so has a group of such relations
same_group : (number : Operands) (group : List PackedRelation) → AllByRecursion (Agrees number) group
    → list_all (tree_relation_truth number) (map unpacked_relation group) ≡ group_truth number group
same_group number [] ok = refl
same_group number (relation ∷ group) ok =
    ap (λ b. b && list_all (tree_relation_truth number) (map unpacked_relation group)) (same_relation number relation ok.0)
    ∙ ap (λ b. is_true_at number relation && b) (same_group number group ok.1)

-- so have groups of such relations
same_groups : (number : Operands) (gs : List (List PackedRelation)) → AllByRecursion (AllByRecursion (Agrees number)) gs
    → some_group (tree_relation_truth number) (map (map unpacked_relation) gs) ≡ some_group (is_true_at number) gs
same_groups number [] ok = refl
same_groups number (group ∷ gs) ok =
    ap (λ b. b || some_group (tree_relation_truth number) (map (map unpacked_relation) gs)) (same_group number group ok.0)
    ∙ ap (λ b. group_truth number group || b) (same_groups number gs ok.1)

-- what holds of a relation and of all relations of groups also holds with the relation put before
-- the groups
groups_ok : (P : PackedRelation → Type 0) (mark : AndOr) (relation : PackedRelation) (gs : List (List PackedRelation)) → P relation
    → AllByRecursion (AllByRecursion P) gs → AllByRecursion (AllByRecursion P) (cut_before mark (at_front relation gs))
groups_ok P And relation [] h ok = ((h, tt), tt)
groups_ok P And relation (g ∷ gs) h ok = ((h, ok.0), ok.1)
groups_ok P Or relation [] h ok = (tt, ((h, tt), tt))
groups_ok P Or relation (g ∷ gs) h ok = (tt, ((h, ok.0), ok.1))

-- what holds of all relations holds of those in each group
all_groups_ok : (P : PackedRelation → Type 0) (relations : List PackedRelation) → AllByRecursion P relations
    → AllByRecursion (AllByRecursion P) (groups relations)
all_groups_ok P [] ok = (tt, tt)
all_groups_ok P (relation ∷ relations) ok =
    groups_ok P relation.and_or relation (groups relations) ok.0 (all_groups_ok P relations ok.1)

-- the two premises say that every relation agrees
agree : (number : Operands) (relations : List PackedRelation) → (number.w ≡ 0) ⊎ IsTrue (has_no_negated_n relations)
    → AllByRecursion (Agrees number) relations
agree number [] ok = tt
agree number (relation ∷ relations) (inl whole) = (inl whole, agree number relations (inl whole))
agree number (relation ∷ relations) (inr never) =
    let test = λ (r : PackedRelation). not (is_negated_n r.meaning.operator r.meaning.operand) in (
      inr (not_true (is_negated_n relation.meaning.operator relation.meaning.operand)
          (first_so (test relation) (list_all test relations) never)),
      agree number relations (inr (second_so (test relation) (list_all test relations) never)),
    )
  where
    not_true : (b : Bool) → not b ≡ true → b ≡ false
    not_true true h = cc
    not_true false h = refl

-- the groups of the tree have the same truth as the relations' groups
groups_alike : (number : Operands) (relations : List PackedRelation) → (number.w ≡ 0) ⊎ IsTrue (has_no_negated_n relations)
    → is_true_of (tree_relation_truth number) (unpacked_groups relations) ≡ some_group (is_true_at number) (groups relations)
groups_alike number [] ok = refl
groups_alike number (relation ∷ relations) ok =
    let all : List PackedRelation = relation ∷ relations in
    let f = first_group all in
    ap (λ gs. is_true_of (tree_relation_truth number) (map (map unpacked_relation) gs)) f.is
    ∙ ap (λ gs. some_group (tree_relation_truth number) (map (map unpacked_relation) gs)) (sym f.is)
    ∙ same_groups number (groups all) (all_groups_ok (Agrees number) all (agree number all ok))

-- the tree of relations has the same truth as the relations, if the fraction is zero or no `!=`
-- tests n
pub tree_truth-unpacked : (number : Operands) (relations : List PackedRelation)
    → (number.w ≡ 0) ⊎ IsTrue (has_no_negated_n relations) → tree_truth number (unpacked relations) ≡ packed_truth number relations
unfolding unpacked packed_truth
tree_truth-unpacked number relations ok = ap (is_true_of (tree_relation_truth number)) (wrapped (unpacked_groups relations))
    ∙ groups_alike number relations ok
