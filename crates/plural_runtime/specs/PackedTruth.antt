-- When a packed rule is true of six operand numbers: a group of its relations is all true.
use Rattle.std.specs.Prelude.{List, Bool, ℕ, [], ◌∷◌, ◌++◌, length, not, if◌then◌else◌, Option, Some, None, option_map, sum_by, count_by}
use Rattle.std.specs.List.{list_all, list_any}
use Rattle.plural_operands.specs.Operands.{Operands}
use Rattle.plural_reference.specs.Truth.{relation_truth, some_group, is_in_ranges, remainder, RelationMeaning}
use Rattle.plural_operands.specs.Operands.{operand_value}
use Rattle.plural_runtime.specs.PackedRelations.{PackedRelation, groups}

-- a relation is true: a modulus 0 is none, and n has no value if w isn't 0, and so is in no list
abbrev pub is_true_at : Operands → PackedRelation → Bool
is_true_at number relation = relation_truth number relation.meaning

-- all relations of a group are true
abbrev pub group_truth : Operands → List PackedRelation → Bool
group_truth number group = list_all (is_true_at number) group

-- all relations of some group are true
unfoldable pub packed_truth : Operands → List PackedRelation → Bool
packed_truth number relations = some_group (is_true_at number) (groups relations)

-- ---- How many ranges of a packed rule are needed to tell whether it is true. A range is needed if
-- no earlier group is true, all earlier relations of its group are true, its operand has a value,
-- and no earlier range of its list holds that value.

-- each member of a list, with those before it
abbrev pub with_earlier_from : {A : Type 0} → List A → List A → List (List A × A)
with_earlier_from earlier [] = []
with_earlier_from earlier (member ∷ members) = (earlier, member) ∷ with_earlier_from (earlier ++ member ∷ []) members

abbrev pub with_earlier : {A : Type 0} → List A → List (List A × A)
with_earlier members = with_earlier_from [] members

-- how many ranges of a list are needed: those before which none holds the value
abbrev pub needed_of_list : List (ℕ × ℕ) → ℕ → ℕ
needed_of_list ranges value = count_by (λ at. not (is_in_ranges at.0 value)) (with_earlier ranges)

-- without a value none is needed
abbrev pub needed_of_value : List (ℕ × ℕ) → Option ℕ → ℕ
needed_of_value ranges None = 0
needed_of_value ranges (Some value) = needed_of_list ranges value

-- how many ranges of a relation are needed, if it is looked at
abbrev pub needed_of_relation : Operands → RelationMeaning → ℕ
needed_of_relation number relation =
    needed_of_value relation.ranges (option_map (remainder relation.modulus) (operand_value relation.operand number))

-- how many ranges of a group are needed: the ranges of the relations before which all are true
abbrev pub needed_of_group : Operands → List PackedRelation → ℕ
needed_of_group number group =
    sum_by (λ at. if group_truth number at.0 then needed_of_relation number at.1.meaning else 0) (with_earlier group)

-- how many ranges of a rule are needed: the ranges of the groups before which none is true
unfoldable pub needed_ranges : Operands → List PackedRelation → ℕ
needed_ranges number relations =
    sum_by (λ at. if list_any (group_truth number) at.0 then 0 else needed_of_group number at.1) (with_earlier (groups relations))

-- all ranges of a rule
abbrev pub range_count : List PackedRelation → ℕ
range_count relations = sum_by (λ relation. length relation.meaning.ranges) relations
