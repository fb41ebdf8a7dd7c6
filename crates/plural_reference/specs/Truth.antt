-- When a relation holds and when a condition is true (UTS 35 Part 3, Plural Rules Syntax), in words
-- that serve every form of a rule: a tree, packed relations, and the exact number.
use Rattle.std.specs.Prelude.{ℕ, ◌%◌, ◌==◌, ◌&&◌, List, [], ◌∷◌, map, Bool, true, false, not, nat_le, if◌then◌else◌, Option, Some}
use Rattle.std.specs.Prelude.{None, option_map}
use Rattle.std.specs.List.{list_any, list_all}
use Rattle.plural_reference.specs.declared.ast.Condition.{Condition}
use Rattle.plural_operands.specs.declared.operand.Operand.{Operand}
use Rattle.plural_reference.specs.declared.ast.Operator.{Operator}
use Rattle.plural_reference.specs.declared.ast.Operator.TheVariants.{Eq, NotEq}
use Rattle.plural_reference.specs.declared.ast.RangeList.{RangeList}
use Rattle.plural_reference.specs.declared.ast.RangeListItem.{RangeListItem}
use Rattle.plural_reference.specs.declared.ast.RangeListItem.TheVariants as items
use Rattle.plural_reference.specs.declared.ast.Relation.{Relation}
use Rattle.plural_reference.specs.declared.ast.Value.{Value}
use Rattle.plural_operands.specs.Operands.{Operands, operand_value}
use Rattle.plural_reference.specs.declared.ast.Expression.{Expression}

-- ---- A value in ranges

-- a range holds the values between its ends, the ends included; none, if the first end is above the
-- second
abbrev pub range_holds : ℕ → ℕ × ℕ → Bool
range_holds value range = nat_le range.0 value && nat_le value range.1

-- some range of the list holds the value
abbrev pub is_in_ranges : List (ℕ × ℕ) → ℕ → Bool
is_in_ranges ranges value = list_any (range_holds value) ranges

-- the list holds a value that may be absent: then it doesn't
abbrev pub holds_value : List (ℕ × ℕ) → Option ℕ → Bool
holds_value ranges None = false
holds_value ranges (Some value) = is_in_ranges ranges value

-- the remainder of a value by a modulus; there is none by 0
abbrev pub remainder : ℕ → ℕ → ℕ
remainder modulus value = if modulus == 0 then value else (value % modulus)

-- ---- A relation

-- what a relation says, in whichever form it is written: a single value is a range of equal ends,
-- and no modulus is 0
pub record RelationMeaning : Type 0 where
  pub operand : Operand
  pub modulus : ℕ
  pub operator : Operator
  pub ranges : List (ℕ × ℕ)

-- `=` holds in the list, `!=` holds outside it
abbrev pub under : Operator → Bool → Bool
under Eq is_in = is_in
under NotEq is_in = not is_in

-- the relation holds at six operand numbers
abbrev pub relation_truth : Operands → RelationMeaning → Bool
relation_truth number relation =
    under relation.operator (holds_value relation.ranges (option_map (remainder relation.modulus) (operand_value relation.operand number)))

-- ---- Groups

-- all members of some group pass
abbrev pub some_group : {A : Type 0} → (A → Bool) → List (List A) → Bool
some_group test groups = list_any (list_all test) groups

-- there is no group, or all members of some group pass
abbrev pub is_true_of : {A : Type 0} → (A → Bool) → List (List A) → Bool
is_true_of test [] = true
is_true_of test (group ∷ groups) = some_group test (group ∷ groups)

-- ---- The relations of a tree

-- both ends of an item
abbrev pub ends_of : RangeListItem → ℕ × ℕ
ends_of (items.Range start end) = (start.0, end.0)
ends_of (items.Value value) = (value.0, value.0)

-- the ranges of a list
abbrev pub ranges_of : RangeList → List (ℕ × ℕ)
ranges_of list = map ends_of list.0

-- no modulus is 0
abbrev pub modulus_of : Option Value → ℕ
modulus_of None = 0
modulus_of (Some modulus) = modulus.0

-- what a relation of a tree says
abbrev pub meaning_of : Relation → RelationMeaning
meaning_of relation = record {
  operand = relation.expression.operand;
  modulus = modulus_of relation.expression.modulus;
  operator = relation.operator;
  ranges = ranges_of relation.range_list;
}

-- the groups of a condition
abbrev pub groups_of : Condition → List (List Relation)
groups_of condition = map (λ group. group.0) condition.0

-- ---- When a condition, as a tree, is true at six operand numbers.

-- a modulus is present and is 0
abbrev pub is_zero_modulus : Option Value → Bool
is_zero_modulus None = false
is_zero_modulus (Some modulus) = modulus.0 == 0

-- the value of an expression: none of n if w isn't 0, and none by a modulus 0
abbrev pub tree_value : Operands → Expression → Option ℕ
tree_value number expression =
    if is_zero_modulus expression.modulus then None
    else option_map (remainder (modulus_of expression.modulus)) (operand_value expression.operand number)

-- without a value a relation of a tree is false, under `!=` too
abbrev pub holds_by : Relation → Option ℕ → Bool
holds_by relation None = false
holds_by relation (Some value) = under relation.operator (is_in_ranges (ranges_of relation.range_list) value)

-- the relation of a tree is true of the operands
abbrev pub tree_relation_truth : Operands → Relation → Bool
tree_relation_truth number relation = holds_by relation (tree_value number relation.expression)

-- the condition is true of the operands
abbrev pub tree_truth : Operands → Condition → Bool
tree_truth number condition = is_true_of (tree_relation_truth number) (groups_of condition)
