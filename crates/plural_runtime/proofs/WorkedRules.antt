-- The definitions at worked examples.
use Rattle.std.proofs.Common.{◌≡◌, ℕ, List, [], ◌∷◌, refl, true, false, Some, None, codes}
use Rattle.std.specs.Fmt.{digits}
use Rattle.packed_list.specs.Inner.ListReading.{items_in}
use Rattle.plural_operands.specs.Operands.{Operands}
use Rattle.plural_reference.specs.declared.ast.Condition.{Condition}
use Rattle.plural_reference.specs.declared.ast.Relation.{Relation}
use Rattle.plural_reference.specs.declared.ast.Operator.TheVariants.{Eq, NotEq}
use Rattle.plural_operands.specs.declared.operand.Operand.TheVariants.{N, I, V}
use Rattle.plural_reference.specs.declared.ast.RangeListItem.TheVariants as item
use Rattle.plural_reference.specs.Serializer.{condition_text}
use Rattle.plural_reference.specs.Truth.{tree_truth}
use Rattle.plural_runtime.specs.declared.kinds.AndOr.TheVariants.{And, Or}
use Rattle.plural_runtime.specs.declared.error.RuleBytesError.TheVariants as errors
use Rattle.plural_runtime.specs.PackedRelations.{PackedRelation, relation_bytes, packed_bytes, range_bytes, first_relation_fault}
use Rattle.plural_runtime.specs.Inner.RuleReading.{relation_in, relations_in}
use Rattle.plural_runtime.specs.PackedTruth.{packed_truth, needed_ranges}
use Rattle.plural_runtime.specs.PackedTree.{packed, unpacked, condition_of_groups, has_large_value}

-- a whole number
abbrev whole : ℕ → Operands
whole n = record { i = n; v = 0; w = 0; f = 0; t = 0; c = 0 }

-- a number with one fraction digit that isn't 0
abbrev with_digit : ℕ → ℕ → Operands
with_digit n digit = record { i = n; v = 1; w = 1; f = digit; t = digit; c = 0 }

-- `i = 1 or v = 0`
abbrev one_or_whole : List PackedRelation
one_or_whole =
    record { and_or = And; meaning = record { operand = I; modulus = 0; operator = Eq; ranges = (1, 1) ∷ [] } }
    ∷ record { and_or = Or; meaning = record { operand = V; modulus = 0; operator = Eq; ranges = (0, 0) ∷ [] } } ∷ []

-- its bytes
abbrev one_or_whole_bytes : List ℕ
one_or_whole_bytes = 2 ∷ 0 ∷ 13 ∷ 0 ∷ 193 ∷ 0 ∷ 0 ∷ 0 ∷ 0 ∷ 1 ∷ 0 ∷ 0 ∷ 0 ∷ 1 ∷ 0 ∷ 0 ∷ 0 ∷ 66 ∷ 0 ∷ 0 ∷ 0 ∷ 0 ∷ 0 ∷ 0 ∷ 0 ∷ 0 ∷ 0
    ∷ 0 ∷ 0 ∷ 0 ∷ []

-- it is packed to these
one_or_whole_packed : packed_bytes one_or_whole ≡ one_or_whole_bytes
unfolding relation_bytes
one_or_whole_packed = refl

-- and read from them again
one_or_whole_read : relations_in one_or_whole_bytes ≡ one_or_whole
unfolding relations_in relation_in items_in
one_or_whole_read = refl

-- `n = 1`
vector_n : packed_bytes (record {
  and_or = And;
  meaning =
      record { operand = N; modulus = 0; operator = Eq; ranges = (1, 1) ∷ [] };
} ∷ [])
    ≡ 1 ∷ 0 ∷ 192 ∷ 0 ∷ 0 ∷ 0 ∷ 0 ∷ 1 ∷ 0 ∷ 0 ∷ 0 ∷ 1 ∷ 0 ∷ 0 ∷ 0 ∷ []
unfolding relation_bytes
vector_n = refl

-- a range of equal ends, as a value is packed
vector_value : range_bytes (1, 1) ≡ 1 ∷ 0 ∷ 0 ∷ 0 ∷ 1 ∷ 0 ∷ 0 ∷ 0 ∷ []
vector_value = refl

-- a range of two ends
vector_range : range_bytes (2, 4) ≡ 2 ∷ 0 ∷ 0 ∷ 0 ∷ 4 ∷ 0 ∷ 0 ∷ 0 ∷ []
vector_range = refl

-- `n % 10 = 3..4, 9 and n % 100 != 10..19, 70..79, 90..99 or n = 0`
abbrev long_rule : List PackedRelation
long_rule =
    record { and_or = And; meaning = record { operand = N; modulus = 10; operator = Eq; ranges = (3, 4) ∷ (9, 9) ∷ [] } }
    ∷ record {
      and_or = And;
      meaning =
          record { operand = N; modulus = 100; operator = NotEq; ranges = (10, 19) ∷ (70, 79) ∷ (90, 99) ∷ [] };
    }
    ∷ record { and_or = Or; meaning = record { operand = N; modulus = 0; operator = Eq; ranges = (0, 0) ∷ [] } } ∷ []

-- its bytes
abbrev long_rule_bytes : List ℕ
long_rule_bytes = 3 ∷ 0 ∷ 21 ∷ 0 ∷ 50 ∷ 0 ∷ 192 ∷ 10 ∷ 0 ∷ 0 ∷ 0 ∷ 3 ∷ 0 ∷ 0 ∷ 0 ∷ 4 ∷ 0 ∷ 0 ∷ 0 ∷ 9 ∷ 0 ∷ 0 ∷ 0 ∷ 9 ∷ 0 ∷ 0 ∷ 0
    ∷ 128 ∷ 100 ∷ 0 ∷ 0 ∷ 0 ∷ 10 ∷ 0 ∷ 0 ∷ 0 ∷ 19 ∷ 0 ∷ 0 ∷ 0 ∷ 70 ∷ 0 ∷ 0 ∷ 0 ∷ 79 ∷ 0 ∷ 0 ∷ 0 ∷ 90 ∷ 0 ∷ 0 ∷ 0 ∷ 99 ∷ 0 ∷ 0 ∷ 0
    ∷ 64 ∷ 0 ∷ 0 ∷ 0 ∷ 0 ∷ 0 ∷ 0 ∷ 0 ∷ 0 ∷ 0 ∷ 0 ∷ 0 ∷ 0 ∷ []

-- it is packed to these
long_rule_packed : packed_bytes long_rule ≡ long_rule_bytes
unfolding relation_bytes
long_rule_packed = refl

-- and read from them again
long_rule_read : relations_in long_rule_bytes ≡ long_rule
unfolding relations_in relation_in items_in
long_rule_read = refl

-- and printed so
long_rule_text : condition_text (unpacked long_rule) ≡ codes "n % 10 = 3..4, 9 and n % 100 != 10..19, 70..79, 90..99 or n = 0"
unfolding unpacked digits
long_rule_text = refl

-- 0 is in the last group: true after three ranges
truth_at_0 : packed_truth (whole 0) long_rule ≡ true
unfolding packed_truth
truth_at_0 = refl

-- two of the first relation and one of the last
steps_at_0 : needed_ranges (whole 0) long_rule ≡ 3
unfolding needed_ranges
steps_at_0 = refl

-- 13 ends in 3 and is in the teens: false
truth_at_13 : packed_truth (whole 13) long_rule ≡ false
unfolding packed_truth
truth_at_13 = refl

-- one range of each relation
steps_at_13 : needed_ranges (whole 13) long_rule ≡ 3
unfolding needed_ranges
steps_at_13 = refl

-- 103 ends in 3 and is outside the second list: true
truth_at_103 : packed_truth (whole 103) long_rule ≡ true
unfolding packed_truth
truth_at_103 = refl

-- one range of the first relation and all three of the second
steps_at_103 : needed_ranges (whole 103) long_rule ≡ 4
unfolding needed_ranges
steps_at_103 = refl

-- 113 is in the teens: false
truth_at_113 : packed_truth (whole 113) long_rule ≡ false
unfolding packed_truth
truth_at_113 = refl

-- one range of each relation
steps_at_113 : needed_ranges (whole 113) long_rule ≡ 3
unfolding needed_ranges
steps_at_113 = refl

-- 178 ends in 8: false
truth_at_178 : packed_truth (whole 178) long_rule ≡ false
unfolding packed_truth
truth_at_178 = refl

-- two ranges of the first relation and one of the last
steps_at_178 : needed_ranges (whole 178) long_rule ≡ 3
unfolding needed_ranges
steps_at_178 = refl

-- 3.5 is in no list of n: false
truth_at_fraction : packed_truth (with_digit 3 5) long_rule ≡ false
unfolding packed_truth
truth_at_fraction = refl

-- and no range is tested
steps_at_fraction : needed_ranges (with_digit 3 5) long_rule ≡ 0
unfolding needed_ranges
steps_at_fraction = refl

-- a relation marked Or at the front, without ranges
abbrev marked_or_bytes : List ℕ
marked_or_bytes = 1 ∷ 0 ∷ 65 ∷ 0 ∷ 0 ∷ 0 ∷ 0 ∷ []

-- the relation in them
abbrev marked_or : List PackedRelation
marked_or = record { and_or = Or; meaning = record { operand = I; modulus = 0; operator = Eq; ranges = [] } } ∷ []

-- it is read from the bytes
marked_or_read : relations_in marked_or_bytes ≡ marked_or
unfolding relations_in relation_in items_in
marked_or_read = refl

-- the group before it is empty, so the rule is true
marked_or_truth : packed_truth (whole 5) marked_or ≡ true
unfolding packed_truth
marked_or_truth = refl

-- without a test of the relation
marked_or_steps : needed_ranges (whole 5) marked_or ≡ 0
unfolding needed_ranges
marked_or_steps = refl

-- its text begins with ` or `
marked_or_text : condition_text (unpacked marked_or) ≡ codes " or i = "
unfolding unpacked digits
marked_or_text = refl

-- and its tree packs to it again
marked_or_tree_packs : packed (unpacked marked_or) ≡ marked_or
unfolding packed unpacked
marked_or_tree_packs = refl

-- ---- refusals

-- an item without bytes has a bad length
short_item : first_relation_fault 0 (items_in (1 ∷ 0 ∷ [])) ≡ Some (errors.ItemLength 0)
unfolding items_in
short_item = refl

-- the first byte 200 names no operand
no_operand : first_relation_fault 0 (items_in (1 ∷ 0 ∷ 200 ∷ 0 ∷ 0 ∷ 0 ∷ 0 ∷ [])) ≡ Some (errors.Operand 0)
unfolding items_in
no_operand = refl

-- the first of three short items is named
three_items : first_relation_fault 0 (items_in (3 ∷ 0 ∷ 2 ∷ 0 ∷ 2 ∷ 0 ∷ 97 ∷ 98 ∷ 99 ∷ 100 ∷ [])) ≡ Some (errors.ItemLength 0)
unfolding items_in
three_items = refl

-- a rule has no bad item
no_fault : first_relation_fault 0 (items_in one_or_whole_bytes) ≡ None
unfolding items_in
no_fault = refl

-- ---- the empty rule

-- a rule without relations is true
empty_truth : packed_truth (whole 7) [] ≡ true
unfolding packed_truth
empty_truth = refl

-- and has the empty text
empty_text : condition_text (unpacked []) ≡ []
unfolding unpacked digits
empty_text = refl

-- ---- beginnings of `i = 1 or v = 0`

-- the first 22 bytes: the second relation has no range
front_22 : condition_text (unpacked
    (relations_in (2 ∷ 0 ∷ 13 ∷ 0 ∷ 193 ∷ 0 ∷ 0 ∷ 0 ∷ 0 ∷ 1 ∷ 0 ∷ 0 ∷ 0 ∷ 1 ∷ 0 ∷ 0 ∷ 0 ∷ 66 ∷ 0 ∷ 0 ∷ 0 ∷ 0 ∷ [])))
    ≡ codes "i = 1 or v = "
unfolding unpacked digits relations_in relation_in items_in
front_22 = refl

-- 17 bytes: the second item is empty
front_17 : first_relation_fault 0 (items_in (2 ∷ 0 ∷ 13 ∷ 0 ∷ 193 ∷ 0 ∷ 0 ∷ 0 ∷ 0 ∷ 1 ∷ 0 ∷ 0 ∷ 0 ∷ 1 ∷ 0 ∷ 0 ∷ 0 ∷ []))
    ≡ Some (errors.ItemLength 1)
unfolding items_in
front_17 = refl

-- 18 bytes: it has one byte
front_18 : first_relation_fault 0 (items_in (2 ∷ 0 ∷ 13 ∷ 0 ∷ 193 ∷ 0 ∷ 0 ∷ 0 ∷ 0 ∷ 1 ∷ 0 ∷ 0 ∷ 0 ∷ 1 ∷ 0 ∷ 0 ∷ 0 ∷ 66 ∷ []))
    ≡ Some (errors.ItemLength 1)
unfolding items_in
front_18 = refl

-- 21 bytes: it has four
front_21 : first_relation_fault 0
    (items_in (2 ∷ 0 ∷ 13 ∷ 0 ∷ 193 ∷ 0 ∷ 0 ∷ 0 ∷ 0 ∷ 1 ∷ 0 ∷ 0 ∷ 0 ∷ 1 ∷ 0 ∷ 0 ∷ 0 ∷ 66 ∷ 0 ∷ 0 ∷ 0 ∷ [])) ≡ Some (errors.ItemLength 1)
unfolding items_in
front_21 = refl

-- 23 bytes: it has a byte of a range
front_23 : first_relation_fault 0
    (items_in (2 ∷ 0 ∷ 13 ∷ 0 ∷ 193 ∷ 0 ∷ 0 ∷ 0 ∷ 0 ∷ 1 ∷ 0 ∷ 0 ∷ 0 ∷ 1 ∷ 0 ∷ 0 ∷ 0 ∷ 66 ∷ 0 ∷ 0 ∷ 0 ∷ 0 ∷ 0 ∷ []))
    ≡ Some (errors.ItemLength 1)
unfolding items_in
front_23 = refl

-- 29 bytes: it lacks a byte of the range
front_29 : first_relation_fault 0
    (items_in (2 ∷ 0 ∷ 13 ∷ 0 ∷ 193 ∷ 0 ∷ 0 ∷ 0 ∷ 0 ∷ 1 ∷ 0 ∷ 0 ∷ 0 ∷ 1 ∷ 0 ∷ 0 ∷ 0 ∷ 66 ∷ 0 ∷ 0 ∷ 0 ∷ 0 ∷ 0 ∷ 0 ∷ 0 ∷ 0 ∷ 0 ∷ 0
    ∷ 0 ∷ [])) ≡ Some (errors.ItemLength 1)
unfolding items_in
front_29 = refl

-- `01008100000000`: `i !=` nothing
abbrev not_in_nothing : List ℕ
not_in_nothing = 1 ∷ 0 ∷ 129 ∷ 0 ∷ 0 ∷ 0 ∷ 0 ∷ []

-- it is printed without ranges
not_in_nothing_text : condition_text (unpacked (relations_in not_in_nothing)) ≡ codes "i != "
unfolding unpacked digits relations_in relation_in items_in
not_in_nothing_text = refl

-- and true, since nothing is in its list
not_in_nothing_truth : packed_truth (whole 1) (relations_in not_in_nothing) ≡ true
unfolding packed_truth relations_in relation_in items_in
not_in_nothing_truth = refl

-- ---- when the tree has another truth

-- `n != 1`
not_one_at_fraction : packed_truth (with_digit 1 5)
    (record { and_or = And; meaning = record { operand = N; modulus = 0; operator = NotEq; ranges = (1, 1) ∷ [] } } ∷ []) ≡ true
unfolding packed_truth
not_one_at_fraction = refl

-- `i % 0 = 5`
abbrev zero_modulus : Condition
zero_modulus = condition_of_groups
    ((record {
      expression = record { operand = I; modulus = Some (record { 0 = 0 }) };
      operator = Eq;
      range_list =
          record { 0 = item.Value (record { 0 = 5 }) ∷ [] };
    } ∷ []) ∷ [])

-- packed, the modulus 0 is none: 5 is 5
zero_modulus_truth : packed_truth (whole 5) (packed zero_modulus) ≡ true
unfolding packed_truth packed
zero_modulus_truth = refl

-- and it is printed without one
zero_modulus_text : condition_text (unpacked (packed zero_modulus)) ≡ codes "i = 5"
unfolding unpacked digits packed
zero_modulus_text = refl

-- ---- an empty and-condition vanishes

-- `i = 1`
abbrev one : Relation
one = record {
  expression = record { operand = I; modulus = None };
  operator = Eq;
  range_list =
      record { 0 = item.Value (record { 0 = 1 }) ∷ [] };
}

-- `v = 0`
abbrev is_whole : Relation
is_whole = record {
  expression = record { operand = V; modulus = None };
  operator = Eq;
  range_list =
      record { 0 = item.Value (record { 0 = 0 }) ∷ [] };
}

-- between two others it leaves no trace
empty_and_condition : packed (condition_of_groups ((one ∷ []) ∷ [] ∷ (is_whole ∷ []) ∷ [])) ≡ one_or_whole
unfolding packed
empty_and_condition = refl

-- `2 ^ 32` is too large for four bytes
too_large : has_large_value (condition_of_groups
    ((record {
      expression = record { operand = I; modulus = None };
      operator = Eq;
      range_list =
          record { 0 = item.Value (record { 0 = 4294967296 }) ∷ [] };
    } ∷ []) ∷ [])) ≡ true
unfolding has_large_value
too_large = refl

-- and the number before it isn't
largest : has_large_value (condition_of_groups
    ((record {
      expression = record { operand = I; modulus = None };
      operator = Eq;
      range_list =
          record { 0 = item.Value (record { 0 = 4294967295 }) ∷ [] };
    } ∷ []) ∷ [])) ≡ false
unfolding has_large_value
largest = refl

-- the tree of `n != 1` is false at a fraction
not_one_tree : tree_truth (with_digit 1 5)
    (condition_of_groups ((record {
      expression = record { operand = N; modulus = None };
      operator = NotEq;
      range_list =
          record { 0 = item.Value (record { 0 = 1 }) ∷ [] };
    } ∷ []) ∷ [])) ≡ false
not_one_tree = refl

-- the tree with a modulus 0 is false
zero_modulus_tree : tree_truth (whole 5) zero_modulus ≡ false
zero_modulus_tree = refl
