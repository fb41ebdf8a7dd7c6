-- The relations of a packed rule, and its groups (UTS 35 Part 3, Plural Rules Syntax:
-- and-conditions joined by `or`).
use Rattle.std.specs.Prelude.{◌≡◌, ◌<◌, ◌^◌, List, [], ◌∷◌, ℕ, ◌+◌, ◌++◌, map, flat_map, ◌-◌, ◌%◌, length, slice_index, Bool}
use Rattle.std.specs.Prelude.{if◌then◌else◌, ◌==◌, ◌&&◌, nat_lt, nat_le, not, Option, Some, None, nat_eq, codes}
use Rattle.std.specs.Fmt.{decimal}
use Rattle.std.specs.List.{AllByRecursion}
use Rattle.plural_reference.specs.Truth.{RelationMeaning}
use Rattle.plural_runtime.specs.declared.kinds.AndOr.{AndOr}
use Rattle.plural_runtime.specs.declared.kinds.AndOr.TheVariants.{And, Or}
use Rattle.std.specs.Int.{w32, to_le_bytes}
use Rattle.packed_list.specs.ListBytes.{ListBytes, list_bytes, HasFault, list_error_text}
use Rattle.plural_operands.specs.declared.operand.Operand.{Operand}
use Rattle.plural_operands.specs.declared.operand.Operand.TheVariants.{N, I, V, W, F, T, C, E}
use Rattle.plural_reference.specs.declared.ast.Operator.{Operator}
use Rattle.plural_reference.specs.declared.ast.Operator.TheVariants.{Eq, NotEq}
use Rattle.plural_runtime.specs.declared.error.RuleBytesError.{RuleBytesError}
use Rattle.plural_runtime.specs.declared.error.RuleBytesError.TheVariants as errors
use Rattle.std.specs.Cmp.Lexicographic.{pointwise}

-- a relation of a packed rule: how it is joined to the previous one, and what it says
pub record PackedRelation : Type 0 where
  pub and_or : AndOr
  pub meaning : RelationMeaning

-- the numbers of a relation fit the four bytes of each
pub record FitsBytes (relation : PackedRelation) : Type 0 where
  pub modulus : relation.meaning.modulus < 2 ^ 32
  pub ranges : AllByRecursion (λ range. (range.0 < 2 ^ 32) × (range.1 < 2 ^ 32)) relation.meaning.ranges

-- a list of groups, with a relation at the front of its first group
abbrev pub at_front : PackedRelation → List (List PackedRelation) → List (List PackedRelation)
at_front relation [] = (relation ∷ []) ∷ []
at_front relation (group ∷ groups) = (relation ∷ group) ∷ groups

-- a new group before a relation marked Or
abbrev pub cut_before : AndOr → List (List PackedRelation) → List (List PackedRelation)
cut_before And groups = groups
cut_before Or groups = [] ∷ groups

-- the relations cut before each one marked Or: the first group is what is before the first of
-- these, and may be empty
abbrev pub groups : List PackedRelation → List (List PackedRelation)
groups [] = [] ∷ []
groups (relation ∷ relations) = cut_before relation.and_or (at_front relation (groups relations))

-- ---- The bytes of a rule: a packed list whose items are its relations.

-- bit 7 of a relation's first byte
abbrev pub and_or_bit : AndOr → ℕ
and_or_bit Or = 0
and_or_bit And = 128

-- bit 6
abbrev pub operator_bit : Operator → ℕ
operator_bit NotEq = 0
operator_bit Eq = 64

-- bits 0 to 5
abbrev pub operand_number : Operand → ℕ
operand_number N = 0
operand_number I = 1
operand_number V = 2
operand_number W = 3
operand_number F = 4
operand_number T = 5
operand_number C = 6
operand_number E = 7

abbrev pub first_byte : AndOr → Operator → Operand → ℕ
first_byte and_or operator operand = and_or_bit and_or + operator_bit operator + operand_number operand

-- how many bytes a relation has before its ranges: the first byte and the modulus
abbrev pub head_length : ℕ
head_length = 5

-- how many bytes a range has: both its ends
abbrev pub range_length : ℕ
range_length = 8

-- both ends of a range, each as four bytes, low byte first
abbrev pub range_bytes : ℕ × ℕ → List ℕ
range_bytes range = to_le_bytes w32 range.0 ++ to_le_bytes w32 range.1

-- the first byte, the modulus as four bytes, and the ranges
unfoldable pub relation_bytes : PackedRelation → List ℕ
relation_bytes relation =
    first_byte relation.and_or relation.meaning.operator relation.meaning.operand
    ∷ (to_le_bytes w32 relation.meaning.modulus ++ flat_map range_bytes relation.meaning.ranges)

-- the bytes of the relations
abbrev pub packed_bytes : List PackedRelation → List ℕ
packed_bytes relations = list_bytes (map relation_bytes relations)

-- the bytes encode the relations
pub record RuleBytes (relations : List PackedRelation) (bytes : List ℕ) : Type 0 where
  pub fit : AllByRecursion FitsBytes relations
  pub packed : ListBytes (map relation_bytes relations) bytes

-- ---- What is wrong with the items of a packed list that isn't a rule.

-- a count of bytes is that of whole ranges
abbrev pub is_whole : ℕ → Bool
is_whole n = n % range_length == 0

-- an item's length is that of the head and of whole ranges
abbrev pub is_item_length : ℕ → Bool
is_item_length n = nat_le head_length n && is_whole (n - head_length)

-- an item is a relation: its length, and the operand in bits 0 to 5 of its first byte
abbrev pub is_relation : List ℕ → Bool
is_relation item = is_item_length (length item) && nat_le (slice_index item 0 % 64) 7

-- the fault of the item at a place: its length before its operand
abbrev pub relation_fault : ℕ → List ℕ → Option RuleBytesError
relation_fault place item =
    if not (is_item_length (length item)) then Some (errors.ItemLength place)
    else (if nat_lt 7 (slice_index item 0 % 64) then Some (errors.Operand place) else None)

abbrev pub or_else : Option RuleBytesError → Option RuleBytesError → Option RuleBytesError
or_else None other = other
or_else (Some fault) other = Some fault

-- the fault of the first bad item, if there is one; the first item is at the given place
abbrev pub first_relation_fault : ℕ → List (List ℕ) → Option RuleBytesError
first_relation_fault place [] = None
first_relation_fault place (item ∷ items) = or_else (relation_fault place item) (first_relation_fault (place + 1) items)

-- bytes are refused as a rule with a fault: they aren't a packed list, or it is that of the first
-- bad item
abbrev pub HasRuleFault : List ℕ → RuleBytesError → Type 0
HasRuleFault bytes (errors.List fault) = HasFault bytes fault
HasRuleFault bytes fault = (items : List (List ℕ)) × ListBytes items bytes × (first_relation_fault 0 items ≡ Some fault)

-- why bytes aren't a rule, as the error prints it
abbrev pub rule_bytes_error_text : RuleBytesError → List ℕ
rule_bytes_error_text (errors.List fault) = list_error_text fault
rule_bytes_error_text (errors.ItemLength place) = codes "bad length of relation " ++ decimal place
rule_bytes_error_text (errors.Operand place) = codes "bad operand of relation " ++ decimal place

-- ---- When two packed relations are equal.

-- what a relation is made of, as numbers: its mark, its operator, its operand, its modulus and both
-- ends of its ranges
abbrev pub relation_numbers : PackedRelation → List ℕ
relation_numbers relation =
    and_or_bit relation.and_or ∷ operator_bit relation.meaning.operator ∷ operand_number relation.meaning.operand ∷ relation.meaning.modulus
    ∷ flat_map (λ range. range.0 ∷ range.1 ∷ []) relation.meaning.ranges

-- all of these numbers are equal
abbrev pub is_same_relation : PackedRelation → PackedRelation → Bool
is_same_relation relation other = pointwise nat_eq (relation_numbers relation) (relation_numbers other)
