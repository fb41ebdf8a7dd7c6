-- The relations that a tree is packed to, and the tree of relations.
use Rattle.std.specs.Prelude.{ℕ, List, [], ◌∷◌, ◌++◌, map, flat_map, Bool, if◌then◌else◌, ◌==◌, Option, Some, None, nat_lt, true}
use Rattle.std.specs.Prelude.{false, not, ◌||◌, ◌≡◌, ◌⊎◌, Result, Ok, Err}
use Rattle.std.specs.List.{list_any, list_all}
use Rattle.plural_reference.specs.declared.ast.Condition.{Condition}
use Rattle.plural_reference.specs.declared.ast.Relation.{Relation}
use Rattle.plural_reference.specs.declared.ast.Value.{Value}
use Rattle.plural_operands.specs.declared.operand.Operand.{Operand}
use Rattle.plural_operands.specs.declared.operand.Operand.TheVariants.{N}
use Rattle.plural_reference.specs.declared.ast.Operator.{Operator}
use Rattle.plural_reference.specs.declared.ast.Operator.TheVariants.{NotEq}
use Rattle.plural_reference.specs.declared.ast.RangeListItem.{RangeListItem}
use Rattle.plural_reference.specs.declared.ast.RangeListItem.TheVariants as items
use Rattle.plural_reference.specs.Truth.{meaning_of, groups_of, RelationMeaning}
use Rattle.plural_runtime.specs.declared.kinds.AndOr.{AndOr}
use Rattle.plural_runtime.specs.declared.kinds.AndOr.TheVariants.{And, Or}
use Rattle.plural_runtime.specs.PackedRelations.{PackedRelation, groups, relation_bytes}
use Rattle.packed_list.specs.ListBytes.{has_high_start}
use Rattle.plural_reference.specs.declared.error.ParseError.TheVariants.{ValueTooLarge}
use Rattle.plural_runtime.specs.declared.error.RuleError.{RuleError}
use Rattle.plural_runtime.specs.declared.error.RuleError.TheVariants.{Parse, StartLimit, Memory}

-- ---- Packing

-- a relation of a tree with a mark: a value is a range of equal ends, and no modulus is 0
abbrev pub packed_relation : AndOr → Relation → PackedRelation
packed_relation and_or relation = record { and_or = and_or; meaning = meaning_of relation }

-- an and-condition whose first relation has a mark, and the others And
abbrev pub packed_and_condition : AndOr → List Relation → List PackedRelation
packed_and_condition and_or [] = []
packed_and_condition and_or (relation ∷ relations) = packed_relation and_or relation ∷ map (packed_relation And) relations

-- the relations of all and-conditions in order: the first one of each and-condition after the first
-- place is marked Or, all others And
abbrev pub packed_groups : List (List Relation) → List PackedRelation
packed_groups [] = []
packed_groups (first ∷ others) = packed_and_condition And first ++ flat_map (packed_and_condition Or) others

-- the relations of a tree
unfoldable pub packed : Condition → List PackedRelation
packed condition = packed_groups (groups_of condition)

-- whether a value is above what four bytes hold
abbrev pub is_large : Value → Bool
is_large value = nat_lt 4294967295 value.0

abbrev pub is_large_item : RangeListItem → Bool
is_large_item (items.Range start end) = is_large start || is_large end
is_large_item (items.Value value) = is_large value

abbrev pub is_large_modulus : Option Value → Bool
is_large_modulus None = false
is_large_modulus (Some modulus) = is_large modulus

abbrev pub is_large_relation : Relation → Bool
is_large_relation relation = is_large_modulus relation.expression.modulus || list_any is_large_item relation.range_list.0

-- whether some value of a tree is above what four bytes hold
unfoldable pub has_large_value : Condition → Bool
has_large_value condition = list_any (λ group. list_any is_large_relation group.0) condition.0

-- ---- Unpacking

-- equal ends are a value
abbrev pub unpacked_range : ℕ × ℕ → RangeListItem
unpacked_range range = if range.0 == range.1 then items.Value (record { 0 = range.0 })
    else items.Range (record { 0 = range.0 }) (record { 0 = range.1 })

-- modulus 0 is none
abbrev pub unpacked_modulus : ℕ → Option Value
unpacked_modulus modulus = if modulus == 0 then None else Some (record { 0 = modulus })

abbrev pub unpacked_meaning : RelationMeaning → Relation
unpacked_meaning relation = record {
  expression = record { operand = relation.operand; modulus = unpacked_modulus relation.modulus };
  operator = relation.operator;
  range_list = record { 0 = map unpacked_range relation.ranges };
}

abbrev pub unpacked_relation : PackedRelation → Relation
unpacked_relation relation = unpacked_meaning relation.meaning

-- the condition of groups
abbrev pub condition_of_groups : List (List Relation) → Condition
condition_of_groups groups = record { 0 = map (λ group. record { 0 = group }) groups }

-- the groups as and-conditions, none for no relation
abbrev pub unpacked_groups : List PackedRelation → List (List Relation)
unpacked_groups [] = []
unpacked_groups (relation ∷ relations) = map (map unpacked_relation) (groups (relation ∷ relations))

-- the tree of relations
unfoldable pub unpacked : List PackedRelation → Condition
unpacked relations = condition_of_groups (unpacked_groups relations)

-- ---- When a rule and its tree have the same truth

-- a relation tests that n isn't in its list
abbrev pub is_negated_n : Operator → Operand → Bool
is_negated_n NotEq N = true
is_negated_n _ _ = false

-- no relation of a rule does so
abbrev pub has_no_negated_n : List PackedRelation → Bool
has_no_negated_n relations = list_all (λ relation. not (is_negated_n relation.meaning.operator relation.meaning.operand)) relations

-- ---- The result of packing a tree.

-- the relations of a tree, or why it can't be packed: a value above 32 bits anywhere in it, else a
-- start above 65535
unfoldable pub packing : Condition → Result (List PackedRelation) RuleError
packing condition =
    if has_large_value condition then Err (Parse ValueTooLarge)
    else (if has_high_start (map relation_bytes (packed condition)) then Err StartLimit else Ok (packed condition))

-- this is the result, or out of memory
abbrev pub Packs : Condition → Result (List PackedRelation) RuleError → Type 0
Packs condition result = (result ≡ packing condition) ⊎ (result ≡ Err Memory)
