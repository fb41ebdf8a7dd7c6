-- Not a definition of the subject: causes as lists that tests make, for private contracts.
use Rattle.std.specs.Prelude.{ℕ, Bool, true, false, ◌&&◌, ◌||◌, List, [], ◌∷◌, ◌++◌, flat_map, nat_le, nat_lt, Option, Some, None, if◌then◌else◌, ◌≡◌}
use Rattle.std.specs.List.{list_all}
use Rattle.plural_reference.specs.Serializer.{relation_text}
use Rattle.plural_reference.specs.declared.ast.AndCondition.{AndCondition}
use Rattle.plural_reference.specs.declared.ast.Condition.{Condition}
use Rattle.plural_reference.specs.declared.ast.Operator.{Operator}
use Rattle.plural_reference.specs.declared.ast.Operator.TheVariants.{Eq, NotEq}
use Rattle.plural_reference.specs.declared.ast.RangeListItem.{RangeListItem}
use Rattle.plural_reference.specs.declared.ast.RangeListItem.TheVariants as items
use Rattle.plural_reference.specs.declared.ast.Relation.{Relation}
use Rattle.plural_reference.specs.declared.ast.Value.{Value}
use Rattle.rule_notes.specs.declared.cause.Cause.{Cause}
use Rattle.rule_notes.specs.declared.cause.Cause.TheVariants.{UpsideDown, Empty}

-- ---- Tests

abbrev pub is_over : Option Value → ℕ → Bool
is_over None number = false
is_over (Some modulus) number = nat_le modulus.0 number

abbrev pub is_out : Option Value → RangeListItem → Bool
is_out modulus (items.Range start end) = nat_lt end.0 start.0 || is_over modulus start.0
is_out modulus (items.Value value) = is_over modulus value.0

abbrev pub is_equal : Operator → Bool
is_equal Eq = true
is_equal NotEq = false

abbrev pub is_empty : Relation → Bool
is_empty relation = is_equal relation.operator && list_all (is_out relation.expression.modulus) relation.range_list.0

-- ---- Lists

abbrev pub item_causes : RangeListItem → List Cause
item_causes (items.Range start end) = if nat_lt end.0 start.0 then UpsideDown start.0 end.0 ∷ [] else []
item_causes (items.Value value) = []

abbrev pub own_causes : Relation → List Cause
own_causes relation = if is_empty relation then Empty (relation_text relation) ∷ [] else []

abbrev pub relation_causes : Relation → List Cause
relation_causes relation = flat_map item_causes relation.range_list.0 ++ own_causes relation

abbrev pub group_causes : AndCondition → List Cause
group_causes group = flat_map relation_causes group.0

abbrev pub condition_causes : Condition → List Cause
condition_causes condition = flat_map group_causes condition.0

-- ---- lists that grow by what is noted

-- the list has grown by what is noted
abbrev pub Adds : {A : Type 0} → (List A → Type 0) → List A → List A → Type 0
Adds {A} Noted old new = (list : List A) × Noted list × (new ≡ old ++ list)
