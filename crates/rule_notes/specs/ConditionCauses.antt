-- What is noted of a condition by itself.
--     IsNotedIf Fact cause causes      a cause, exactly if a fact holds
--     NotesBoth First Second causes      the causes of two parts, the first's before the second's
--     EachNotes Noted parts causes      those of each part of a list, in the order of the list
--     AreRelationCauses relation causes      the ranges of a relation that are upside down, and then
--         the relation, if it is empty
--     AreConditionCauses condition causes      those of each relation
use Rattle.std.specs.Prelude.{◌≡◌, ◌⊎◌, List, [], ◌∷◌, ◌++◌, ℕ, IsFalse}
use Rattle.plural_reference.specs.Serializer.{relation_text}
use Rattle.plural_reference.specs.declared.ast.AndCondition.{AndCondition}
use Rattle.plural_reference.specs.declared.ast.Condition.{Condition}
use Rattle.plural_reference.specs.declared.ast.RangeListItem.{RangeListItem}
use Rattle.plural_reference.specs.declared.ast.RangeListItem.TheVariants as items
use Rattle.plural_reference.specs.declared.ast.Relation.{Relation}
use Rattle.rule_notes.specs.declared.cause.Cause.{Cause}
use Rattle.rule_notes.specs.declared.cause.Cause.TheVariants.{UpsideDown, Empty}
use Rattle.plural_operands.specs.Operands.{Operands}
use Rattle.plural_reference.specs.Truth.{ends_of, range_holds, tree_relation_truth}
use Rattle.plural_reference.specs.declared.ast.Operator.TheVariants.{Eq}

-- ---- what is never true in a condition, whatever the number is

-- no value is between its ends
abbrev pub IsUpsideDown : RangeListItem → Type 0
IsUpsideDown item = (value : ℕ) → IsFalse (range_holds value (ends_of item))

-- an `=` that is false at every six operand numbers
pub record IsEmpty (relation : Relation) : Type 0 where
  pub equal : relation.operator ≡ Eq
  pub never : (number : Operands) → IsFalse (tree_relation_truth number relation)

-- ---- Lists

-- the one, if the fact holds, and else none
abbrev pub IsNotedIf : {A : Type 0} → Type 0 → A → List A → Type 0
IsNotedIf Fact noted list = (Fact × (list ≡ noted ∷ [])) ⊎ ((¬ Fact) × (list ≡ []))

-- what is noted of a first part comes before what is noted of a second
abbrev pub NotesBoth : {A : Type 0} → (List A → Type 0) → (List A → Type 0) → List A → Type 0
NotesBoth {A} First Second list = (first second : List A) × First first × Second second × (list ≡ first ++ second)

abbrev pub EachNotes : {X A : Type 0} → (X → List A → Type 0) → List X → List A → Type 0
EachNotes Noted [] list = list ≡ []
EachNotes Noted (x ∷ xs) list = NotesBoth (Noted x) (EachNotes Noted xs) list

-- ---- Causes

-- a single value is never upside down
abbrev pub AreItemCauses : RangeListItem → List Cause → Type 0
AreItemCauses (items.Range start end) causes = IsNotedIf (IsUpsideDown (items.Range start end)) (UpsideDown start.0 end.0) causes
AreItemCauses (items.Value value) causes = causes ≡ []

abbrev pub AreRelationCauses : Relation → List Cause → Type 0
AreRelationCauses relation =
    NotesBoth (EachNotes AreItemCauses relation.range_list.0) (IsNotedIf (IsEmpty relation) (Empty (relation_text relation)))

abbrev pub AreGroupCauses : AndCondition → List Cause → Type 0
AreGroupCauses group = EachNotes AreRelationCauses group.0

abbrev pub AreConditionCauses : Condition → List Cause → Type 0
AreConditionCauses condition = EachNotes AreGroupCauses condition.0
