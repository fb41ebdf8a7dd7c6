-- The lists that the tests make are those of the definitions.
use Rattle.std.proofs.Common.{◌≡◌, Bool, true, false, List, [], ◌∷◌, ◌++◌, flat_map, if◌then◌else◌, refl, inl, inr}
use Rattle.plural_reference.specs.Serializer.{relation_text}
use Rattle.plural_reference.specs.declared.ast.Condition.{Condition}
use Rattle.plural_reference.specs.declared.ast.RangeListItem.{RangeListItem}
use Rattle.plural_reference.specs.declared.ast.RangeListItem.TheVariants as items
use Rattle.plural_reference.specs.declared.ast.Relation.{Relation}
use Rattle.rule_notes.specs.ConditionCauses.{AreConditionCauses, AreGroupCauses, AreItemCauses, AreRelationCauses, EachNotes, IsNotedIf, IsEmpty, IsUpsideDown}
use Rattle.rule_notes.specs.Inner.CauseLists.{condition_causes, group_causes, is_empty, item_causes, own_causes, relation_causes}
use Rattle.rule_notes.specs.declared.cause.Cause.TheVariants.{UpsideDown, Empty}
use Rattle.rule_notes.proofs.NeverTrueTests.{down_holds, empty_holds, not_down, not_empty}
use Rattle.std.proofs.Common.{nat_lt, ℕ, ◌+◌, ◌<◌, length, take, get_or, ap, sym, ◌∙◌, append_assoc}
use Rattle.std.proofs.lemmas.List.{append-nil, take_more}
use Rattle.std.proofs.lemmas.Grind.{flat_map-append}

pub noted_if : {A : Type 0} (b : Bool) (Fact : Type 0) (noted : A) → (b ≡ true → Fact) → (b ≡ false → ¬ Fact)
    → IsNotedIf Fact noted (if b then noted ∷ [] else [])
noted_if true Fact noted holds fails = inl (holds refl, refl)
noted_if false Fact noted holds fails = inr (fails refl, refl)

pub each_noted : {X A : Type 0} (Noted : X → List A → Type 0) (f : X → List A) → ((x : X) → Noted x (f x))
    → (xs : List X) → EachNotes Noted xs (flat_map f xs)
each_noted Noted f all [] = refl
each_noted Noted f all (x ∷ xs) = (f x, flat_map f xs, all x, each_noted Noted f all xs, refl)

item_noted : (item : RangeListItem) → AreItemCauses item (item_causes item)
item_noted (items.Range start end) =
    noted_if (nat_lt end.0 start.0) (IsUpsideDown (items.Range start end)) (UpsideDown start.0 end.0) (down_holds start end) (not_down start end)
item_noted (items.Value value) = refl

relation_noted : (relation : Relation) → AreRelationCauses relation (relation_causes relation)
relation_noted relation = (
  flat_map item_causes relation.range_list.0,
  own_causes relation,
  each_noted AreItemCauses item_causes item_noted relation.range_list.0,
  noted_if (is_empty relation) (IsEmpty relation) (Empty (relation_text relation)) (empty_holds relation) (not_empty relation),
  refl,
)

pub condition_noted : (condition : Condition) → AreConditionCauses condition (condition_causes condition)
condition_noted condition =
    each_noted AreGroupCauses group_causes (λ group. each_noted AreRelationCauses relation_causes relation_noted group.0) condition.0

-- a list that grows by what each thing of another adds
pub grown : {X A : Type 0} (f : X → List A) (xs : List X) (i : ℕ) (x : X) (old so_far new : List A)
    → i < length xs → x ≡ get_or xs i x → so_far ≡ old ++ flat_map f (take i xs) → new ≡ so_far ++ f x
    → new ≡ old ++ flat_map f (take (i + 1) xs)
grown f xs i x old so_far new within is before added =
    let more : take (i + 1) xs ≡ take i xs ++ x ∷ [] = take_more xs i x within ∙ ap (λ y. take i xs ++ y ∷ []) (sym is) in
    let last : flat_map f (x ∷ []) ≡ f x = append-nil (f x) in
    rw (more, flat_map-append, last) (added ∙ ap (λ l. l ++ f x) before ∙ append_assoc old (flat_map f (take i xs)) (f x))
