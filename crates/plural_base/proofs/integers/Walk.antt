-- The walk over the relations of a rule, of which not all may be told.
use Rattle.std.proofs.Common.{◌≡◌, List, [], ◌∷◌, refl, sym, ap, ◌∙◌, Bool, true, false}
use Rattle.std.specs.Prelude.{◌&&◌, ◌||◌}
use Rattle.std.specs.List.{list_all, list_any}
use Rattle.plural_reference.specs.Truth.{some_group}
use Rattle.plural_runtime.specs.declared.kinds.AndOr.{AndOr}
use Rattle.plural_runtime.specs.declared.kinds.AndOr.TheVariants.{And, Or}
use Rattle.plural_runtime.specs.PackedRelations.{PackedRelation, groups, at_front, cut_before}
use Rattle.plural_base.specs.Inner.WholeNumbers.{earlier_after, group_after}

-- the truth of a rule, by that of the groups before the open one, that of the open one so far, and
-- the relations that are left
abbrev pub truth_from : (PackedRelation → Bool) → Bool → Bool → List PackedRelation → Bool
truth_from test earlier group [] = earlier || group
truth_from test earlier group (relation ∷ relations) =
    truth_from test (earlier_after relation.and_or earlier group)
    (group_after relation.and_or group (test relation)) relations

-- the same by groups
abbrev groups_truth : (PackedRelation → Bool) → Bool → Bool → List (List PackedRelation) → Bool
groups_truth test earlier group [] = earlier || group
groups_truth test earlier group (g ∷ gs) = earlier || ((group && list_all test g) || list_any (list_all test) gs)

bool_nil : (e o t : Bool) → (e || (o && t)) ≡ (e || ((o && (t && true)) || false))
bool_nil true o t = refl
bool_nil false true true = refl
bool_nil false true false = refl
bool_nil false false t = refl

bool_cons : (e o t g a : Bool) → (e || (((o && t) && g) || a)) ≡ (e || ((o && (t && g)) || a))
bool_cons e true t g a = refl
bool_cons e false t g a = refl

bool_one : (e o t : Bool) → ((e || o) || t) ≡ (e || ((o && true) || ((t && true) || false)))
bool_one true o t = refl
bool_one false true t = refl
bool_one false false true = refl
bool_one false false false = refl

bool_more : (e o t g a : Bool) → ((e || o) || ((t && g) || a)) ≡ (e || ((o && true) || ((t && g) || a)))
bool_more true o t g a = refl
bool_more false true t g a = refl
bool_more false false t g a = refl

-- one step decides as the groups do
step : (test : PackedRelation → Bool) (mark : AndOr) (earlier group : Bool) (relation : PackedRelation) (gs : List (List PackedRelation))
    → groups_truth test (earlier_after mark earlier group) (group_after mark group (test relation)) gs
    ≡ groups_truth test earlier group (cut_before mark (at_front relation gs))
step test And earlier group relation [] = bool_nil earlier group (test relation)
step test And earlier group relation (g ∷ gs) =
    bool_cons earlier group (test relation) (list_all test g) (list_any (list_all test) gs)
step test Or earlier group relation [] = bool_one earlier group (test relation)
step test Or earlier group relation (g ∷ gs) =
    bool_more earlier group (test relation) (list_all test g) (list_any (list_all test) gs)

nothing_left : (e o : Bool) → (e || o) ≡ (e || ((o && true) || false))
nothing_left true o = refl
nothing_left false true = refl
nothing_left false false = refl

-- the walk decides as the groups do
truth_from-groups : (test : PackedRelation → Bool) (earlier group : Bool) (relations : List PackedRelation)
    → truth_from test earlier group relations ≡ groups_truth test earlier group (groups relations)
truth_from-groups test earlier group [] = nothing_left earlier group
truth_from-groups test earlier group (relation ∷ relations) =
    truth_from-groups test (earlier_after relation.and_or earlier group)
    (group_after relation.and_or group (test relation)) relations
    ∙ step test relation.and_or earlier group relation (groups relations)

-- there is always a first group
first_group : (relations : List PackedRelation)
    → (first : List PackedRelation) × (others : List (List PackedRelation)) × (groups relations ≡ first ∷ others)
first_group [] = ([], [], refl)
first_group (relation ∷ relations) = by relation.and_or (groups relations)
  where
    by : (mark : AndOr) (gs : List (List PackedRelation))
        → (first : List PackedRelation) × (others : List (List PackedRelation)) × (cut_before mark (at_front relation gs) ≡ first ∷ others)
    by And [] = (relation ∷ [], [], refl)
    by And (g ∷ gs) = (relation ∷ g, gs, refl)
    by Or gs = ([], at_front relation gs, refl)

-- the walk from the first relation on tells the truth of the rule
pub truth_from-is : (test : PackedRelation → Bool) (relations : List PackedRelation)
    → truth_from test false true relations ≡ some_group test (groups relations)
truth_from-is test relations =
    let f = first_group relations in
    truth_from-groups test false true relations ∙ ap (groups_truth test false true) f.2
    ∙ sym (ap (list_any (list_all test)) f.2)
