-- The walk over the relations of a rule gives its truth, and counts the needed ranges.
use Rattle.std.proofs.Common.{◌≡◌, ℕ, ◌+◌, List, [], ◌∷◌, refl, sym, ap, ◌∙◌, arith, Bool, true, false}
use Rattle.std.specs.Prelude.{◌&&◌, ◌||◌, not, if◌then◌else◌}
use Rattle.std.specs.List.{list_any}
use Rattle.plural_operands.specs.Operands.{Operands}
use Rattle.plural_runtime.specs.declared.kinds.AndOr.{AndOr}
use Rattle.plural_runtime.specs.declared.kinds.AndOr.TheVariants.{And, Or}
use Rattle.plural_runtime.specs.PackedRelations.{PackedRelation, groups, at_front, cut_before}
use Rattle.plural_runtime.specs.PackedTruth.{group_truth, is_true_at, packed_truth, needed_of_relation, needed_ranges}
use Rattle.plural_runtime.proofs.counting.NeededGroups.{groups-behind, needed_in_group, needed_in_groups}

-- a true group ends where the next one begins
abbrev pub ends_true : AndOr → Bool → Bool
ends_true And holds = false
ends_true Or holds = holds

-- a relation is tested only if its group may still be true
abbrev pub is_looked_at : AndOr → Bool → Bool
is_looked_at And holds = holds
is_looked_at Or holds = true

-- whether the group is true up to a relation, that one included
abbrev pub holds_after : AndOr → Bool → Bool → Bool
holds_after And holds truth = holds && truth
holds_after Or holds truth = truth

-- the truth of the remaining relations, if no earlier group is true and this one is so far or not
abbrev pub truth_left : Operands → Bool → List PackedRelation → Bool
truth_left number holds [] = holds
truth_left number holds (relation ∷ relations) =
    if ends_true relation.and_or holds then true
    else truth_left number (holds_after relation.and_or holds (is_true_at number relation)) relations

-- the ranges that a relation needs, if no earlier group is true and this one is so far or not
abbrev pub needed_here : Operands → Bool → PackedRelation → ℕ
needed_here number holds relation = if is_looked_at relation.and_or holds then needed_of_relation number relation.meaning else 0

-- the ranges that the remaining relations need
abbrev pub needed_left : Operands → Bool → List PackedRelation → ℕ
needed_left number holds [] = 0
needed_left number holds (relation ∷ relations) =
    if ends_true relation.and_or holds then 0
    else (needed_here number holds relation + needed_left number
    (holds_after relation.and_or holds (is_true_at number relation)) relations)

-- the truth of groups, if the first one is true so far or not
abbrev pub groups_truth : Operands → Bool → List (List PackedRelation) → Bool
groups_truth number holds [] = holds
groups_truth number holds (group ∷ groups) = (holds && group_truth number group) || list_any (group_truth number) groups

-- the last relation of the rule, in the open group
pub bool_nil : (h t : Bool) → (h && t) ≡ ((h && (t && true)) || false)
bool_nil true true = refl
bool_nil true false = refl
bool_nil false t = refl

-- a relation that continues a group
pub bool_cons : (h t g a : Bool) → (((h && t) && g) || a) ≡ ((h && (t && g)) || a)
bool_cons true t g a = refl
bool_cons false t g a = refl

-- the last relation of the rule, in a new group
pub bool_one : (t : Bool) → t ≡ ((t && true) || false)
bool_one true = refl
bool_one false = refl

-- one step of the walk decides as the groups do
pub truth_step : (number : Operands) (mark : AndOr) (holds : Bool) (relation : PackedRelation) (gs : List (List PackedRelation)) →
    (if ends_true mark holds then true else groups_truth number (holds_after mark holds (is_true_at number relation)) gs)
    ≡ groups_truth number holds (cut_before mark (at_front relation gs))
truth_step number And holds relation [] = bool_nil holds (is_true_at number relation)
truth_step number And holds relation (g ∷ gs) =
    bool_cons holds (is_true_at number relation) (group_truth number g) (list_any (group_truth number) gs)
truth_step number Or true relation gs = refl
truth_step number Or false relation [] = bool_one (is_true_at number relation)
truth_step number Or false relation (g ∷ gs) = refl

-- the result of the walk over relations is that of their groups
pub truth_left-groups : (number : Operands) (holds : Bool) (relations : List PackedRelation)
    → truth_left number holds relations ≡ groups_truth number holds (groups relations)
truth_left-groups number true [] = refl
truth_left-groups number false [] = refl
truth_left-groups number holds (relation ∷ relations) =
    ap (λ b. if ends_true relation.and_or holds then true else b)
    (truth_left-groups number (holds_after relation.and_or holds (is_true_at number relation)) relations)
    ∙ truth_step number relation.and_or holds relation (groups relations)

-- there is always a first group
pub record FirstGroup (relations : List PackedRelation) : Type 0 where
  pub first : List PackedRelation
  pub others : List (List PackedRelation)
  pub is : groups relations ≡ first ∷ others

-- with a relation at the front there is a first group
pub front_group : (relation : PackedRelation) (mark : AndOr) (gs : List (List PackedRelation))
    → (first : List PackedRelation) × (others : List (List PackedRelation)) × (cut_before mark (at_front relation gs) ≡ first ∷ others)
front_group relation And [] = (relation ∷ [], [], refl)
front_group relation And (g ∷ gs) = (relation ∷ g, gs, refl)
front_group relation Or gs = ([], at_front relation gs, refl)

-- relations always have a first group, maybe an empty one
pub first_group : (relations : List PackedRelation) → FirstGroup relations
first_group [] = record { first = []; others = []; is = refl }
first_group (relation ∷ relations) =
    let f = front_group relation relation.and_or (groups relations) in
    record { first = f.0; others = f.1; is = f.2 }

-- the walk from the first relation on gives the truth
pub truth_left-is : (number : Operands) (relations : List PackedRelation)
    → truth_left number true relations ≡ packed_truth number relations
unfolding packed_truth
truth_left-is number relations =
    let f = first_group relations in
    truth_left-groups number true relations ∙ ap (groups_truth number true) f.is ∙ sym (ap (list_any (group_truth number)) f.is)

-- what groups need, if the first one is true so far or not
abbrev pub groups_need : Operands → Bool → List (List PackedRelation) → ℕ
groups_need number holds [] = 0
groups_need number holds (group ∷ groups) =
    (if holds then needed_in_group number group else 0) +
    (if (holds && group_truth number group) then 0 else needed_in_groups number groups)

-- the last relation of the rule, in the open group: what is needed
pub nat_nil : (h t : Bool) (n : ℕ)
    → (if h then n else 0) + 0 ≡ (if h then (n + (if t then 0 else 0)) else 0) + (if (h && (t && true)) then 0 else 0)
nat_nil true true n = omega arith
nat_nil true false n = omega arith
nat_nil false t n = refl

-- a relation that continues a group: what is needed
pub nat_cons : (h t g : Bool) (n m s : ℕ)
    → (if h then n else 0) + ((if (h && t) then m else 0) + (if ((h && t) && g) then 0 else s))
    ≡ (if h then (n + (if t then m else 0)) else 0) + (if (h && (t && g)) then 0 else s)
nat_cons true true true n m s = omega arith
nat_cons true true false n m s = omega arith
nat_cons true false g n m s = omega arith
nat_cons false t g n m s = omega arith

-- the last relation of the rule, in a new group: what is needed
pub nat_one : (t : Bool) (n : ℕ) → n + 0 ≡ 0 + ((n + (if t then 0 else 0)) + (if (t && true) then 0 else 0))
nat_one true n = omega arith
nat_one false n = omega arith

-- a relation that begins a new group: what is needed
pub nat_more : (t g : Bool) (n m s : ℕ)
    → n + ((if t then m else 0) + (if (t && g) then 0 else s)) ≡ 0 + ((n + (if t then m else 0)) + (if (t && g) then 0 else s))
nat_more true true n m s = omega arith
nat_more true false n m s = omega arith
nat_more false g n m s = omega arith

-- one step of the walk needs what the groups do
pub need_step : (number : Operands) (mark : AndOr) (holds : Bool) (relation : PackedRelation) (gs : List (List PackedRelation)) →
    (if ends_true mark holds then 0 else
    ((if is_looked_at mark holds then needed_of_relation number relation.meaning else 0) + groups_need number
    (holds_after mark holds (is_true_at number relation)) gs))
    ≡ groups_need number holds (cut_before mark (at_front relation gs))
need_step number And holds relation [] = nat_nil holds (is_true_at number relation) (needed_of_relation number relation.meaning)
need_step number And holds relation (g ∷ gs) =
    nat_cons holds (is_true_at number relation) (group_truth number g) (needed_of_relation number relation.meaning)
    (needed_in_group number g) (needed_in_groups number gs)
need_step number Or true relation gs = refl
need_step number Or false relation [] = nat_one (is_true_at number relation) (needed_of_relation number relation.meaning)
need_step number Or false relation (g ∷ gs) =
    nat_more (is_true_at number relation) (group_truth number g) (needed_of_relation number relation.meaning)
    (needed_in_group number g) (needed_in_groups number gs)

-- what the walk needs of relations is what their groups need
pub needed_left-groups : (number : Operands) (holds : Bool) (relations : List PackedRelation)
    → needed_left number holds relations ≡ groups_need number holds (groups relations)
needed_left-groups number true [] = refl
needed_left-groups number false [] = refl
needed_left-groups number holds (relation ∷ relations) =
    ap (λ n. if ends_true relation.and_or holds then 0 else (needed_here number holds relation + n))
    (needed_left-groups number (holds_after relation.and_or holds (is_true_at number relation)) relations)
    ∙ need_step number relation.and_or holds relation (groups relations)

-- the walk from the first relation on counts the needed ranges
pub needed_left-is : (number : Operands) (relations : List PackedRelation)
    → needed_left number true relations ≡ needed_ranges number relations
unfolding needed_ranges
needed_left-is number relations =
    let f = first_group relations in
    needed_left-groups number true relations ∙ ap (groups_need number true) f.is
    ∙ sym (groups-behind number [] (groups relations) false refl ∙ ap (needed_in_groups number) f.is)

-- a relation is read in a new group if the group before it is false, and in the same group if that
-- is true so far
abbrev pub is_read : AndOr → Bool → Bool
is_read And holds = holds
is_read Or holds = not holds

-- a relation that is read decides whether its group is true so far
pub record WalkReads (number : Operands) (holds : Bool) (relation : PackedRelation) (others : List PackedRelation) : Type 0 where
  pub truth : truth_left number holds (relation ∷ others) ≡ truth_left number (is_true_at number relation) others
  pub needed : needed_left number holds (relation ∷ others)
      ≡ needed_of_relation number relation.meaning + needed_left number (is_true_at number relation) others

-- so the walk continues with the truth of the relation that it read
pub walk_reads : (number : Operands) (holds : Bool) (relation : PackedRelation) (others : List PackedRelation)
    → is_read relation.and_or holds ≡ true → WalkReads number holds relation others
walk_reads number holds relation others h =
    record { truth = truth_by relation.and_or holds h; needed = needed_by relation.and_or holds h }
  where
    truth_by : (mark : AndOr) (holds : Bool) → is_read mark holds ≡ true
        → (if ends_true mark holds then true else truth_left number (holds_after mark holds (is_true_at number relation)) others)
        ≡ truth_left number (is_true_at number relation) others
    truth_by And true h = refl
    truth_by And false h = cc
    truth_by Or true h = cc
    truth_by Or false h = refl

    needed_by : (mark : AndOr) (holds : Bool) → is_read mark holds ≡ true →
        (if ends_true mark holds then 0 else
        ((if is_looked_at mark holds then needed_of_relation number relation.meaning else 0) + needed_left number
        (holds_after mark holds (is_true_at number relation)) others))
        ≡ needed_of_relation number relation.meaning + needed_left number (is_true_at number relation) others
    needed_by And true h = refl
    needed_by And false h = cc
    needed_by Or true h = cc
    needed_by Or false h = refl

-- a relation of a false group is not read
pub record WalkSkips (number : Operands) (relation : PackedRelation) (others : List PackedRelation) : Type 0 where
  pub truth : truth_left number false (relation ∷ others) ≡ truth_left number false others
  pub needed : needed_left number false (relation ∷ others) ≡ needed_left number false others

-- so the walk continues without it
pub walk_skips : (number : Operands) (relation : PackedRelation) (others : List PackedRelation) → relation.and_or ≡ And
    → WalkSkips number relation others
walk_skips number relation others h = record {
  truth = ap (λ mark. if ends_true mark false then true else truth_left number
      (holds_after mark false (is_true_at number relation)) others) h;
  needed = ap (λ mark. if ends_true mark false then 0 else
      ((if is_looked_at mark false then needed_of_relation number relation.meaning else 0) + needed_left number
      (holds_after mark false (is_true_at number relation)) others)) h ∙ omega arith;
}

-- a true group ends at Or
pub record WalkEnds (number : Operands) (relation : PackedRelation) (others : List PackedRelation) : Type 0 where
  pub truth : truth_left number true (relation ∷ others) ≡ true
  pub needed : needed_left number true (relation ∷ others) ≡ 0

-- so the walk is done, and nothing more is needed
pub walk_ends : (number : Operands) (relation : PackedRelation) (others : List PackedRelation) → relation.and_or ≡ Or
    → WalkEnds number relation others
walk_ends number relation others h = record {
  truth = ap (λ mark. if ends_true mark true then true else truth_left number
      (holds_after mark true (is_true_at number relation)) others) h;
  needed = ap (λ mark. if ends_true mark true then 0 else
      ((if is_looked_at mark true then needed_of_relation number relation.meaning else 0) + needed_left number
      (holds_after mark true (is_true_at number relation)) others)) h;
}
