-- The needed ranges of lists and of groups, one after the other.
use Rattle.std.proofs.Common.{◌≡◌, ℕ, ◌+◌, List, [], ◌∷◌, ◌++◌, refl, ap, ◌∙◌, Bool, true, false, cond}
use Rattle.std.specs.Prelude.{◌&&◌, ◌||◌, not, if◌then◌else◌, sum_by, count_by}
use Rattle.std.specs.List.{list_any, list_all}
use Rattle.std.proofs.lemmas.List.Sums.{sum_by-cons}
use Rattle.plural_operands.specs.Operands.{Operands}
use Rattle.plural_runtime.specs.PackedRelations.{PackedRelation, groups}
use Rattle.plural_reference.specs.Truth.{range_holds, is_in_ranges}
use Rattle.plural_runtime.specs.PackedTruth.{is_true_at, group_truth, with_earlier_from, needed_of_list, needed_of_relation}
use Rattle.plural_runtime.specs.PackedTruth.{needed_of_group}

-- the needed ranges, one after the other
abbrev pub needed_from : ℕ → List (ℕ × ℕ) → ℕ
needed_from value [] = 0
needed_from value (range ∷ ranges) = 1 + (if range_holds value range then 0 else needed_from value ranges)

-- some member of a longer list passes if one did before, or the last one does
pub any-append : {A : Type 0} (test : A → Bool) (earlier : List A) (member : A)
    → list_any test (earlier ++ member ∷ []) ≡ (list_any test earlier || test member)
any-append test [] member = or_false (test member)
  where
    or_false : (b : Bool) → (b || false) ≡ b
    or_false true = refl
    or_false false = refl
any-append test (x ∷ earlier) member = ap (λ b. test x || b) (any-append test earlier member)
    ∙ or_assoc (test x) (list_any test earlier) (test member)
  where
    or_assoc : (a b c : Bool) → (a || (b || c)) ≡ ((a || b) || c)
    or_assoc true b c = refl
    or_assoc false b c = refl

-- all members of a longer list pass if all did before, and the last one does
pub all-append : {A : Type 0} (test : A → Bool) (earlier : List A) (member : A)
    → list_all test (earlier ++ member ∷ []) ≡ (list_all test earlier && test member)
all-append test [] member = and_true (test member)
  where
    and_true : (b : Bool) → (b && true) ≡ b
    and_true true = refl
    and_true false = refl
all-append test (x ∷ earlier) member = ap (λ b. test x && b) (all-append test earlier member)
    ∙ and_assoc (test x) (list_all test earlier) (test member)
  where
    and_assoc : (a b c : Bool) → (a && (b && c)) ≡ ((a && b) && c)
    and_assoc true b c = refl
    and_assoc false b c = refl

-- the needed ranges of a list, after earlier ranges of which some or none contains the value
pub needed-behind : (value : ℕ) (earlier ranges : List (ℕ × ℕ)) (found : Bool) → list_any (range_holds value) earlier ≡ found
    → count_by (λ at. not (is_in_ranges at.0 value)) (with_earlier_from earlier ranges)
    ≡ (if found then 0 else needed_from value ranges)
needed-behind value earlier [] true h = refl
needed-behind value earlier [] false h = refl
needed-behind value earlier (range ∷ ranges) found h =
    let test : List (ℕ × ℕ) × (ℕ × ℕ) → ℕ = λ at. cond (not (list_any (range_holds value) at.0)) 1 0 in
    let later : list_any (range_holds value) (earlier ++ range ∷ []) ≡ (found || range_holds value range) =
    any-append (range_holds value) earlier range ∙ ap (λ b. b || range_holds value range) h in
    sum_by-cons test (earlier, range) (with_earlier_from (earlier ++ range ∷ []) ranges)
    ∙ ap (λ n. test (earlier, range) + n) (needed-behind value (earlier ++ range ∷ []) ranges (found || range_holds value range) later)
    ∙ ap (λ b. cond (not b) 1 0 + (if (found || range_holds value range) then 0 else needed_from value ranges)) h
    ∙ step found
  where
    step : (found : Bool) → cond (not found) 1 0 + (if (found || range_holds value range) then 0 else needed_from value ranges)
        ≡ (if found then 0 else needed_from value (range ∷ ranges))
    step true = refl
    step false = refl

-- the needed ranges of a list, counted one after the other
pub needed_of_list-is : (value : ℕ) (ranges : List (ℕ × ℕ)) → needed_of_list ranges value ≡ needed_from value ranges
needed_of_list-is value ranges = needed-behind value [] ranges false refl

-- the needed ranges of a group, one relation after the other
abbrev pub needed_in_group : Operands → List PackedRelation → ℕ
needed_in_group number [] = 0
needed_in_group number (relation ∷ group) =
    needed_of_relation number relation.meaning + (if is_true_at number relation then needed_in_group number group else 0)

-- the needed ranges of relations, after earlier relations that are all true or not
pub group-behind : (number : Operands) (earlier group : List PackedRelation) (so_far : Bool) → group_truth number earlier ≡ so_far
    → sum_by (λ at. if group_truth number at.0 then needed_of_relation number at.1.meaning else 0)
    (with_earlier_from earlier group) ≡ (if so_far then needed_in_group number group else 0)
group-behind number earlier [] true h = refl
group-behind number earlier [] false h = refl
group-behind number earlier (relation ∷ group) so_far h =
    let count : List PackedRelation × PackedRelation
    → ℕ = λ at. if group_truth number at.0 then needed_of_relation number at.1.meaning else 0 in
    let later : group_truth number (earlier ++ relation ∷ []) ≡ (so_far && is_true_at number relation) =
    all-append (is_true_at number) earlier relation ∙ ap (λ b. b && is_true_at number relation) h in
    sum_by-cons count (earlier, relation) (with_earlier_from (earlier ++ relation ∷ []) group)
    ∙ ap (λ n. count (earlier, relation) + n)
    (group-behind number (earlier ++ relation ∷ []) group (so_far && is_true_at number relation) later)
    ∙ ap (λ b. (if b then needed_of_relation number relation.meaning else 0) +
    (if (so_far && is_true_at number relation) then needed_in_group number group else 0)) h
    ∙ step so_far
  where
    step : (so_far : Bool) → (if so_far then needed_of_relation number relation.meaning else 0) +
        (if (so_far && is_true_at number relation) then needed_in_group number group else 0)
        ≡ (if so_far then needed_in_group number (relation ∷ group) else 0)
    step true = refl
    step false = refl

-- the needed ranges of a group, counted one relation after the other
pub needed_of_group-is : (number : Operands) (group : List PackedRelation) → needed_of_group number group ≡ needed_in_group number group
needed_of_group-is number group = group-behind number [] group true refl

-- the needed ranges of groups, one after the other
abbrev pub needed_in_groups : Operands → List (List PackedRelation) → ℕ
needed_in_groups number [] = 0
needed_in_groups number (group ∷ groups) =
    needed_in_group number group + (if group_truth number group then 0 else needed_in_groups number groups)

-- the needed ranges of groups, after earlier groups of which some or none is true
pub groups-behind : (number : Operands) (earlier groups : List (List PackedRelation)) (found : Bool)
    → list_any (group_truth number) earlier ≡ found
    → sum_by (λ at. if list_any (group_truth number) at.0 then 0 else needed_of_group number at.1)
    (with_earlier_from earlier groups) ≡ (if found then 0 else needed_in_groups number groups)
groups-behind number earlier [] true h = refl
groups-behind number earlier [] false h = refl
groups-behind number earlier (group ∷ groups) found h =
    let count : List (List PackedRelation) × List PackedRelation
    → ℕ = λ at. if list_any (group_truth number) at.0 then 0 else needed_of_group number at.1 in
    let later : list_any (group_truth number) (earlier ++ group ∷ []) ≡ (found || group_truth number group) =
    any-append (group_truth number) earlier group ∙ ap (λ b. b || group_truth number group) h in
    sum_by-cons count (earlier, group) (with_earlier_from (earlier ++ group ∷ []) groups)
    ∙ ap (λ n. count (earlier, group) + n)
    (groups-behind number (earlier ++ group ∷ []) groups (found || group_truth number group) later)
    ∙ ap (λ b. (if b then 0 else needed_of_group number group) +
    (if (found || group_truth number group) then 0 else needed_in_groups number groups)) h
    ∙ step found
  where
    step : (found : Bool) → (if found then 0 else needed_of_group number group) +
        (if (found || group_truth number group) then 0 else needed_in_groups number groups)
        ≡ (if found then 0 else needed_in_groups number (group ∷ groups))
    step true = refl
    step false = ap (λ n. n + (if group_truth number group then 0 else needed_in_groups number groups))
        (needed_of_group-is number group)
