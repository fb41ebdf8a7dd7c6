-- Within the bound a condition is true of the kept operands exactly if it is true of the exact
-- number: from one relation, in Agreement, to groups of them. The law kept_operands_agree cites it.
use Rattle.std.proofs.Common.{◌≡◌, List, [], ◌∷◌, refl, ◌∙◌, ap, Bool, ◌&&◌, ◌||◌}
use Rattle.std.specs.List.{AllByRecursion, list_all}
use Rattle.fixed_decimal.specs.Places.{shift_right}
use Rattle.plural_reference.specs.Truth.{some_group, is_true_of, relation_truth, meaning_of, groups_of}
use Rattle.plural_reference.specs.Exactness.{exact_relation_truth, IsAdmitted}
use Rattle.plural_reference.specs.ExactnessLaws.{RelationsAgree, GroupsAgree, ConditionsAgree}
use Rattle.plural_operands.proofs.numbers.Fractions.{IsWritten-shift_right}
use Rattle.plural_reference.proofs.exactness.Agreement.{relation_agrees}

-- ---- tests that agree on all members agree on groups of them

-- two tests that agree on each member of a group agree on whether all pass
all_agree : {A : Type 0} (p q : A → Bool) (K : A → Type 0) (group : List A) → ((a : A) → K a → p a ≡ q a)
    → AllByRecursion K group → list_all p group ≡ list_all q group
all_agree p q K [] h k = refl
all_agree p q K (a ∷ group) h k =
    ap (λ b. b && list_all p group) (h a k.0) ∙ ap (λ b. q a && b) (all_agree p q K group h k.1)

-- and on whether all members of some group do
some_agree : {A : Type 0} (p q : A → Bool) (K : A → Type 0) (groups : List (List A)) → ((a : A) → K a → p a ≡ q a)
    → AllByRecursion (AllByRecursion K) groups → some_group p groups ≡ some_group q groups
some_agree p q K [] h k = refl
some_agree p q K (group ∷ groups) h k =
    ap (λ b. b || some_group p groups) (all_agree p q K group h k.0) ∙ ap (λ b. list_all q group || b) (some_agree p q K groups h k.1)

-- and on whether there is no group, or all members of some group pass
pub groups_agree_by : {A : Type 0} (p q : A → Bool) (K : A → Type 0) (groups : List (List A))
    → ((a : A) → K a → p a ≡ q a) → AllByRecursion (AllByRecursion K) groups → is_true_of p groups ≡ is_true_of q groups
groups_agree_by p q K [] h k = refl
groups_agree_by p q K (group ∷ groups) h k = some_agree p q K (group ∷ groups) h k

-- ---- the laws

-- within the bound a relation is true of the kept operands exactly if it is true of the exact ones
pub relations_agree : RelationsAgree
relations_agree x e moduli kept exact relation h k =
    relation_agrees (shift_right e x) e moduli kept exact (IsWritten-shift_right e x h.written) h.within h.are_kept h.are_exact relation k

-- so are groups of relations
pub groups_agree : GroupsAgree
groups_agree x e moduli kept exact groups h k =
    groups_agree_by (relation_truth kept) (exact_relation_truth exact) (IsAdmitted moduli) groups
    (λ relation a. relations_agree x e moduli kept exact relation h a) k

-- so is a condition
pub conditions_agree : ConditionsAgree
conditions_agree x e moduli kept exact condition h k =
    groups_agree_by (λ r. relation_truth kept (meaning_of r)) (λ r. exact_relation_truth exact (meaning_of r))
    (λ r. IsAdmitted moduli (meaning_of r)) (groups_of condition)
    (λ r a. relations_agree x e moduli kept exact (meaning_of r) h a) k
