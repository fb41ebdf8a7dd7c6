-- The walk that keeps no more than the relation that it reads next: its result, and what it still
-- needs.
use Rattle.std.proofs.Common.{◌≡◌, ℕ, ◌+◌, List, [], ◌∷◌, ◌++◌, map, refl, sym, ap, subst, ◌∙◌, append_assoc, append-nil}
use Rattle.std.proofs.Common.{Bool, true, false, IsTrue}
use Rattle.std.specs.Cmp.{first_so, second_so}
use Rattle.std.specs.Fn.{iterate}
use Rattle.std.specs.List.{AllByRecursion, list_all}
use Rattle.plural_operands.specs.Operands.{Operands}
use Rattle.plural_runtime.specs.declared.kinds.AndOr.TheVariants.{And, Or}
use Rattle.plural_runtime.specs.Inner.RuleReading.{relation_in}
use Rattle.plural_runtime.specs.PackedRelations.{PackedRelation, is_relation}
use Rattle.plural_runtime.specs.PackedTruth.{is_true_at, needed_of_relation, needed_ranges, packed_truth}
use Rattle.plural_runtime.proofs.counting.Counts.{steps_left}
use Rattle.plural_runtime.proofs.walks.Walks.{is_read, needed_left, needed_left-is, truth_left, truth_left-is}
use Rattle.plural_runtime.proofs.walks.Walks.{walk_ends, walk_reads, walk_skips}

-- the remaining walk decides the result, if an item is read next
abbrev pub truth_at : Operands → List ℕ → List (List ℕ) → Bool
truth_at number item items = truth_left number (is_true_at number (relation_in item)) (map relation_in items)

-- the ranges that it needs
abbrev pub needed_at : Operands → List ℕ → List (List ℕ) → ℕ
needed_at number item items =
    needed_of_relation number (relation_in item).meaning + needed_left number (is_true_at number (relation_in item)) (map relation_in items)

-- items of one group, except its first
abbrev pub AreOfGroup : List (List ℕ) → Type 0
AreOfGroup items = AllByRecursion (λ item. (relation_in item).and_or ≡ And) items

-- an item is read next, if the open group is true so far or not
pub record ReadsNext (number : Operands) (holds : Bool) (items : List (List ℕ)) (item : List ℕ) (rest : List (List ℕ)) : Type 0 where
  pub truth : truth_left number holds (map relation_in items) ≡ truth_at number item rest
  pub needed : needed_left number holds (map relation_in items) ≡ needed_at number item rest

-- nothing more is read
pub record ReadsNoMore (number : Operands) (holds : Bool) (items : List (List ℕ)) : Type 0 where
  pub truth : truth_left number holds (map relation_in items) ≡ holds
  pub needed : needed_left number holds (map relation_in items) ≡ 0

-- in a true group the next one of it is read
pub reads_on : (number : Operands) (items : List (List ℕ)) (item : List ℕ) (rest : List (List ℕ)) → items ≡ item ∷ rest
    → (relation_in item).and_or ≡ And → ReadsNext number true items item rest
reads_on number items item rest whole mark =
    let same = ap (map relation_in) whole in
    let read = walk_reads number true (relation_in item) (map relation_in rest) (ap (λ m. is_read m true) mark) in
    record { truth = ap (truth_left number true) same ∙ read.truth; needed = ap (needed_left number true) same ∙ read.needed }

-- a true group is done at the next one, or at the end
pub is_done : (number : Operands) (items : List (List ℕ))
    → ((item : List ℕ) (rest : List (List ℕ)) → items ≡ item ∷ rest → (relation_in item).and_or ≡ Or) → ReadsNoMore number true items
is_done number [] marked = record { truth = refl; needed = refl }
is_done number (item ∷ rest) marked =
    let end = walk_ends number (relation_in item) (map relation_in rest) (marked item rest refl) in
    record { truth = end.truth; needed = end.needed }

-- the rest of a false group is skipped
record Skips (number : Operands) (skipped rest : List (List ℕ)) : Type 0 where
  truth : truth_left number false (map relation_in (skipped ++ rest)) ≡ truth_left number false (map relation_in rest)
  needed : needed_left number false (map relation_in (skipped ++ rest)) ≡ needed_left number false (map relation_in rest)

-- one relation of it after the other
skips : (number : Operands) (skipped rest : List (List ℕ)) → AreOfGroup skipped → Skips number skipped rest
skips number [] rest marked = record { truth = refl; needed = refl }
skips number (item ∷ skipped) rest marked =
    let one = walk_skips number (relation_in item) (map relation_in (skipped ++ rest)) marked.0 in
    let more = skips number skipped rest marked.1 in
    record { truth = one.truth ∙ more.truth; needed = one.needed ∙ more.needed }

-- after a false group, the first relation of the next group is read
pub reads_next_group : (number : Operands) (items skipped : List (List ℕ)) (item : List ℕ) (rest : List (List ℕ)) → AreOfGroup skipped
    → items ≡ skipped ++ item ∷ rest → (relation_in item).and_or ≡ Or → ReadsNext number false items item rest
reads_next_group number items skipped item rest marked whole mark =
    let same = ap (map relation_in) whole in
    let behind = skips number skipped (item ∷ rest) marked in
    let read = walk_reads number false (relation_in item) (map relation_in rest) (ap (λ m. is_read m false) mark) in
    record {
      truth = ap (truth_left number false) same ∙ behind.truth ∙ read.truth;
      needed = ap (needed_left number false) same ∙ behind.needed ∙ read.needed;
    }

-- after the last group there is no relation to read
pub none_is_left : (number : Operands) (items : List (List ℕ)) → AreOfGroup items → ReadsNoMore number false items
none_is_left number [] marked = record { truth = refl; needed = refl }
none_is_left number (item ∷ items) marked =
    let one = walk_skips number (relation_in item) (map relation_in items) marked.0 in
    let more = none_is_left number items marked.1 in
    record { truth = one.truth ∙ more.truth; needed = one.needed ∙ more.needed }

-- ---- A turn of the walk, with its count

-- the remaining walk decides, and needs the rest of the count
pub record WalksFrom {A : Type 0} (after_one : A → A) (number : Operands) (item : List ℕ) (items : List (List ℕ)) (count : A)
    (truth : Bool) (counted : A) : Type 0 where
  pub tells : truth_at number item items ≡ truth
  pub counts : iterate after_one (needed_at number item items) count ≡ counted

-- the item is read, and the walk continues
pub walks_on : {A : Type 0} (after_one : A → A) (number : Operands) (item : List ℕ) (items : List (List ℕ)) (next : List ℕ)
    (rest : List (List ℕ)) (count later : A) (truth : Bool) (counted : A) (holds : Bool)
    → WalksFrom after_one number item items count truth counted
    → holds ≡ is_true_at number (relation_in item)
    → later ≡ iterate after_one (needed_of_relation number (relation_in item).meaning) count
    → ReadsNext number holds items next rest → WalksFrom after_one number next rest later truth counted
walks_on after_one number item items next rest count later truth counted holds from answer steps reads = record {
  tells = sym reads.truth ∙ ap (λ b. truth_left number b (map relation_in items)) answer ∙ from.tells;
  counts = ap (λ n. iterate after_one n later) (sym reads.needed ∙ ap (λ b. needed_left number b (map relation_in items)) answer)
      ∙ steps_left after_one (needed_of_relation number (relation_in item).meaning) _ (needed_at number item items) count later refl steps
      ∙ from.counts;
}

-- the item is read, and the walk is done
pub record WalkIsDone {A : Type 0} (holds : Bool) (later : A) (truth : Bool) (counted : A) : Type 0 where
  pub tells : holds ≡ truth
  pub counts : later ≡ counted

pub walk_is_done : {A : Type 0} (after_one : A → A) (number : Operands) (item : List ℕ) (items : List (List ℕ)) (count later : A)
    (truth : Bool) (counted : A) (holds : Bool) → WalksFrom after_one number item items count truth counted
    → holds ≡ is_true_at number (relation_in item)
    → later ≡ iterate after_one (needed_of_relation number (relation_in item).meaning) count
    → ReadsNoMore number holds items → WalkIsDone holds later truth counted
walk_is_done after_one number item items count later truth counted holds from answer steps reads = record {
  tells = sym reads.truth ∙ ap (λ b. truth_left number b (map relation_in items)) answer ∙ from.tells;
  counts = ap (λ n. iterate after_one n later) (sym reads.needed ∙ ap (λ b. needed_left number b (map relation_in items)) answer)
      ∙ steps_left after_one (needed_of_relation number (relation_in item).meaning) _ (needed_at number item items) count later refl steps
      ∙ from.counts;
}

-- ---- Where the walk begins

-- with the first relation
pub walk_begins : {A : Type 0} (after_one : A → A) (number : Operands) (relations : List PackedRelation) (items : List (List ℕ))
    (item : List ℕ) (rest : List (List ℕ)) (count : A) → map relation_in items ≡ relations → ReadsNext number true items item rest
    → WalksFrom after_one number item rest count (packed_truth number relations)
    (iterate after_one (needed_ranges number relations) count)
walk_begins after_one number relations items item rest count same reads = record {
  tells = sym reads.truth ∙ ap (truth_left number true) same ∙ truth_left-is number relations;
  counts = ap (λ n. iterate after_one n count) (sym reads.needed ∙ ap (needed_left number true) same ∙ needed_left-is number relations);
}

-- or, without one or before Or, not at all
pub walk_is_none : {A : Type 0} (after_one : A → A) (number : Operands) (relations : List PackedRelation) (items : List (List ℕ))
    (count : A)
    → map relation_in items ≡ relations → ReadsNoMore number true items
    → WalkIsDone true count (packed_truth number relations) (iterate after_one (needed_ranges number relations) count)
walk_is_none after_one number relations items count same reads = record {
  tells = sym reads.truth ∙ ap (truth_left number true) same ∙ truth_left-is number relations;
  counts = ap (λ n. iterate after_one n count) (sym reads.needed ∙ ap (needed_left number true) same ∙ needed_left-is number relations);
}

-- ---- What is skipped

-- one item more
all_of_group : (skipped : List (List ℕ)) (item : List ℕ) → AreOfGroup skipped → (relation_in item).and_or ≡ And
    → AreOfGroup (skipped ++ item ∷ [])
all_of_group [] item marked mark = (mark, tt)
all_of_group (first ∷ skipped) item marked mark = (marked.0, all_of_group skipped item marked.1 mark)

-- the items that were skipped so far, and the remaining items
pub record HasSkipped (items left : List (List ℕ)) : Type 0 where
  pub skipped : List (List ℕ)
  pub of_group : AreOfGroup skipped
  pub whole : items ≡ skipped ++ left

-- one more is skipped
pub skips_one : (items left : List (List ℕ)) (item : List ℕ) (rest : List (List ℕ)) → HasSkipped items left → left ≡ item ∷ rest
    → (relation_in item).and_or ≡ And → HasSkipped items rest
skips_one items left item rest so_far first mark = record {
  skipped = so_far.skipped ++ item ∷ [];
  of_group = all_of_group so_far.skipped item so_far.of_group mark;
  whole = so_far.whole ∙ ap (λ l. so_far.skipped ++ l) first ∙ sym (append_assoc so_far.skipped (item ∷ []) rest);
}

-- all are skipped
pub all_skipped : (items left : List (List ℕ)) → HasSkipped items left → left ≡ [] → AreOfGroup items
all_skipped items left so_far none =
    subst AreOfGroup (sym (so_far.whole ∙ ap (λ l. so_far.skipped ++ l) none ∙ append-nil so_far.skipped)) so_far.of_group

-- ---- Items that are relations

-- the first relation and those after it
pub relations_behind : (items : List (List ℕ)) (item : List ℕ) (rest : List (List ℕ)) → items ≡ item ∷ rest
    → IsTrue (list_all is_relation items)
    → IsTrue (is_relation item) × IsTrue (list_all is_relation rest)
relations_behind items item rest whole all =
    let parts : IsTrue (list_all is_relation (item ∷ rest)) = subst (λ l. IsTrue (list_all is_relation l)) whole all in
    (first_so (is_relation item) (list_all is_relation rest) parts, second_so (is_relation item) (list_all is_relation rest) parts)

-- the relations after skipped ones
pub relations_after : (skipped rest : List (List ℕ)) → IsTrue (list_all is_relation (skipped ++ rest))
    → IsTrue (list_all is_relation rest)
relations_after [] rest all = all
relations_after (item ∷ skipped) rest all =
    relations_after skipped rest (second_so (is_relation item) (list_all is_relation (skipped ++ rest)) all)
