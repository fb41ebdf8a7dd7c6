-- When a rule is true, relation by relation.
use Rattle.std.proofs.Common.{◌≡◌, List, [], ◌∷◌, ◌++◌, Bool, true, false, Option, Some, None, refl, sym, ◌∙◌, ap, map, append_assoc}
use Rattle.std.specs.Prelude.{◌||◌, ◌&&◌}
use Rattle.std.specs.List.{list_all}
use Rattle.std.proofs.lemmas.List.{map-append}
use Rattle.plural_runtime.specs.declared.kinds.AndOr.{AndOr}
use Rattle.plural_runtime.specs.declared.kinds.AndOr.TheVariants.{And, Or}
use Rattle.plural_base.specs.FiveRules.{FiveRules, ArePaired, Paired, passes}
use Rattle.plural_operands.specs.Operands.{Operands}
use Rattle.plural_runtime.specs.PackedRelations.{PackedRelation, groups, at_front, cut_before}
use Rattle.plural_runtime.specs.PackedTruth.{is_true_at, packed_truth}
use Rattle.plural_reference.specs.Truth.{some_group}
use Rattle.plural_base.specs.Inner.OrderedRules.{AreLike, ChooseSame, IsLike, and_after, told_at}

-- whether all relations of a group are true as far as here
abbrev pub done_at : AndOr → Bool → Bool
done_at And so_far = false
done_at Or so_far = so_far

-- whether the group that is open or a later one is true, of what counts of the remaining relations
abbrev pub rest_truth : Bool → List (AndOr × Bool) → Bool
rest_truth so_far [] = so_far
rest_truth so_far (told ∷ rest) = done_at told.0 so_far || rest_truth (and_after told.0 so_far told.1) rest

-- the same of groups, the first of which is open
abbrev groups_truth : Operands → Bool → List (List PackedRelation) → Bool
groups_truth o so_far [] = so_far
groups_truth o so_far (group ∷ others) = (so_far && list_all (is_true_at o) group) || some_group (is_true_at o) others

-- ---- laws of tests

and_true : (b : Bool) → (b && true) ≡ b
and_true true = refl
and_true false = refl

or_false : (b : Bool) → (b || false) ≡ b
or_false true = refl
or_false false = refl

and_assoc : (a b c : Bool) → (a && (b && c)) ≡ ((a && b) && c)
and_assoc true b c = refl
and_assoc false b c = refl

-- ---- one relation more

-- the groups of no relation
none_left : (o : Operands) (so_far : Bool) → groups_truth o so_far (groups []) ≡ so_far
none_left o so_far = or_false (so_far && true) ∙ and_true so_far

-- a relation at the front of groups
at_front_truth : (o : Operands) (so_far : Bool) (r : PackedRelation) (others : List (List PackedRelation))
    → groups_truth o so_far (at_front r others) ≡ groups_truth o (so_far && is_true_at o r) others
at_front_truth o so_far r [] = or_false (so_far && (is_true_at o r && true)) ∙ ap (λ b. so_far && b) (and_true (is_true_at o r))
at_front_truth o so_far r (group ∷ others) =
    ap (λ b. b || some_group (is_true_at o) others) (and_assoc so_far (is_true_at o r) (list_all (is_true_at o) group))

-- groups that are not empty
some_groups : (o : Operands) (r : PackedRelation) (others : List (List PackedRelation))
    → some_group (is_true_at o) (at_front r others) ≡ groups_truth o true (at_front r others)
some_groups o r [] = refl
some_groups o r (group ∷ others) = refl

-- a relation more
one_more : (o : Operands) (so_far : Bool) (how : AndOr) (r : PackedRelation) (others : List (List PackedRelation))
    → groups_truth o so_far (cut_before how (at_front r others))
    ≡ (done_at how so_far || groups_truth o (and_after how so_far (is_true_at o r)) others)
one_more o so_far And r others = at_front_truth o so_far r others
one_more o so_far Or r others =
    ap (λ b. b || some_group (is_true_at o) (at_front r others)) (and_true so_far)
    ∙ ap (λ b. so_far || b) (some_groups o r others ∙ at_front_truth o true r others)

-- all relations, one by one
by_relations : (o : Operands) (so_far : Bool) (relations : List PackedRelation)
    → groups_truth o so_far (groups relations) ≡ rest_truth so_far (map (told_at o) relations)
by_relations o so_far [] = none_left o so_far
by_relations o so_far (r ∷ rs) =
    one_more o so_far r.and_or r (groups rs)
    ∙ ap (λ b. done_at r.and_or so_far || b) (by_relations o (and_after r.and_or so_far (is_true_at o r)) rs)

-- whether some group of a rule's is true
first_open : (o : Operands) (relations : List PackedRelation)
    → some_group (is_true_at o) (groups relations) ≡ groups_truth o true (groups relations)
first_open o [] = refl
first_open o (r ∷ rs) = cut o r.and_or r (groups rs)
  where
    cut : (o : Operands) (how : AndOr) (r : PackedRelation) (others : List (List PackedRelation))
        → some_group (is_true_at o) (cut_before how (at_front r others)) ≡ groups_truth o true (cut_before how (at_front r others))
    cut o And r others = some_groups o r others
    cut o Or r others = refl

-- A rule's truth is told by what counts of its relations.
pub truth_is_told : (o : Operands) (relations : List PackedRelation)
    → packed_truth o relations ≡ rest_truth true (map (told_at o) relations)
unfolding packed_truth
truth_is_told o relations = first_open o relations ∙ by_relations o true relations

-- ---- rules that are like others

-- they are true of the same operands
like_truth : (a b : List PackedRelation) → AreLike a b → (o : Operands) → packed_truth o a ≡ packed_truth o b
like_truth a b like o = truth_is_told o a ∙ ap (rest_truth true) (like o) ∙ sym (truth_is_told o b)

-- also if they may be absent
like_passes : (a b : Option (List PackedRelation)) → Paired AreLike a b → (o : Operands) → passes (packed_truth o) a ≡ passes (packed_truth o) b
like_passes None None like o = refl
like_passes (Some a) (Some b) like o = like_truth a b like o
like_passes None (Some b) like o = absurd like
like_passes (Some a) None like o = absurd like

-- Five of them choose the same category.
pub like_choice : (a b : FiveRules) → ArePaired AreLike a b → ChooseSame a b
like_choice a b like o =
    simp (
      like_passes a.zero b.zero like.zero o,
      like_passes a.one b.one like.one o,
      like_passes a.two b.two like.two o,
      like_passes a.few b.few like.few o,
      like_passes a.many b.many like.many o,
    )

-- ---- rules that are made, relation by relation

-- one relation more
pub like_more : (made rest all : List PackedRelation) (new old : PackedRelation) (o : Operands)
    → map (told_at o) all ≡ map (told_at o) made ++ map (told_at o) (old ∷ rest) → IsLike new old
    → map (told_at o) all ≡ map (told_at o) (made ++ new ∷ []) ++ map (told_at o) rest
like_more made rest all new old o so_far like =
    so_far ∙ ap (λ t. map (told_at o) made ++ t ∷ map (told_at o) rest) (sym (like o))
    ∙ sym (append_assoc (map (told_at o) made) (told_at o new ∷ []) (map (told_at o) rest))
    ∙ ap (λ t. t ++ map (told_at o) rest) (sym (map-append (told_at o) made (new ∷ [])))
