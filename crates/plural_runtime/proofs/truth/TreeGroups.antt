-- The groups of a rule and of its tree.
use Rattle.std.proofs.Common.{◌≡◌, ℕ, ◌<◌, List, [], ◌∷◌, ◌++◌, length, map, refl, sym, ap, ◌∙◌, arith, append_assoc, append-nil}
use Rattle.std.specs.Prelude.{◌==◌, Bool, true, false}
use Rattle.std.proofs.lemmas.List.{map-append}
use Rattle.plural_reference.specs.declared.ast.AndCondition.{AndCondition}
use Rattle.plural_reference.specs.declared.ast.Relation.{Relation}
use Rattle.plural_runtime.specs.declared.kinds.AndOr.{AndOr}
use Rattle.plural_runtime.specs.declared.kinds.AndOr.TheVariants.{And, Or}
use Rattle.plural_runtime.specs.RuleKinds.{item_of, range_or_value}
use Rattle.plural_runtime.specs.PackedRelations.{PackedRelation, groups, at_front, cut_before}
use Rattle.plural_runtime.specs.PackedTree.{packed_relation, packed_groups, packed, unpacked_range}
use Rattle.plural_runtime.specs.PackedTree.{unpacked_relation, unpacked_groups, unpacked}
use Rattle.plural_runtime.specs.Inner.RuleViews.{done_before, open_before}
use Rattle.plural_runtime.proofs.truth.Meanings.{meaning_again}
use Rattle.plural_runtime.proofs.trees.TreeWalks.{all_and}
use Rattle.plural_runtime.proofs.walks.Walks.{first_group}

-- ---- the groups of a condition

-- the groups of and-conditions that are made of groups are these
pub wrapped : (groups : List (List Relation))
    → map (λ (group : AndCondition). group.0) (map (λ (group : List Relation). record { 0 = group }) groups) ≡ groups
wrapped [] = refl
wrapped (group ∷ groups) = ap (λ gs. group ∷ gs) (wrapped groups)

-- and-conditions come back from their groups
pub unwrapped : (conditions : List AndCondition)
    → map (λ (group : List Relation). record { 0 = group }) (map (λ (group : AndCondition). group.0) conditions) ≡ conditions
unwrapped [] = refl
unwrapped (condition ∷ conditions) = ap (λ cs. condition ∷ cs) (unwrapped conditions)

-- ---- packing again

-- a relation is the same after its tree, under its own mark
relation_again : (mark : AndOr) (relation : PackedRelation) → relation.and_or ≡ mark
    → packed_relation mark (unpacked_relation relation) ≡ relation
relation_again mark relation h = rw (meaning_again relation.meaning, sym h) refl

-- a relation at the front of groups is packed at the front
packed-front : (mark : AndOr) (relation : PackedRelation) (gs : List (List PackedRelation)) → relation.and_or ≡ mark
    → packed_groups (map (map unpacked_relation) (cut_before mark (at_front relation gs)))
    ≡ relation ∷ packed_groups (map (map unpacked_relation) gs)
packed-front And relation [] h = rw (relation_again And relation h) refl
packed-front And relation (g ∷ gs) h = rw (relation_again And relation h, all_and (map unpacked_relation g)) refl
packed-front Or relation [] h = rw (relation_again Or relation h) refl
packed-front Or relation (g ∷ gs) h = rw (relation_again Or relation h, all_and (map unpacked_relation g)) refl

-- the trees of groups pack to the relations of the groups
packed-groups : (relations : List PackedRelation) → packed_groups (map (map unpacked_relation) (groups relations)) ≡ relations
packed-groups [] = refl
packed-groups (relation ∷ relations) = packed-front relation.and_or relation (groups relations) refl
    ∙ ap (λ r. relation ∷ r) (packed-groups relations)

packed-unpacked_groups : (relations : List PackedRelation) → packed_groups (unpacked_groups relations) ≡ relations
packed-unpacked_groups [] = refl
packed-unpacked_groups (relation ∷ relations) = packed-groups (relation ∷ relations)

-- the tree of relations packs to them again
pub packed-unpacked : (relations : List PackedRelation) → packed (unpacked relations) ≡ relations
unfolding packed unpacked
packed-unpacked relations = ap packed_groups (wrapped (unpacked_groups relations)) ∙ packed-unpacked_groups relations

-- ---- making the tree

-- the item of a range is the one in the tree
item_of-range : (range : ℕ × ℕ) → item_of (range_or_value range) ≡ unpacked_range range
item_of-range range = by (range.0 == range.1) refl
  where
    by : (same : Bool) → (range.0 == range.1) ≡ same → item_of (range_or_value range) ≡ unpacked_range range
    by true h = rw h refl
    by false h = rw h refl

-- the items of all ranges
pub made_all : (ranges : List (ℕ × ℕ)) → map item_of (map range_or_value ranges) ≡ map unpacked_range ranges
made_all [] = refl
made_all (range ∷ ranges) = ap (λ item. item ∷ map item_of (map range_or_value ranges)) (item_of-range range)
    ∙ ap (λ items. unpacked_range range ∷ items) (made_all ranges)

-- the tree of no relation
pub no_relations : (conditions : List AndCondition) (relations : List PackedRelation) → length relations ≡ 0 → conditions ≡ []
    → record { 0 = conditions } ≡ unpacked relations
unfolding unpacked
no_relations conditions [] h e = ap (λ (cs : List AndCondition). record { 0 = cs }) e
no_relations conditions (relation ∷ relations) h e = absurd (omega arith)

-- the groups of a tree, if some are done, one is open, and relations remain
abbrev pub glued : List (List Relation) → List Relation → List PackedRelation → List (List Relation)
glued done group [] = done ++ group ∷ []
glued done group (relation ∷ relations) =
    glued (done_before relation.and_or done group) (open_before relation.and_or group ++ unpacked_relation relation ∷ []) relations

-- the open group and the first of the others are one
abbrev pub with_open : List Relation → List (List Relation) → List (List Relation)
with_open group [] = group ∷ []
with_open group (first ∷ others) = (group ++ first) ∷ others

-- one relation more goes into the open group, or opens a new one
open_step : (mark : AndOr) (done : List (List Relation)) (group : List Relation) (relation : PackedRelation)
    (gs : List (List PackedRelation)) →
    done_before mark done group ++ with_open (open_before mark group ++ unpacked_relation relation ∷ [])
    (map (map unpacked_relation) gs) ≡ done ++ with_open group (map (map unpacked_relation) (cut_before mark (at_front relation gs)))
open_step And done group relation [] = refl
open_step And done group relation (g ∷ gs) =
    ap (λ p. done ++ p ∷ map (map unpacked_relation) gs)
    (append_assoc group (unpacked_relation relation ∷ []) (map unpacked_relation g))
open_step Or done group relation [] = append_assoc done (group ∷ []) _
    ∙ ap (λ p. done ++ p ∷ (unpacked_relation relation ∷ []) ∷ []) (sym (append-nil group))
open_step Or done group relation (g ∷ gs) = append_assoc done (group ∷ []) _
    ∙ ap (λ p. done ++ p ∷ (unpacked_relation relation ∷ map unpacked_relation g) ∷ map (map unpacked_relation) gs)
    (sym (append-nil group))

-- gluing relations to groups that are done and to an open one appends the groups of the relations
-- to these
glued-groups : (done : List (List Relation)) (group : List Relation) (relations : List PackedRelation)
    → glued done group relations ≡ done ++ with_open group (map (map unpacked_relation) (groups relations))
glued-groups done group [] = ap (λ p. done ++ p ∷ []) (sym (append-nil group))
glued-groups done group (relation ∷ relations) =
    glued-groups (done_before relation.and_or done group)
    (open_before relation.and_or group ++ unpacked_relation relation ∷ []) relations
    ∙ open_step relation.and_or done group relation (groups relations)

-- gluing all relations makes the groups of the tree
pub glued-all : (relations : List PackedRelation) → 0 < length relations → glued [] [] relations ≡ unpacked_groups relations
glued-all [] h = absurd (omega arith)
glued-all (relation ∷ relations) h =
    let f = first_group (relation ∷ relations) in
    glued-groups [] [] (relation ∷ relations) ∙ ap (λ gs. with_open [] (map (map unpacked_relation) gs)) f.is
    ∙ ap (map (map unpacked_relation)) (sym f.is)

-- and-conditions whose groups are those of the tree are the tree
pub grouped_tree : (conditions : List AndCondition) (relations : List PackedRelation)
    → map (λ (c : AndCondition). c.0) conditions ≡ unpacked_groups relations → record { 0 = conditions } ≡ unpacked relations
unfolding unpacked
grouped_tree conditions relations h =
    ap (λ (cs : List AndCondition). record { 0 = cs })
    (sym (unwrapped conditions) ∙ ap (map (λ (g : List Relation). record { 0 = g })) h)
