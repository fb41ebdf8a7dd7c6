-- The printed text of a rule is that of its tree.
use Rattle.std.proofs.Common.{◌≡◌, ℕ, List, [], ◌∷◌, ◌++◌, map, refl, sym, ap, ◌∙◌, append_assoc, Bool, true, false}
use Rattle.std.specs.Prelude.{◌==◌, flat_map, codes, if◌then◌else◌}
use Rattle.std.specs.Fmt.{decimal}
use Rattle.plural_reference.specs.declared.ast.Relation.{Relation}
use Rattle.plural_reference.specs.Serializer.{joined, prefixed, value_text, operator_text, expression_text, item_text}
use Rattle.plural_operands.specs.Operands.{operand_text}
use Rattle.plural_reference.specs.Serializer.{relation_text, and_condition_text, condition_text}
use Rattle.plural_reference.specs.Truth.{RelationMeaning}
use Rattle.plural_runtime.specs.declared.kinds.AndOr.{AndOr}
use Rattle.plural_runtime.specs.declared.kinds.AndOr.TheVariants.{And, Or}
use Rattle.plural_runtime.specs.declared.range.RangeOrValue.{RangeOrValue}
use Rattle.plural_runtime.specs.PackedRelations.{PackedRelation, groups, at_front, cut_before}
use Rattle.plural_runtime.specs.PackedTree.{unpacked_range, unpacked_modulus, unpacked_meaning, unpacked_relation, unpacked_groups}
use Rattle.plural_runtime.specs.PackedTree.{unpacked}
use Rattle.plural_runtime.specs.RuleKinds.{range_or_value}
use Rattle.plural_runtime.specs.RuleText.{mark_text, modulus_text, operator_shown, range_shown, ranges_shown, relation_shown}
use Rattle.plural_runtime.specs.RuleText.{others_shown, relations_shown}
use Rattle.plural_runtime.proofs.texts.JoinedTexts.{joined-flat_map, joined-map}
use Rattle.plural_runtime.proofs.walks.Walks.{first_group}

-- ---- a relation

-- a range of the tree is printed as the range is
range_text : (range : ℕ × ℕ) → item_text (unpacked_range range) ≡ range_shown (range_or_value range)
range_text range = by (range.0 == range.1) refl
  where
    by : (same : Bool) → (range.0 == range.1) ≡ same → item_text (unpacked_range range) ≡ range_shown (range_or_value range)
    by true h = rw h refl
    by false h = rw h (append_assoc (decimal range.0) (codes "..") (decimal range.1))

modulus_text-is : (modulus : ℕ) → prefixed (codes " % ") value_text (unpacked_modulus modulus) ≡ modulus_text modulus
modulus_text-is modulus = by (modulus == 0) refl
  where
    by : (none : Bool) → (modulus == 0) ≡ none → prefixed (codes " % ") value_text (unpacked_modulus modulus) ≡ modulus_text modulus
    by true h = rw h refl
    by false h = rw h refl

-- five texts, joined in another order
regroup : (a b c d e : List ℕ) → (((a ++ b) ++ c) ++ d) ++ e ≡ a ++ (((b ++ c) ++ d) ++ e)
regroup a b c d e = simp append_assoc

-- a relation of the tree is printed as the relation is
pub relation_text-is : (relation : RelationMeaning) → relation_text (unpacked_meaning relation) ≡ relation_shown relation
relation_text-is relation =
    let list = joined-map (codes ", ") item_text
    (λ range. range_shown (range_or_value range)) unpacked_range range_text relation.ranges in
    ap (λ l. (((expression_text (unpacked_meaning relation).expression ++ codes " ") ++ operator_text relation.operator)
    ++ codes " ") ++ l) list
    ∙ regroup (expression_text (unpacked_meaning relation).expression) (codes " ") (operator_text relation.operator) (codes " ")
    (ranges_shown relation.ranges)
    ∙ ap (λ m. (operand_text relation.operand ++ m) ++ (operator_shown relation.operator ++ ranges_shown relation.ranges))
    (modulus_text-is relation.modulus)

-- ---- groups

-- the text of a group, as its relations show
abbrev group_shown : List PackedRelation → List ℕ
group_shown group = joined (codes " and ") (λ (relation : PackedRelation). relation_shown relation.meaning) group

-- relations that continue a group, and groups that follow
abbrev ands : List PackedRelation → List ℕ
ands group = flat_map (λ (relation : PackedRelation). codes " and " ++ relation_shown relation.meaning) group

-- groups with ` or ` before each
abbrev ors : List (List PackedRelation) → List ℕ
ors gs = flat_map (λ (group : List PackedRelation). codes " or " ++ group_shown group) gs

-- a group is its first relation, and the others with ` and ` before each
group_shown-cons : (relation : PackedRelation) (group : List PackedRelation)
    → group_shown (relation ∷ group) ≡ relation_shown relation.meaning ++ ands group
group_shown-cons relation group = joined-flat_map (codes " and ") (λ (r : PackedRelation). relation_shown r.meaning) relation group

-- the groups after the first relation
abbrev tail_shown : List (List PackedRelation) → List ℕ
tail_shown [] = []
tail_shown (group ∷ gs) = ands group ++ ors gs

-- one relation more at the front, after the first one
step_shown : (mark : AndOr) (relation : PackedRelation) (group : List PackedRelation) (gs : List (List PackedRelation)) →
    tail_shown (cut_before mark (at_front relation (group ∷ gs)))
    ≡ (mark_text false mark ++ relation_shown relation.meaning) ++ tail_shown (group ∷ gs)
step_shown And relation group gs = append_assoc (codes " and " ++ relation_shown relation.meaning) (ands group) (ors gs)
step_shown Or relation group gs =
    ap (λ g. (codes " or " ++ g) ++ ors gs) (group_shown-cons relation group)
    ∙ four (codes " or ") (relation_shown relation.meaning) (ands group) (ors gs)
  where
    four : (a b c d : List ℕ) → (a ++ (b ++ c)) ++ d ≡ (a ++ b) ++ (c ++ d)
    four a b c d = simp append_assoc

-- the relations after the first one are printed by groups, or one after the other
others_shown-is : (relations : List PackedRelation) → tail_shown (groups relations) ≡ others_shown relations
others_shown-is [] = refl
others_shown-is (relation ∷ relations) =
    let f = first_group relations in
    ap (λ gs. tail_shown (cut_before relation.and_or (at_front relation gs))) f.is
    ∙ step_shown relation.and_or relation f.first f.others
    ∙ ap (λ gs. (mark_text false relation.and_or ++ relation_shown relation.meaning) ++ tail_shown gs) (sym f.is)
    ∙ ap (λ t. (mark_text false relation.and_or ++ relation_shown relation.meaning) ++ t) (others_shown-is relations)

-- the groups, from the first relation on
abbrev groups_shown : List (List PackedRelation) → List ℕ
groups_shown gs = joined (codes " or ") group_shown gs

-- one relation more at the front, as the first one
first_shown : (mark : AndOr) (relation : PackedRelation) (group : List PackedRelation) (gs : List (List PackedRelation)) →
    groups_shown (cut_before mark (at_front relation (group ∷ gs)))
    ≡ (mark_text true mark ++ relation_shown relation.meaning) ++ tail_shown (group ∷ gs)
first_shown And relation group gs =
    joined-flat_map (codes " or ") group_shown (relation ∷ group) gs ∙ ap (λ g. g ++ ors gs) (group_shown-cons relation group)
    ∙ append_assoc (relation_shown relation.meaning) (ands group) (ors gs)
first_shown Or relation group gs =
    joined-flat_map (codes " or ") group_shown [] ((relation ∷ group) ∷ gs) ∙ step_shown Or relation group gs

-- relations are printed by groups, or one after the other
shown_groups : (relations : List PackedRelation) (relation : PackedRelation)
    → groups_shown (groups (relation ∷ relations)) ≡ relations_shown (relation ∷ relations)
shown_groups relations relation =
    let f = first_group relations in
    ap (λ gs. groups_shown (cut_before relation.and_or (at_front relation gs))) f.is
    ∙ first_shown relation.and_or relation f.first f.others
    ∙ ap (λ gs. (mark_text true relation.and_or ++ relation_shown relation.meaning) ++ tail_shown gs) (sym f.is)
    ∙ ap (λ t. (mark_text true relation.and_or ++ relation_shown relation.meaning) ++ t) (others_shown-is relations)

-- a group of the tree is printed as the group is
group_text-is : (group : List PackedRelation) → joined (codes " and ") relation_text (map unpacked_relation group) ≡ group_shown group
group_text-is group = joined-map (codes " and ") relation_text (λ (r : PackedRelation). relation_shown r.meaning) unpacked_relation
    (λ r. relation_text-is r.meaning) group

-- the text of the tree
pub condition_text-is : (relations : List PackedRelation) → condition_text (unpacked relations) ≡ relations_shown relations
unfolding unpacked
condition_text-is [] = refl
condition_text-is (relation ∷ relations) =
    joined-map (codes " or ") and_condition_text (λ (group : List Relation). joined (codes " and ") relation_text group)
    (λ (group : List Relation). record { 0 = group }) (λ group. refl) (unpacked_groups (relation ∷ relations))
    ∙ joined-map (codes " or ") (λ (group : List Relation). joined (codes " and ") relation_text group) group_shown
    (map unpacked_relation) group_text-is (groups (relation ∷ relations))
    ∙ shown_groups relations relation

-- ---- one relation more is printed

-- the printed text of relations, which may be the first ones
abbrev pub shown_from : Bool → List PackedRelation → List ℕ
shown_from true relations = relations_shown relations
shown_from false relations = others_shown relations

-- no relation prints nothing
pub shown_none : (is_first : Bool) → shown_from is_first [] ≡ []
shown_none true = refl
shown_none false = refl

-- a relation and those after it
pub shown_more : (is_first : Bool) (so_far : List ℕ) (relation : PackedRelation) (relations : List PackedRelation)
    → so_far ++ shown_from is_first (relation ∷ relations)
    ≡ (so_far ++ (mark_text is_first relation.and_or ++ relation_shown relation.meaning)) ++ shown_from false relations
shown_more true so_far relation relations =
    sym (append_assoc so_far (mark_text true relation.and_or ++ relation_shown relation.meaning) (others_shown relations))
shown_more false so_far relation relations =
    sym (append_assoc so_far (mark_text false relation.and_or ++ relation_shown relation.meaning) (others_shown relations))

-- ---- one range more is printed

-- the printed text of ranges, which may be the first ones; otherwise a comma precedes each
abbrev pub ranges_from : Bool → List RangeOrValue → List ℕ
ranges_from true ranges = joined (codes ", ") range_shown ranges
ranges_from false ranges = flat_map (λ range. codes ", " ++ range_shown range) ranges

-- from the first one on that is the list as it is shown
pub ranges_all : (ranges : List (ℕ × ℕ)) → ranges_from true (map range_or_value ranges) ≡ ranges_shown ranges
ranges_all ranges = joined-map (codes ", ") range_shown (λ range. range_shown (range_or_value range)) range_or_value
    (λ range. refl) ranges

-- no range prints nothing
pub ranges_none : (is_first : Bool) → ranges_from is_first [] ≡ []
ranges_none true = refl
ranges_none false = refl

-- a range and those after it
pub ranges_more : (is_first : Bool) (so_far : List ℕ) (range : RangeOrValue) (ranges : List RangeOrValue)
    → so_far ++ ranges_from is_first (range ∷ ranges)
    ≡ (so_far ++ ((if is_first then [] else codes ", ") ++ range_shown range)) ++ ranges_from false ranges
ranges_more true so_far range ranges =
    ap (λ text. so_far ++ text) (joined-flat_map (codes ", ") range_shown range ranges)
    ∙ sym (append_assoc so_far (range_shown range) (ranges_from false ranges))
ranges_more false so_far range ranges = sym (append_assoc so_far (codes ", " ++ range_shown range) (ranges_from false ranges))
