-- Five texts have one list of notes.
use Rattle.std.proofs.Common.{◌≡◌, ℕ, List, [], ◌∷◌, ◌++◌, Option, Some, None, Ok, Err, inl, inr, refl, ap, sym, subst, ◌∙◌}
use Rattle.plural_base.specs.declared.category.PluralCategory.{PluralCategory}
use Rattle.plural_base.specs.declared.category.PluralCategory.TheVariants.{Zero, One, Two, Few, Many}
use Rattle.plural_base.specs.declared.five.Five.{Five}
use Rattle.plural_reference.specs.Inner.RuleReader.{condition_of_text}
use Rattle.plural_reference.specs.ReadingLaws.{TextsAreRead}
use Rattle.plural_reference.specs.Serializer.{condition_text, relation_text}
use Rattle.plural_reference.specs.declared.ast.Condition.{Condition}
use Rattle.plural_reference.specs.declared.ast.RangeListItem.{RangeListItem}
use Rattle.plural_reference.specs.declared.ast.RangeListItem.TheVariants as items
use Rattle.plural_reference.specs.declared.ast.Relation.{Relation}
use Rattle.rule_notes.specs.ConditionCauses.{AreConditionCauses, AreGroupCauses, AreItemCauses, AreRelationCauses, EachNotes, IsNotedIf, NotesBoth, IsEmpty, IsUpsideDown}
use Rattle.rule_notes.specs.EarlierRules.{AreAlikeCauses, HasFirstText, IsTakenByEarlier, alike_if}
use Rattle.rule_notes.specs.RuleNotes.{AddsRule, AreNotesOf, AreNotesOfRule, AreRuleCauses, AreRuleNotes, AreCategoryRulesOf, HasCondition, notes_under, rule_if}
use Rattle.rule_notes.specs.declared.category_rule.CategoryRule.{CategoryRule}
use Rattle.rule_notes.specs.declared.cause.Cause.TheVariants.{Empty, Taken, UpsideDown}

-- at most one thing is so
abbrev AtMostOne : {A : Type 0} → (A → Type 0) → Type 0
AtMostOne {A} Is = (a b : A) → Is a → Is b → a ≡ b

-- ---- Lists

one_if : {A : Type 0} (Fact : Type 0) (noted : A) → AtMostOne (IsNotedIf Fact noted)
one_if Fact noted a b (inl (holds, is)) (inl (also, same)) = is ∙ sym same
one_if Fact noted a b (inl (holds, is)) (inr (fails, same)) = absurd (fails holds)
one_if Fact noted a b (inr (fails, is)) (inl (holds, same)) = absurd (fails holds)
one_if Fact noted a b (inr (fails, is)) (inr (also, same)) = is ∙ sym same

one_of_both : {A : Type 0} (First Second : List A → Type 0) → AtMostOne First → AtMostOne Second → AtMostOne (NotesBoth First Second)
one_of_both First Second one two a b (f, s, first, second, is) (g, t, other, another, same) =
    is ∙ ap (λ l. l ++ s) (one f g first other) ∙ ap (λ l. g ++ l) (two s t second another) ∙ sym same

one_of_each : {X A : Type 0} (Noted : X → List A → Type 0) → ((x : X) → AtMostOne (Noted x)) → (xs : List X) → AtMostOne (EachNotes Noted xs)
one_of_each Noted one [] a b is same = is ∙ sym same
one_of_each Noted one (x ∷ xs) a b is same =
    one_of_both (Noted x) (EachNotes Noted xs) (one x) (one_of_each Noted one xs) a b is same

-- ---- Causes

one_of_item : (item : RangeListItem) → AtMostOne (AreItemCauses item)
one_of_item (items.Range start end) a b is same =
    one_if (IsUpsideDown (items.Range start end)) (UpsideDown start.0 end.0) a b is same
one_of_item (items.Value value) a b is same = is ∙ sym same

one_of_relation : (relation : Relation) → AtMostOne (AreRelationCauses relation)
one_of_relation relation =
    one_of_both (EachNotes AreItemCauses relation.range_list.0) (IsNotedIf (IsEmpty relation) (Empty (relation_text relation)))
    (one_of_each AreItemCauses one_of_item relation.range_list.0) (one_if (IsEmpty relation) (Empty (relation_text relation)))

one_of_condition : (condition : Condition) → AtMostOne (AreConditionCauses condition)
one_of_condition condition =
    one_of_each AreGroupCauses (λ group. one_of_each AreRelationCauses one_of_relation group.0) condition.0

one_text : (rules : List CategoryRule) (text : List ℕ) → AtMostOne (HasFirstText rules text)
one_text [] text a b is same = is ∙ sym same
one_text (first ∷ rules) text a b (inl (alike, is)) (inl (too, same)) = is ∙ sym same
one_text (first ∷ rules) text a b (inl (alike, is)) (inr (other, later)) = absurd (other alike)
one_text (first ∷ rules) text a b (inr (other, later)) (inl (alike, is)) = absurd (other alike)
one_text (first ∷ rules) text a b (inr (other, later)) (inr (too, also)) = one_text rules text a b later also

one_alike : (earlier : List CategoryRule) (rule : CategoryRule) → AtMostOne (AreAlikeCauses earlier rule)
one_alike earlier rule a b (category, first, is) (other, also, same) =
    is ∙ ap alike_if (one_text earlier (condition_text rule.condition) category other first also) ∙ sym same

one_of_rule : (earlier : List CategoryRule) (rule : CategoryRule) → AtMostOne (AreRuleCauses earlier rule)
one_of_rule earlier rule =
    let taken = IsNotedIf (IsTakenByEarlier earlier rule) Taken in
    one_of_both (AreConditionCauses rule.condition) (NotesBoth (AreAlikeCauses earlier rule) taken) (one_of_condition rule.condition)
    (one_of_both (AreAlikeCauses earlier rule) taken (one_alike earlier rule) (one_if (IsTakenByEarlier earlier rule) Taken))

-- ---- Notes

one_under : (earlier : List CategoryRule) (rule : CategoryRule) → AtMostOne (AreNotesOfRule earlier rule)
one_under earlier rule a b (causes, are, is) (others, too, same) =
    is ∙ ap (notes_under rule.category) (one_of_rule earlier rule causes others are too) ∙ sym same

one_of_rules : (earlier rules : List CategoryRule) → AtMostOne (AreRuleNotes earlier rules)
one_of_rules earlier [] a b is same = is ∙ sym same
one_of_rules earlier (rule ∷ rules) a b is same =
    one_of_both (AreNotesOfRule earlier rule) (AreRuleNotes (earlier ++ rule ∷ []) rules) (one_under earlier rule)
    (one_of_rules (earlier ++ rule ∷ []) rules) a b is same

-- ---- The rules of texts

-- a text that has a condition isn't refused
never : TextsAreRead → (text : List ℕ) (c : Condition) → HasCondition (Some text) (Some c) → HasCondition (Some text) None → ⊥
never law text c (short, reads) (inl long) = cc
never law text c (short, reads) (inr (fault, faulty)) =
    let is : condition_of_text text ≡ Ok c = ((law text).0 c).0 reads in
    let isnt : condition_of_text text ≡ Err fault = ((law text).1 fault).0 faulty in cc

one_condition : TextsAreRead → (text : Option (List ℕ)) → AtMostOne (HasCondition text)
one_condition law None a b is same = is ∙ sym same
one_condition law (Some text) (Some a) (Some b) (short, reads) (too, also) =
    let is : condition_of_text text ≡ Ok a = ((law text).0 a).0 reads in
    let same : condition_of_text text ≡ Ok b = ((law text).0 b).0 also in
    let equal : a ≡ b = cc in ap Some equal
one_condition law (Some text) (Some a) None has refused = absurd (never law text a has refused)
one_condition law (Some text) None (Some b) refused has = absurd (never law text b has refused)
one_condition law (Some text) None None refused too = refl

one_more : TextsAreRead → (category : PluralCategory) (text : Option (List ℕ)) (earlier others a b : List CategoryRule) → earlier ≡ others
    → AddsRule category text earlier a → AddsRule category text others b → a ≡ b
one_more law category text earlier others a b same (c, has, is) (d, also, too) =
    is ∙ ap (λ l. l ++ rule_if category c) same ∙ ap (λ o. others ++ rule_if category o) (one_condition law text c d has also) ∙ sym too

one_list_of_rules : TextsAreRead → (texts : Five (Option (List ℕ))) → AtMostOne (AreCategoryRulesOf texts)
one_list_of_rules law texts a b (z, o, t, f, zero, one, two, few, many) (y, p, s, g, zero', one', two', few', many') =
    let first = one_more law Zero texts.zero [] [] z y refl zero zero' in
    let second = one_more law One texts.one z y o p first one one' in
    let third = one_more law Two texts.two o p t s second two two' in
    let fourth = one_more law Few texts.few t s f g third few few' in
    one_more law Many texts.many f g a b fourth many many'

pub one_list : TextsAreRead → (texts : Five (Option (List ℕ))) → AtMostOne (AreNotesOf texts)
one_list law texts a b (rules, are, noted) (others, too, also) =
    let same : rules ≡ others = one_list_of_rules law texts rules others are too in
    one_of_rules [] others a b (subst (λ (l : List CategoryRule). AreRuleNotes [] l a) same noted) also
