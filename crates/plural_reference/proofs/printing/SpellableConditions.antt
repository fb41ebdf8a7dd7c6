-- A condition that is read from a text is spellable: it has no empty group or list, and its numbers
-- are those of tokens, which fit. From TokensFit to the law of this name; PrintedBack cites it.
use Rattle.std.proofs.Common.{◌≡◌, ◌≢◌, List, [], ◌∷◌, Option, Some, None, sym, subst, inl, inr, arith}
use Rattle.std.proofs.lemmas.List.Elements.{All-from_recursion, All-nil}
use Rattle.std.specs.Prelude.{IfSome}
use Rattle.std.specs.List.{AllByRecursion}
use Rattle.plural_reference.specs.declared.ast.AndCondition.{AndCondition}
use Rattle.plural_reference.specs.declared.ast.Condition.{Condition}
use Rattle.plural_reference.specs.declared.ast.RangeListItem.{RangeListItem}
use Rattle.plural_reference.specs.declared.ast.RangeListItem.TheVariants as items
use Rattle.plural_reference.specs.declared.ast.Relation.{Relation}
use Rattle.plural_reference.specs.declared.ast.Value.{Value}
use Rattle.plural_reference.specs.declared.token.Token.{Token}
use Rattle.plural_reference.specs.declared.token.Token.TheVariants.{Operator, Number, Zero, Comma, Or, And}
use Rattle.plural_reference.specs.Parser.{Separated, token_value, IsItem, IsModulus, IsRelation, IsAndCondition, IsCondition, ReadsUpTo}
use Rattle.plural_reference.specs.PrintingLaws.{FitsToken, IsSpellableItem, IsSpellableRelation}
use Rattle.plural_reference.specs.PrintingLaws.{IsSpellableGroup, IsSpellable, ConditionsOfTextsAreSpellable}
use Rattle.plural_reference.proofs.tokens.TokensFit.{TokenFits, AllFit, fit_left, fit_right, tokens_fit}

-- the value of a token that fits is one that a token holds
value_fits : (t : Token) (v : Value) → TokenFits t → token_value t ≡ Some v → FitsToken v
value_fits (Number n) v h e = let same : record { 0 = n } ≡ v = cc in subst (λ (x : Value). FitsToken x) same h
value_fits Zero v h e = let same : record { 0 = 0 } ≡ v = cc in subst (λ (x : Value). FitsToken x) same (omega arith)
value_fits _ v h e = cc

-- what holds of each part of tokens that fit holds of all parts between separators, of which there
-- is at least one
pub separated_parts : {A : Type 0} (separator : Token) (Part : List Token → A → Type 0) (P : A → Type 0)
    → ((tokens : List Token) (x : A) → AllFit tokens → Part tokens x → P x) → (tokens : List Token) (xs : List A)
    → AllFit tokens → Separated separator Part tokens xs → (xs ≢ []) × AllByRecursion P xs
separated_parts separator Part P each tokens [] f h = absurd h
separated_parts separator Part P each tokens (x ∷ []) f h = (λ e. cc, (each tokens x f h, tt))
separated_parts separator Part P each tokens (x ∷ y ∷ ys) f h =
    let fits = subst AllFit h.2 f in (
      λ e. cc,
      (
        each h.0 x (fit_left h.0 (separator ∷ h.1) fits) h.3,
        (separated_parts separator Part P each h.1 (y ∷ ys) (fit_right h.0 (separator ∷ h.1) fits).1 h.4).1,
      ),
    )

-- the ends of an item of tokens that fit are held by tokens
item_spellable : (tokens : List Token) (x : RangeListItem) → AllFit tokens → IsItem tokens x → IsSpellableItem x
item_spellable tokens (items.Value v) f h = value_fits h.0 v (subst AllFit h.1 f).0 h.2
item_spellable tokens (items.Range a b) f h =
    let fits = subst AllFit h.2 f in (value_fits h.0 a fits.0 h.3, value_fits h.1 b fits.1.1.0 h.4)

-- so is a modulus of such tokens
modulus_spellable : (tokens : List Token) (m : Option Value) → AllFit tokens → IsModulus tokens m → IfSome m FitsToken
modulus_spellable tokens None f h = tt
modulus_spellable tokens (Some v) f h = value_fits h.0 v (subst AllFit h.1 f).1.0 h.2

-- a relation of such tokens has an item, and tokens hold its numbers
relation_spellable : (tokens : List Token) (r : Relation) → AllFit tokens → IsRelation tokens r → IsSpellableRelation r
relation_spellable tokens r f h =
    let fits = subst AllFit h.2 f in
    let left = subst AllFit h.3.2 (fit_left h.0 (Operator r.operator ∷ h.1) fits) in
    let list = separated_parts Comma IsItem IsSpellableItem item_spellable h.1 r.range_list.0
    (fit_right h.0 (Operator r.operator ∷ h.1) fits).1 h.4 in
    (modulus_spellable h.3.1 r.expression.modulus left.1 h.3.4, list.0, All-from_recursion IsSpellableItem r.range_list.0 list.1)

-- an and-condition of such tokens has a relation, and tokens hold its numbers
group_spellable : (tokens : List Token) (g : AndCondition) → AllFit tokens → IsAndCondition tokens g → IsSpellableGroup g
group_spellable tokens g f h =
    let relations = separated_parts And IsRelation IsSpellableRelation relation_spellable tokens g.0 f h in
    (relations.0, All-from_recursion IsSpellableRelation g.0 relations.1)

-- a condition of such tokens is spellable
condition_spellable : (tokens : List Token) (c : Condition) → AllFit tokens → IsCondition tokens c → IsSpellable c
condition_spellable tokens c f h =
    All-from_recursion IsSpellableGroup c.0
    (separated_parts Or IsAndCondition IsSpellableGroup group_spellable tokens c.0 f h).1

-- what is read of tokens that fit is a spellable condition
pub read_spellable : (tokens : List Token) (c : Condition) (rest : List Token) → AllFit tokens → ReadsUpTo tokens c rest → IsSpellable c
read_spellable tokens c rest f (inl h) = subst (λ (x : Condition). IsSpellable x) (sym h.0) (All-nil IsSpellableGroup)
read_spellable tokens c rest f (inr h) = condition_spellable h.0 c (fit_left h.0 rest (subst AllFit h.1 f)) h.2

-- what is read from a text is a spellable condition
pub conditions_of_texts_are_spellable : ConditionsOfTextsAreSpellable
conditions_of_texts_are_spellable text c h = read_spellable h.0 c h.2.0 (tokens_fit text h.0 h.1) h.2.1
