-- Packed elements have the values of the elements that they were packed from.
use Rattle.std.proofs.Common.{◌≡◌, ℕ, List, [], ◌∷◌, ◌++◌, Bool, true, false, cond, Option, Some, None, refl, sym, ap, ◌∙◌}
use Rattle.std.specs.Prelude.{◌==◌, ◌&&◌, unwrap_or}
use Rattle.std.specs.Str.{bytes_eq}
use Rattle.std.proofs.lemmas.Bool.{eqb-true}
use Rattle.std.proofs.lemmas.Slice.Eq.{bytes_eq-Decides}
use Rattle.plural_operands.specs.Operands.{Operands}
use Rattle.plural_base.specs.declared.category.PluralCategory.{PluralCategory}
use Rattle.plural_base.specs.declared.category.PluralCategory.TheVariants.{Zero, One, Two, Few, Many, Other}
use Rattle.plural_base.specs.FiveRules.{FiveRules, first_category}
use Rattle.plural_runtime.specs.PackedTruth.{packed_truth}
use Rattle.icu_plurals.specs.Elements.{Elements, of_category, element_at, explicit_at, unless_equal}
use Rattle.icu_plurals.specs.PackedElements.{PackedValue, PackedItem, elements_of, is_same_value, item_at, none_if_empty}
use Rattle.icu_plurals.specs.PackedElements.{packed_items, packed_of, value_of_key, without_repeats}

-- ---- the value of a key among items

-- an item of another key is skipped
skip : (key other : ℕ) (value : Option PackedValue) (items : List PackedItem) → (other == key) ≡ false
    → value_of_key key (item_at other value ++ items) ≡ value_of_key key items
skip key other None items h = refl
skip key other (Some v) items h = rw h refl

-- if the only item has another key, this key has no value
skip_last : (key other : ℕ) (value : Option PackedValue) → (other == key) ≡ false → value_of_key key (item_at other value) ≡ None
skip_last key other None h = refl
skip_last key other (Some v) h = rw h refl

-- the first item of a key gives its value
take_it : (key : ℕ) (value : Option PackedValue) (items : List PackedItem) → (key == key) ≡ true → value_of_key key items ≡ None
    → value_of_key key (item_at key value ++ items) ≡ value
take_it key None items h none = none
take_it key (Some v) items h none = rw h refl

-- the only item gives the value of its key
take_last : (key : ℕ) (value : Option PackedValue) → (key == key) ≡ true → value_of_key key (item_at key value) ≡ value
take_last key None h = refl
take_last key (Some v) h = rw h refl

abbrev behind5 : Option PackedValue → Option PackedValue → List PackedItem
behind5 v5 v6 = item_at 5 v5 ++ item_at 6 v6

abbrev behind4 : Option PackedValue → Option PackedValue → Option PackedValue → List PackedItem
behind4 v4 v5 v6 = item_at 4 v4 ++ behind5 v5 v6

abbrev behind3 : Option PackedValue → Option PackedValue → Option PackedValue → Option PackedValue → List PackedItem
behind3 v3 v4 v5 v6 = item_at 3 v3 ++ behind4 v4 v5 v6

abbrev behind2 : Option PackedValue → Option PackedValue → Option PackedValue → Option PackedValue → Option PackedValue → List PackedItem
behind2 v2 v3 v4 v5 v6 = item_at 2 v2 ++ behind3 v3 v4 v5 v6

abbrev behind1 : Option PackedValue → Option PackedValue → Option PackedValue → Option PackedValue → Option PackedValue
    → Option PackedValue → List PackedItem
behind1 v1 v2 v3 v4 v5 v6 = item_at 1 v1 ++ behind2 v2 v3 v4 v5 v6

-- the seven items in the order of their keys
abbrev seven : Option PackedValue → Option PackedValue → Option PackedValue → Option PackedValue → Option PackedValue
    → Option PackedValue → Option PackedValue → List PackedItem
seven v0 v1 v2 v3 v4 v5 v6 = item_at 0 v0 ++ behind1 v1 v2 v3 v4 v5 v6

record AreAt (v0 v1 v2 v3 v4 v5 v6 : Option PackedValue) (items : List PackedItem) : Type 0 where
  pub at0 : value_of_key 0 items ≡ v0
  pub at1 : value_of_key 1 items ≡ v1
  pub at2 : value_of_key 2 items ≡ v2
  pub at3 : value_of_key 3 items ≡ v3
  pub at4 : value_of_key 4 items ≡ v4
  pub at5 : value_of_key 5 items ≡ v5
  pub at6 : value_of_key 6 items ≡ v6

-- among the seven items each key has its own value
are_at : (v0 v1 v2 v3 v4 v5 v6 : Option PackedValue) → AreAt v0 v1 v2 v3 v4 v5 v6 (seven v0 v1 v2 v3 v4 v5 v6)
are_at v0 v1 v2 v3 v4 v5 v6 = record {
  at0 =
      take_it 0 v0 _ refl
      (skip 0 1 v1 (behind2 v2 v3 v4 v5 v6) refl ∙ skip 0 2 v2 (behind3 v3 v4 v5 v6) refl ∙ skip 0 3 v3 (behind4 v4 v5 v6) refl
      ∙ skip 0 4 v4 (behind5 v5 v6) refl ∙ skip 0 5 v5 (item_at 6 v6) refl ∙ skip_last 0 6 v6 refl);
  at1 =
      skip 1 0 v0 (behind1 v1 v2 v3 v4 v5 v6) refl
      ∙ take_it 1 v1 _ refl
      (skip 1 2 v2 (behind3 v3 v4 v5 v6) refl ∙ skip 1 3 v3 (behind4 v4 v5 v6) refl ∙ skip 1 4 v4 (behind5 v5 v6) refl
      ∙ skip 1 5 v5 (item_at 6 v6) refl ∙ skip_last 1 6 v6 refl);
  at2 =
      skip 2 0 v0 (behind1 v1 v2 v3 v4 v5 v6) refl ∙ skip 2 1 v1 (behind2 v2 v3 v4 v5 v6) refl
      ∙ take_it 2 v2 _ refl
      (skip 2 3 v3 (behind4 v4 v5 v6) refl ∙ skip 2 4 v4 (behind5 v5 v6) refl ∙ skip 2 5 v5 (item_at 6 v6) refl ∙ skip_last 2 6 v6 refl);
  at3 =
      skip 3 0 v0 (behind1 v1 v2 v3 v4 v5 v6) refl ∙ skip 3 1 v1 (behind2 v2 v3 v4 v5 v6) refl ∙ skip 3 2 v2 (behind3 v3 v4 v5 v6) refl
      ∙ take_it 3 v3 _ refl
      (skip 3 4 v4 (behind5 v5 v6) refl ∙ skip 3 5 v5 (item_at 6 v6) refl ∙ skip_last 3 6 v6 refl);
  at4 =
      skip 4 0 v0 (behind1 v1 v2 v3 v4 v5 v6) refl ∙ skip 4 1 v1 (behind2 v2 v3 v4 v5 v6) refl ∙ skip 4 2 v2 (behind3 v3 v4 v5 v6) refl
      ∙ skip 4 3 v3 (behind4 v4 v5 v6) refl ∙ take_it 4 v4 _ refl (skip 4 5 v5 (item_at 6 v6) refl ∙ skip_last 4 6 v6 refl);
  at5 =
      skip 5 0 v0 (behind1 v1 v2 v3 v4 v5 v6) refl ∙ skip 5 1 v1 (behind2 v2 v3 v4 v5 v6) refl ∙ skip 5 2 v2 (behind3 v3 v4 v5 v6) refl
      ∙ skip 5 3 v3 (behind4 v4 v5 v6) refl ∙ skip 5 4 v4 (behind5 v5 v6) refl ∙ take_it 5 v5 (item_at 6 v6) refl (skip_last 5 6 v6 refl);
  at6 =
      skip 6 0 v0 (behind1 v1 v2 v3 v4 v5 v6) refl ∙ skip 6 1 v1 (behind2 v2 v3 v4 v5 v6) refl ∙ skip 6 2 v2 (behind3 v3 v4 v5 v6) refl
      ∙ skip 6 3 v3 (behind4 v4 v5 v6) refl ∙ skip 6 4 v4 (behind5 v5 v6) refl ∙ skip 6 5 v5 (item_at 6 v6) refl ∙ take_last 6 v6 refl;
}

-- ---- the elements again

-- an absent list and an empty list have the same items
items_again : (items : List PackedItem) → unwrap_or (none_if_empty items) [] ≡ items
items_again [] = refl
items_again (item ∷ items) = refl

-- packed elements have the values of the elements, except those of categories that equal other's
pub packed_again : (e : Elements PackedValue) → elements_of (packed_of e) ≡ without_repeats e
packed_again e =
    let kept : Option PackedValue → Option PackedValue = unless_equal is_same_value e.other in
    let all = are_at (kept e.zero) (kept e.one) (kept e.two) (kept e.few) (kept e.many) e.explicit_zero e.explicit_one in
    rw (items_again (packed_items e), all.at0, all.at1, all.at2, all.at3, all.at4, all.at5, all.at6) refl

-- ---- the same value for every number

-- a conjunction of two tests is true only if both are
both_true : (a b : Bool) → (a && b) ≡ true → (a ≡ true) × (b ≡ true)
both_true true b h = (refl, h)
both_true false b h = cc

-- values that the test finds equal are equal
is_same : (value other : PackedValue) → is_same_value value other ≡ true → value ≡ other
is_same value other h =
    let both = both_true (value.metadata == other.metadata) (bytes_eq value.text other.text) h in
    let metadata : value.metadata ≡ other.metadata = eqb-true value.metadata other.metadata both.0 in
    let text : value.text ≡ other.text = (bytes_eq-Decides value.text other.text).0 both.1 in
    rw (metadata, text) refl

-- a value that is left out because it equals other's is found as other's
kept_by : (same : Bool) (value other : PackedValue) → (same ≡ true → value ≡ other) → unwrap_or (cond same None (Some value)) other ≡ value
kept_by true value other h = sym (h refl)
kept_by false value other h = refl

-- a value that is left out equals other's
kept_or_other : (other : PackedValue) (value : Option PackedValue)
    → unwrap_or (unless_equal is_same_value other value) other ≡ unwrap_or value other
kept_or_other other None = refl
kept_or_other other (Some v) = kept_by (is_same_value v other) v other (is_same v other)

-- every category has its value, whether or not it was left out
category_again : (e : Elements PackedValue) (category : PluralCategory) → of_category (without_repeats e) category ≡ of_category e category
category_again e Zero = kept_or_other e.other e.zero
category_again e One = kept_or_other e.other e.one
category_again e Two = kept_or_other e.other e.two
category_again e Few = kept_or_other e.other e.few
category_again e Many = kept_or_other e.other e.many
category_again e Other = refl

-- packed elements give every number the same value as the elements
pub answers_again : (e : Elements PackedValue) (op : Operands) (rules : FiveRules)
    → element_at (elements_of (packed_of e)) op rules ≡ element_at e op rules
answers_again e op rules =
    ap (λ values. element_at values op rules) (packed_again e)
    ∙ ap (unwrap_or (explicit_at e op)) (category_again e (first_category (packed_truth op) rules))
