-- The chosen category is one of those that rules have.
use Rattle.std.proofs.Common.{◌≡◌, List, [], ◌∷◌, ◌++◌, Bool, true, false, refl, Option, Some, None}
use Rattle.std.specs.Prelude.{Contains, is_some}
use Rattle.std.proofs.lemmas.List.Elements.{Contains-append_left, Contains-append_right, Contains-push}
use Rattle.plural_base.specs.declared.category.PluralCategory.{PluralCategory}
use Rattle.plural_base.specs.declared.category.PluralCategory.TheVariants.{Zero, One, Two, Few, Many, Other}
use Rattle.plural_base.specs.declared.five.Five.{Five}
use Rattle.plural_base.specs.FiveRules.{passes, first_category, listed, categories_of}
use Rattle.plural_base.proofs.choice.Choice.{chosen}

-- what passes is listed
listed_has : {A : Type 0} (test : A → Bool) (category : PluralCategory) (thing : Option A) → passes test thing ≡ true
    → Contains (listed category (is_some thing)) category
listed_has test category None e = cc
listed_has test category (Some x) e = Contains-push [] category

-- the first of five that passes is listed
listed_first : {A : Type 0} (test : A → Bool) (things : Five (Option A)) (p q r s t : Bool)
    → passes test things.zero ≡ p → passes test things.one ≡ q → passes test things.two ≡ r → passes test things.few ≡ s
    → passes test things.many ≡ t
    → Contains (categories_of things) (chosen p q r s t)
listed_first test things p q r s t zero one more few many = at p q r s t zero one more few many
  where
    -- what is listed for zero
    a : List PluralCategory
    a = listed Zero (is_some things.zero)

    -- what is listed for one
    b : List PluralCategory
    b = listed One (is_some things.one)

    -- what is listed for two
    c : List PluralCategory
    c = listed Two (is_some things.two)

    -- what is listed for few
    d : List PluralCategory
    d = listed Few (is_some things.few)

    -- what is listed for many
    f : List PluralCategory
    f = listed Many (is_some things.many)

    -- what is among the five is among the categories
    in_five : (category : PluralCategory) → Contains (a ++ b ++ c ++ d ++ f) category → Contains (categories_of things) category
    in_five category here = Contains-append_left (a ++ b ++ c ++ d ++ f) (Other ∷ []) category here

    -- so is what is among the first four
    in_four : (category : PluralCategory) → Contains (a ++ b ++ c ++ d) category → Contains (categories_of things) category
    in_four category here = in_five category (Contains-append_left (a ++ b ++ c ++ d) f category here)

    -- so is what is among the first three
    in_three : (category : PluralCategory) → Contains (a ++ b ++ c) category → Contains (categories_of things) category
    in_three category here = in_four category (Contains-append_left (a ++ b ++ c) d category here)

    -- so is what is among the first two
    in_two : (category : PluralCategory) → Contains (a ++ b) category → Contains (categories_of things) category
    in_two category here = in_three category (Contains-append_left (a ++ b) c category here)

    -- the first of the tests that holds says which is listed
    at : (p q r s t : Bool) → passes test things.zero ≡ p → passes test things.one ≡ q → passes test things.two ≡ r
        → passes test things.few ≡ s → passes test things.many ≡ t
        → Contains (categories_of things) (chosen p q r s t)
    at true q r s t zero one more few many = in_two Zero (Contains-append_left a b Zero (listed_has test Zero things.zero zero))
    at false true r s t zero one more few many = in_two One (Contains-append_right a b One (listed_has test One things.one one))
    at false false true s t zero one more few many =
        in_three Two (Contains-append_right (a ++ b) c Two (listed_has test Two things.two more))
    at false false false true t zero one more few many =
        in_four Few (Contains-append_right (a ++ b ++ c) d Few (listed_has test Few things.few few))
    at false false false false true zero one more few many =
        in_five Many (Contains-append_right (a ++ b ++ c ++ d) f Many (listed_has test Many things.many many))
    at false false false false false zero one more few many = Contains-push (a ++ b ++ c ++ d ++ f) Other

-- the first category whose thing passes, or other, is one of the categories
pub first_category-member : {A : Type 0} (test : A → Bool) (things : Five (Option A))
    → Contains (categories_of things) (first_category test things)
first_category-member test things =
    listed_first test things (passes test things.zero) (passes test things.one) (passes test things.two) (passes test things.few)
    (passes test things.many) refl refl refl refl refl
