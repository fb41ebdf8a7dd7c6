-- What tells documents of messages: no members, and the names of categories.
use Rattle.std.proofs.Common.{◌≡◌, ◌↔◌, ℕ, Bool, true, false, List, [], ◌∷◌, length, bytes_eq, Option, Some, None, is_some, String, Global, refl, sym, subst, ⊎_elim, arith, nat_lt, position}
use Rattle.std.proofs.lemmas.Bool.{cases_Bool, ltb-false}
use Rattle.std.proofs.lemmas.List.{take_all}
use Rattle.std.proofs.lemmas.Slice.Eq.{bytes_eq-Decides}
use Rattle.std.specs.List.{before_first, position_or_len}
use Rattle.serde_json.specs.View.{members_view}
use Rattle.serde_json.specs.declared.Value.{Value}
use Rattle.icu_plurals.specs.Categories.{name_of}
use Rattle.icu_plurals.specs.declared.PluralCategory.{PluralCategory}
use Rattle.icu_plurals.specs.declared.PluralCategory.TheVariants.{Zero, One, Two, Few, Many, Other}
use Rattle.translation_files.specs.MessageDocuments.{is_category_name, has_no_member}

-- whether a map has members
pub none_there : (entries : List (String Global × Value)) (none : Bool) → (length entries ≡ 0 → none ≡ true)
    → (none ≡ true → length entries ≡ 0) → none ≡ has_no_member (members_view entries)
none_there [] none from to = from refl
none_there (entry ∷ entries) true from to = absurd (omega (arith, to refl))
none_there (entry ∷ entries) false from to = refl

named : (category : PluralCategory) → true ≡ is_category_name (name_of category)
named Zero = refl
named One = refl
named Two = refl
named Few = refl
named Many = refl
named Other = refl

-- a name has a category
pub named_category : (name : List ℕ) (found : Option PluralCategory) → ((c : PluralCategory) → (found ≡ Some c) ↔ (name ≡ name_of c))
    → is_some found ≡ is_category_name name
named_category name (Some category) is =
    subst (λ (n : List ℕ). true ≡ is_category_name n) (sym ((is category).0 refl)) (named category)
named_category name None is =
    let other : (c : PluralCategory) → bytes_eq name (name_of c) ≡ false = λ c.
    ⊎_elim (λ same. let found : None ≡ Some c = (is c).1 ((bytes_eq-Decides name (name_of c)).0 same) in absurd (cc)) (λ no. no)
    (cases_Bool (bytes_eq name (name_of c))) in
    rw (other Few, other Many, other One, other Other, other Two, other Zero) refl

-- what stands before the first element that passes
pub before_found : (passes : ℕ → Bool) (xs : List ℕ) (place : ℕ) → Some place ≡ position passes xs → place ≡ position_or_len passes xs
before_found passes xs place found = by (nat_lt (position_or_len passes xs) (length xs)) refl
  where
    by : (within : Bool) → nat_lt (position_or_len passes xs) (length xs) ≡ within → place ≡ position_or_len passes xs
    by true is = let here : Some place ≡ Some (position_or_len passes xs) = rw is at found in cc
    by false is = let none : Some place ≡ None = rw is at found in absurd (cc)

pub before_none : (passes : ℕ → Bool) (xs : List ℕ) → None ≡ position passes xs → xs ≡ before_first passes xs
before_none passes xs found = by (nat_lt (position_or_len passes xs) (length xs)) refl
  where
    by : (within : Bool) → nat_lt (position_or_len passes xs) (length xs) ≡ within → xs ≡ before_first passes xs
    by true is = let here : None ≡ Some (position_or_len passes xs) = rw is at found in absurd (cc)
    by false is = sym (take_all (position_or_len passes xs) xs (ltb-false (position_or_len passes xs) (length xs) is))
