-- Categories and ranges by their names.
use Rattle.std.proofs.Common.{◌≡◌, ℕ, List, [], ◌∷◌, Bool, true, false, cond, find, bytes_eq, Option, Some, None, refl, sym, subst}
use Rattle.std.proofs.lemmas.Slice.Eq.{bytes_eq-Decides}
use Rattle.plural_base.specs.declared.category.raw.RawPluralCategory.{RawPluralCategory}
use Rattle.plural_base.specs.declared.category.raw.RawPluralCategory.TheVariants.{Other, Zero, One, Two, Few, Many}
use Rattle.plural_base.specs.declared.category.PluralCategory.{PluralCategory}
use Rattle.plural_base.specs.declared.category.PluralCategory.TheVariants as category
use Rattle.plural_base.specs.Categories.{name_of, raw_category_of, raw_name_of, all_raw_categories}
use Rattle.plural_base.specs.Ranges.{Range, all_category_ranges, range_text, range_named, raw_category_named}
use Rattle.plural_base.proofs.encoding.RawCategories.{by_category}

-- what is found passes
found_passes : {X : Type 0} (p : X → Bool) (b : Bool) (y x : X) (rest : Option X) → p y ≡ b → (rest ≡ Some x → p x ≡ true)
    → cond b (Some y) rest ≡ Some x → p x ≡ true
found_passes p true y x rest passes later found = let same : y ≡ x = cc in subst (λ z. p z ≡ true) same passes
found_passes p false y x rest passes later found = later found

-- what is found in a list passes the test
find_passes : {X : Type 0} (p : X → Bool) (xs : List X) (x : X) → find p xs ≡ Some x → p x ≡ true
find_passes p [] x found = absurd cc
find_passes p (y ∷ ys) x found = found_passes p (p y) y x (find p ys) refl (find_passes p ys x) found

-- an option that can hold no value is absent
none_there : {X : Type 0} (o : Option X) → ((x : X) → o ≡ Some x → ⊥) → o ≡ None
none_there None never = refl
none_there (Some x) never = absurd (never x refl)

-- ---- Categories

-- a text that names a category is its name
pub category_named_is : (text : List ℕ) (c : RawPluralCategory) → raw_category_named text ≡ Some c → text ≡ raw_name_of c
unfolding raw_category_named
category_named_is text c found =
    (bytes_eq-Decides text (raw_name_of c)).0 (find_passes (λ c. bytes_eq text (raw_name_of c)) all_raw_categories c found)

-- a name names its category
pub category_named_as : (c : RawPluralCategory) → raw_category_named (raw_name_of c) ≡ Some c
unfolding raw_category_named
category_named_as = by_category (λ c. raw_category_named (raw_name_of c) ≡ Some c) refl refl refl refl refl refl

-- so does a text that equals it
pub named_category : (text : List ℕ) (c : RawPluralCategory) → text ≡ raw_name_of c → Some c ≡ raw_category_named text
named_category text c is = rw is (sym (category_named_as c))

-- a text that isn't a category's name names none
pub category_named_none : (text : List ℕ) → ((c : RawPluralCategory) → text ≡ raw_name_of c → ⊥) → raw_category_named text ≡ None
category_named_none text never = none_there (raw_category_named text) (λ c found. never c (category_named_is text c found))

-- a category and the numbered one have one name
pub same_name : (c : PluralCategory) → raw_name_of (raw_category_of c) ≡ name_of c
same_name category.Zero = refl
same_name category.One = refl
same_name category.Two = refl
same_name category.Few = refl
same_name category.Many = refl
same_name category.Other = refl

-- ---- Ranges

-- a text that names a range is its text
pub range_named_is : (text : List ℕ) (range : Range) → range_named text ≡ Some range → text ≡ range_text range.0 range.1
unfolding range_named
range_named_is text range found =
    (bytes_eq-Decides text (range_text range.0 range.1)).0
    (find_passes (λ range. bytes_eq text (range_text range.0 range.1)) all_category_ranges range found)

-- the text of a range names it
pub range_named_as : (start end : RawPluralCategory) → range_named (range_text start end) ≡ Some (start, end)
unfolding range_named
range_named_as =
    let Named = λ (start end : RawPluralCategory). range_named (range_text start end) ≡ Some (start, end) in
    by_category (λ start. (end : RawPluralCategory) → Named start end)
    (by_category (Named Other) refl refl refl refl refl refl)
    (by_category (Named Zero) refl refl refl refl refl refl)
    (by_category (Named One) refl refl refl refl refl refl)
    (by_category (Named Two) refl refl refl refl refl refl)
    (by_category (Named Few) refl refl refl refl refl refl)
    (by_category (Named Many) refl refl refl refl refl refl)

-- so does a text that equals it
pub named_range : (text : List ℕ) (start end : RawPluralCategory) → text ≡ range_text start end → Some (start, end) ≡ range_named text
named_range text start end is = rw is (sym (range_named_as start end))

-- a text that isn't a range's names none
pub range_named_none : (text : List ℕ) → ((start end : RawPluralCategory) → text ≡ range_text start end → ⊥) → range_named text ≡ None
range_named_none text never = none_there (range_named text) (λ range found. never range.0 range.1 (range_named_is text range found))
