-- The category of a keyword.
use Rattle.std.proofs.Common.{◌≡◌, ◌↔◌, ℕ, List, Bool, true, false, Option, Some, None, bytes_eq, refl, sym, subst}
use Rattle.std.proofs.lemmas.Slice.Eq.{bytes_eq-Decides}
use Rattle.icu_plurals.specs.declared.PluralCategory.{PluralCategory}
use Rattle.icu_plurals.specs.declared.PluralCategory.TheVariants.{Zero, One, Two, Few, Many, Other}
use Rattle.icu_plurals.specs.Categories.{name_of}
use Rattle.message_report.specs.PatternFaults.{category_named}

-- the category of a name
named : (category : PluralCategory) → Some category ≡ category_named (name_of category)
named Zero = refl
named One = refl
named Two = refl
named Few = refl
named Many = refl
named Other = refl

-- a text other than a name
apart : (word name : List ℕ) → ¬ (word ≡ name) → bytes_eq word name ≡ false
apart word name other = by (bytes_eq word name) refl
  where
    by : (equal : Bool) → bytes_eq word name ≡ equal → equal ≡ false
    by true is = absurd (other ((bytes_eq-Decides word name).0 is))
    by false is = refl

-- what is the category whose name a keyword is, or nothing if it is no name
pub is_named : (word : List ℕ) (found : Option PluralCategory)
    → ((category : PluralCategory) → (found ≡ Some category) ↔ (word ≡ name_of category))
    → found ≡ category_named word
is_named word (Some category) only =
    subst (λ (text : List ℕ). Some category ≡ category_named text) (sym ((only category).0 refl)) (named category)
is_named word None only = rw (none Zero, none One, none Two, none Few, none Many, none Other) refl
  where
    none : (category : PluralCategory) → bytes_eq word (name_of category) ≡ false
    none category = apart word (name_of category) (λ same. let e = (only category).1 same in cc)
