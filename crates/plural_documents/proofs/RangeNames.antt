-- The texts of ranges, and the names of categories.
use Rattle.std.proofs.Common.{◌≡◌, ◌↔◌, ℕ, List, [], ◌∷◌, Bool, true, false, cond, find, bytes_eq, Option, Some, None, is_some}
use Rattle.std.proofs.Common.{refl, sym, ap, subst, ◌∙◌}
use Rattle.std.specs.Prelude.{unwrap_or}
use Rattle.std.proofs.lemmas.Slice.Eq.{bytes_eq-Decides}
use Rattle.plural_base.specs.Categories.{name_of, raw_category_of}
use Rattle.plural_base.specs.Ranges.{IsKeyOfText, Range, all_category_ranges, range_key, range_named, range_text, raw_category_named}
use Rattle.plural_base.specs.declared.category.PluralCategory.{PluralCategory}
use Rattle.plural_base.specs.declared.category.PluralCategory.TheVariants.{Zero, One, Two, Few, Many, Other}
use Rattle.plural_base.specs.declared.category.raw.RawPluralCategory.{RawPluralCategory}
use Rattle.plural_base.specs.declared.category.raw.RawPluralCategory.TheVariants as raw
use Rattle.plural_base.specs.declared.ranges.key.UnvalidatedPluralRange.{UnvalidatedPluralRange}

-- a name names its category
pub category_named : (category : PluralCategory) → raw_category_named (name_of category) ≡ Some (raw_category_of category)
unfolding raw_category_named
category_named Zero = refl
category_named One = refl
category_named Two = refl
category_named Few = refl
category_named Many = refl
category_named Other = refl

-- ---- Ranges

by_category : (P : RawPluralCategory → Type 0) → P raw.Other → P raw.Zero → P raw.One → P raw.Two → P raw.Few → P raw.Many
    → (category : RawPluralCategory) → P category
by_category P other zero one two few many raw.Other = other
by_category P other zero one two few many raw.Zero = zero
by_category P other zero one two few many raw.One = one
by_category P other zero one two few many raw.Two = two
by_category P other zero one two few many raw.Few = few
by_category P other zero one two few many raw.Many = many

-- the text of a range names one
text_named : (start end : RawPluralCategory) → is_some (range_named (range_text start end)) ≡ true
unfolding range_named
text_named =
    let Named = λ (start end : RawPluralCategory). is_some (range_named (range_text start end)) ≡ true in
    by_category (λ start. (end : RawPluralCategory) → Named start end)
    (by_category (Named raw.Other) refl refl refl refl refl refl)
    (by_category (Named raw.Zero) refl refl refl refl refl refl)
    (by_category (Named raw.One) refl refl refl refl refl refl)
    (by_category (Named raw.Two) refl refl refl refl refl refl)
    (by_category (Named raw.Few) refl refl refl refl refl refl)
    (by_category (Named raw.Many) refl refl refl refl refl refl)

found_passes : (test : Range → Bool) (ranges : List Range) (range : Range) → find test ranges ≡ Some range → test range ≡ true
found_passes test [] range is = absurd (cc)
found_passes test (first ∷ ranges) range is = by (test first) refl is (found_passes test ranges range)
  where
    by : (b : Bool) → test first ≡ b → cond b (Some first) (find test ranges) ≡ Some range
        → (find test ranges ≡ Some range → test range ≡ true)
        → test range ≡ true
    by true passes is further = subst (λ (r : Range). test r ≡ true) (ap (λ o. unwrap_or o range) is) passes
    by false passes is further = further is

-- a text that names a range is its text
text_of : (text : List ℕ) (range : Range) → range_named text ≡ Some range → text ≡ range_text range.0 range.1
unfolding range_named
text_of text range found =
    (bytes_eq-Decides text (range_text range.0 range.1)).0
    (found_passes (λ range. bytes_eq text (range_text range.0 range.1)) all_category_ranges range found)

-- a text has a key iff it names a range
pub key_there : (text : List ℕ) (key : Option UnvalidatedPluralRange)
    → ((k : UnvalidatedPluralRange) → (key ≡ Some k) ↔ IsKeyOfText text k) → is_some key ≡ is_some (range_named text)
key_there text (Some k) keyed =
    let named = (keyed k).0 refl in
    sym (ap (λ t. is_some (range_named t)) named.2 ∙ text_named named.0 named.1)
key_there text None keyed = by (range_named text) refl
  where
    by : (o : Option Range) → range_named text ≡ o → false ≡ is_some o
    by None is = refl
    by (Some range) is =
        let there = (keyed (range_key range.0 range.1)).1 (range.0, range.1, text_of text range is, refl) in absurd (cc)
