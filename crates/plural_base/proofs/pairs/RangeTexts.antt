-- The range of a text that is split at its first two hyphens.
use Rattle.std.proofs.Common.{◌≡◌, ℕ, ◌↔◌, List, ◌++◌, true, codes, MatchOption, Option, Some, None, refl, sym, ap, ◌∙◌, append_assoc}
use Rattle.std.specs.Borrow.{Bor}
use Rattle.std.proofs.lemmas.Str.Pattern.{split_text_parts}
use Rattle.plural_base.specs.declared.ranges.key.UnvalidatedPluralRange.{UnvalidatedPluralRange}
use Rattle.plural_base.specs.declared.category.raw.RawPluralCategory.{RawPluralCategory}
use Rattle.plural_base.specs.Categories.{raw_name_of}
use Rattle.plural_base.specs.Ranges.{Range, range_key, range_text, range_named, raw_category_named, IsKeyOfText}
use Rattle.plural_base.proofs.encoding.RawCategories.{by_category}
use Rattle.plural_base.proofs.pairs.RangeNames.{category_named_is, category_named_as, range_named_is, named_range, range_named_none}
use Rattle.plural_base.proofs.pairs.FirstHyphens.{has_no_hyphen, SplitsAtHyphens, split_after_front}

-- no name has a hyphen
no_hyphen_in : (c : RawPluralCategory) → has_no_hyphen (raw_name_of c) ≡ true
no_hyphen_in = by_category (λ c. has_no_hyphen (raw_name_of c) ≡ true) refl refl refl refl refl refl

module _ (text : List ℕ) where
  -- the text of a range is split between the two names
  split_between : (r : Option (Bor (List ℕ) × Bor (List ℕ))) → SplitsAtHyphens text r → (start end : RawPluralCategory)
      → text ≡ range_text start end
      → MatchOption r ⊥ (λ x. (x.0.now ≡ raw_name_of start) × (x.1.now ≡ raw_name_of end))
  split_between r h start end is = split_after_front text (raw_name_of start) (raw_name_of end) r h is (no_hyphen_in start)

  -- a text without two hyphens names no range
  pub not_split : SplitsAtHyphens text None → None ≡ range_named text
  not_split h = sym (range_named_none text (split_between None h))

  module _ (x : Bor (List ℕ) × Bor (List ℕ)) (h : SplitsAtHyphens text (Some x)) where
    -- nor does one whose front names no category
    pub start_unnamed : None ≡ raw_category_named x.0.now → None ≡ range_named text
    start_unnamed none = sym (range_named_none text (λ start end is.
        let named : raw_category_named x.0.now ≡ Some start = ap raw_category_named (split_between (Some x) h start end is).0
        ∙ category_named_as start in cc))

    -- nor does one whose back names none
    pub end_unnamed : None ≡ raw_category_named x.1.now → None ≡ range_named text
    end_unnamed none = sym (range_named_none text (λ start end is.
        let named : raw_category_named x.1.now ≡ Some end = ap raw_category_named (split_between (Some x) h start end is).1
        ∙ category_named_as end in cc))

    -- a text whose front and back name categories names their range
    pub both_named : (start end : RawPluralCategory) → Some start ≡ raw_category_named x.0.now → Some end ≡ raw_category_named x.1.now
        → Some (start, end) ≡ range_named text
    both_named start end first last =
        let parts : text ≡ x.0.now ++ codes "--" ++ x.1.now = split_text_parts (codes "--") text (Some x) h
        ∙ sym (append_assoc x.0.now (codes "--") x.1.now) in
        let is_start = category_named_is x.0.now start (sym first) in
        let is_end = category_named_is x.1.now end (sym last) in
        named_range text start end
        (parts ∙ ap (λ name. name ++ codes "--" ++ x.1.now) is_start ∙ ap (λ name. raw_name_of start ++ codes "--" ++ name) is_end)

  -- ---- The byte of the range

  -- a text that names no range has no byte
  pub no_key : (r : Option UnvalidatedPluralRange) → r ≡ None → None ≡ range_named text → (key : UnvalidatedPluralRange)
      → (r ≡ Some key) ↔ IsKeyOfText text key
  no_key r none unnamed key = (
    λ some. absurd cc,
    λ is. let named = named_range text is.0 is.1 is.2 in absurd cc,
  )

  -- a text that names a range has its byte and no other
  pub one_key : (start end : RawPluralCategory) → Some (start, end) ≡ range_named text → (k : UnvalidatedPluralRange)
      → k ≡ range_key start end
      → (key : UnvalidatedPluralRange) → (Some k ≡ Some key) ↔ IsKeyOfText text key
  one_key start end named k is_key key = (
    λ some. let same : key ≡ k = cc in (start, end, range_named_is text (start, end) (sym named), same ∙ is_key),
    λ is. let others = named_range text is.0 is.1 is.2 in
        let same : ◌≡◌ {A = Range} (start, end) (is.0, is.1) = cc in
        ap Some (is_key ∙ ap (λ (range : Range). range_key range.0 range.1) same ∙ sym is.3),
  )
