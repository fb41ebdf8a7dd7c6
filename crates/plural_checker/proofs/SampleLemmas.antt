-- The samples of a text, word by word.
use Rattle.std.proofs.Common.{◌≡◌, ◌≢◌, ◌⊎◌, ℕ, ◌+◌, ◌-◌, ◌<◌, ◌≤◌, List, [], ◌∷◌, ◌++◌, length, take, drop, map, Bool, true, false, Option, Some, None, Result, Ok, Err}
use Rattle.std.proofs.Common.{refl, sym, ap, subst, ◌∙◌, inl, inr, arith}
use Rattle.std.specs.Borrow.{Bor}
use Rattle.std.specs.List.{before_first, position_or_len, slice_split}
use Rattle.std.specs.Prelude.{nat_lt}
use Rattle.std.specs.Str.{is_utf8}
use Rattle.std.proofs.lemmas.Bool.Decides.{nat_tests}
use Rattle.std.proofs.lemmas.List.{length-drop, take_all, take_at}
use Rattle.std.proofs.lemmas.Str.{is_utf8-from_IsUtf8}
use Rattle.std.proofs.lemmas.List.Splits.{slice_split_first, slice_split_none}
use Rattle.std.proofs.lemmas.List.Sums.{fails_before_first}
use Rattle.icu_plurals.specs.declared.DecimalError.{DecimalError}
use Rattle.icu_plurals.specs.declared.DecimalError.TheVariants as fault
use Rattle.icu_plurals.specs.declared.PluralCategory.{PluralCategory}
use Rattle.icu_plurals.specs.DecimalChoice.{IsTextAnswer, IsTextChoice}
use Rattle.icu_plurals.specs.FiveRules.{FiveRules}
use Rattle.icu_plurals.specs.SureChoice.{WritesNone, WritesOver}
use Rattle.plural_checker.specs.FirstSamples.{IsNextSample, IsShortWord, is_gap, is_tilde, kept_sample, most_sample_bytes, kept_sample_text, sixteen_zeros}
use Rattle.plural_checker.specs.declared.sample.Sample.{Sample}
use Rattle.plural_checker.specs.Inner.SampleSteps.{IsSampleIn, left_text_view, parts_left, words_left}

-- ---- A text cut at marks

-- it is cut at the first mark
pub cut_first : (p : ℕ → Bool) (s : List ℕ) (k : ℕ) → k ≡ position_or_len p s → k < length s
    → slice_split p s ≡ take k s ∷ slice_split p (take (length s - (k + 1)) (drop (k + 1) s))
cut_first p s k is lt =
    let first = slice_split_first p s 0 (subst (λ (n : ℕ). n < length s) is lt) in
    let rest : take (length s - (k + 1)) (drop (k + 1) s) ≡ drop (k + 1) s =
    take_all (length s - (k + 1)) (drop (k + 1) s) (omega (arith, length-drop (k + 1) s)) in
    first
    ∙ (ap (λ (n : ℕ). take n s ∷ slice_split p (drop (n + 1) s)) (sym is)
    ∙ ap (λ (d : List ℕ). take k s ∷ slice_split p d) (sym rest))

-- without a mark it is whole
pub uncut : (p : ℕ → Bool) (s : List ℕ) (k : ℕ) → k ≡ position_or_len p s → length s ≤ k → slice_split p s ≡ s ∷ []
uncut p s k is le = slice_split_none p s (λ i d lt. fails_before_first p s i d (omega (arith, is)))

-- the next word of what is left
pub next_of : (now : List (List ℕ)) (left : Option (Bor (List ℕ))) (rest part : Bor (List ℕ)) (after : Option (Bor (List ℕ))) (word : List ℕ)
    → now ≡ words_left (left_text_view left) → left ≡ Some rest → slice_split is_gap rest.now ≡ part.now ∷ parts_left (left_text_view after)
    → word ≡ before_first is_tilde part.now → now ≡ word ∷ words_left (left_text_view after)
next_of now left rest part after word view is cut start =
    view
    ∙ (ap (λ (r : Option (Bor (List ℕ))). words_left (left_text_view r)) is
    ∙ (ap (λ (ps : List (List ℕ)). map (before_first is_tilde) ps) cut
    ∙ ap (λ (w : List ℕ). w ∷ words_left (left_text_view after)) (sym start)))

-- ---- The text of a sample

-- that of the sample that is kept of a short word
pub kept_text : (word : List ℕ) → IsShortWord word → kept_sample_text (kept_sample word) ≡ word
kept_text word short =
    let few : nat_lt most_sample_bytes (length word) ≡ false = grind (arith, nat_tests, short.1) in
    let front : take (length word) (word ++ drop (length word) sixteen_zeros) ≡ word =
    take_at word (drop (length word) sixteen_zeros) (length word) refl in
    let text : is_utf8 word ≡ true = is_utf8-from_IsUtf8 word short.0 in
    rw few (rw front (rw text refl))

-- ---- Categories

-- a short text without a category writes no number, or one over a limit
pub no_category : (rules : FiveRules) (word : List ℕ) (answer : Result PluralCategory DecimalError) → IsTextAnswer rules word answer
    → length word ≤ 16 → ((c : PluralCategory) → answer ≡ Ok c → ⊥) → WritesNone word ⊎ WritesOver word
no_category rules word (Ok c) is short not = absurd (not c refl)
no_category rules word (Err fault.Syntax) is short not = inl (is.syntax.0 refl)
no_category rules word (Err fault.Limit) is short not = inr (is.limit.0 refl)
no_category rules word (Err fault.Memory) is short not = absurd (is.inline short refl)

module _ (rules : FiveRules) (category : PluralCategory) (word : List ℕ) where
  -- a word that isn't short
  pub no_sample : (IsShortWord word → ⊥) → IsSampleIn rules category word None
  no_sample long = (None, inl long, inr ((λ (e : None ≡ Some category). cc), refl))

  -- a short word, whose text this is
  module _ (sample : Sample) (text : List ℕ) (is : sample ≡ kept_sample word) (short : IsShortWord word) (same : text ≡ kept_sample_text sample) where
    is_word : text ≡ word
    is_word = same ∙ (ap (λ (s : Sample). kept_sample_text s) is ∙ kept_text word short)

    -- it writes no number
    pub no_number : (answer : Result PluralCategory DecimalError) → IsTextAnswer rules text answer
        → ((c : PluralCategory) → answer ≡ Ok c → ⊥) → IsSampleIn rules category word None
    no_number answer answers not = (
      None,
      inr (no_category rules word answer (subst (λ (t : List ℕ). IsTextAnswer rules t answer) is_word answers) short.1 not),
      inr ((λ (e : None ≡ Some category). cc), refl),
    )

    -- it has the category
    pub has_category : (chosen : PluralCategory) → IsTextAnswer rules text (Ok chosen) → chosen ≡ category
        → IsSampleIn rules category word (Some sample)
    has_category chosen answers own = (
      Some chosen,
      (short, subst (λ (t : List ℕ). IsTextChoice rules t chosen) is_word answers.chosen),
      inl (ap (λ (c : PluralCategory). Some c) own, ap (λ (s : Sample). Some s) is),
    )

    -- or another
    pub has_other : (chosen : PluralCategory) → IsTextAnswer rules text (Ok chosen) → (chosen ≡ category → ⊥)
        → IsSampleIn rules category word None
    has_other chosen answers other = (
      Some chosen,
      (short, subst (λ (t : List ℕ). IsTextChoice rules t chosen) is_word answers.chosen),
      inr ((λ (e : Some chosen ≡ Some category). let own : chosen ≡ category = cc in other own), refl),
    )

-- ---- In a loop

-- what is next of the words that are left is next of all
abbrev pub Continues : FiveRules → PluralCategory → List (List ℕ) → List (List ℕ) → Type 0
Continues rules category left all =
    (found : Option Sample) (rest : List (List ℕ)) → IsNextSample rules category left found rest
    → IsNextSample rules category all found rest

module _ (rules : FiveRules) (category : PluralCategory) (words left all : List (List ℕ)) (word : List ℕ) where
  -- a word without the category is passed
  pub passed_word : words ≡ word ∷ left → Continues rules category words all → IsSampleIn rules category word None
      → Continues rules category left all
  passed_word is so_far none found rest next =
      so_far found rest
      (subst (λ (ws : List (List ℕ)). IsNextSample rules category ws found rest) (sym is) (none.0, none.1, by none.2))
    where
      by : ((none.0 ≡ Some category) × (None ≡ Some (kept_sample word))) ⊎ ((none.0 ≢ Some category) × ◌≡◌ {A = Option Sample} None None)
          → ((none.0 ≡ Some category) × (found ≡ Some (kept_sample word)) × (rest ≡ left))
          ⊎ ((none.0 ≢ Some category) × IsNextSample rules category left found rest)
      by (inl this) = let bad : None ≡ Some (kept_sample word) = this.1 in absurd cc
      by (inr other) = inr (other.0, next)

  -- one with it is found
  pub found_word : (sample : Sample) → words ≡ word ∷ left → Continues rules category words all
      → IsSampleIn rules category word (Some sample) → IsNextSample rules category all (Some sample) left
  found_word sample is so_far some =
      so_far (Some sample) left
      (subst (λ (ws : List (List ℕ)). IsNextSample rules category ws (Some sample) left) (sym is) (some.0, some.1, by some.2))
    where
      by : ((some.0 ≡ Some category) × (Some sample ≡ Some (kept_sample word))) ⊎ ((some.0 ≢ Some category) × (Some sample ≡ None))
          → ((some.0 ≡ Some category) × (Some sample ≡ Some (kept_sample word)) × (left ≡ left))
          ⊎ ((some.0 ≢ Some category) × IsNextSample rules category left (Some sample) left)
      by (inl this) = inl (this.0, this.1, refl)
      by (inr other) = let bad : Some sample ≡ None = other.1 in absurd cc

  -- no word is left
  pub no_word : words ≡ [] → Continues rules category words all → IsNextSample rules category all None words
  no_word is so_far =
      so_far None words (subst (λ (ws : List (List ℕ)). IsNextSample rules category ws None words) (sym is) (refl, is))
