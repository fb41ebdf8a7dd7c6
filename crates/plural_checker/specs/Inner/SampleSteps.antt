-- Not a definition of the subject: the words that are left of a text, and whether a word is a sample of
-- the category, for views and private contracts.
use Rattle.std.specs.Prelude.{◌≡◌, ◌≢◌, ◌⊎◌, ℕ, Bool, List, [], map, Option, Some, None}
use Rattle.std.specs.Borrow.{Bor}
use Rattle.std.specs.List.{before_first, slice_split}
use Rattle.icu_plurals.specs.declared.PluralCategory.{PluralCategory}
use Rattle.icu_plurals.specs.FiveRules.{FiveRules}
use Rattle.plural_checker.specs.FirstSamples.{HasWordCategory, is_at, is_gap, is_tilde, kept_sample}
use Rattle.plural_checker.specs.declared.sample.Sample.{Sample}
use Rattle.plural_checker.specs.declared.sample_words.Mark.{Mark}
use Rattle.plural_checker.specs.declared.sample_words.Mark.TheVariants.{At, Gap, Range}

-- the byte is that of a mark
abbrev pub is_marked : Mark → ℕ → Bool
is_marked At = is_at
is_marked Gap = is_gap
is_marked Range = is_tilde

abbrev pub left_text_view : Option (Bor (List ℕ)) → Option (List ℕ)
left_text_view None = None
left_text_view (Some left) = Some left.now

-- what is left, cut at gaps
abbrev pub parts_left : Option (List ℕ) → List (List ℕ)
parts_left None = []
parts_left (Some left) = slice_split is_gap left

-- the words of what is left
abbrev pub words_left : Option (List ℕ) → List (List ℕ)
words_left left = map (before_first is_tilde) (parts_left left)

-- the word, if it has the category
abbrev pub IsSampleIn : FiveRules → PluralCategory → List ℕ → Option Sample → Type 0
IsSampleIn rules category word found =
    (of_word : Option PluralCategory) × HasWordCategory rules word of_word
    × (((of_word ≡ Some category) × (found ≡ Some (kept_sample word))) ⊎ ((of_word ≢ Some category) × (found ≡ None)))
