-- The first samples of a rule's text that have a category (UTS 35 Part 3, Samples).
--     sample_words text      the samples that the text lists: single ones, and the starts of ranges
--     HasWordCategory rules word category      the category of the number that a short word writes
--     AreFirstSamples rules category text first second      the first two samples of the text that
--         have the category, as far as there are two
--     kept_sample_text sample      the text of a sample of the code, which `kept_sample` makes of a word
use Rattle.std.specs.Prelude.{◌≡◌, ◌≢◌, ◌⊎◌, ◌≤◌, ◌==◌, ◌||◌, nat_lt, ℕ, Bool, List, [], ◌∷◌, ◌++◌, length, take, drop, map, Option, Some, None, if◌then◌else◌}
use Rattle.std.specs.List.{after_first, before_first, slice_split}
use Rattle.std.specs.Str.{IsUtf8, is_utf8}
use Rattle.icu_plurals.specs.declared.PluralCategory.{PluralCategory}
use Rattle.icu_plurals.specs.DecimalChoice.{IsTextChoice}
use Rattle.icu_plurals.specs.FiveRules.{FiveRules}
use Rattle.icu_plurals.specs.SureChoice.{WritesNone, WritesOver}
use Rattle.plural_checker.specs.declared.sample.Sample.{Sample}

-- ---- The samples of a text

-- `@`
abbrev pub is_at : ℕ → Bool
is_at byte = byte == 64

-- a space or a comma
abbrev pub is_gap : ℕ → Bool
is_gap byte = byte == 32 || byte == 44

-- `~`
abbrev pub is_tilde : ℕ → Bool
is_tilde byte = byte == 126

-- what stands behind the first `@`, cut at spaces and commas; of a range what stands before its `~`.
-- Words such as `integer` and `…` are among these, and write no number.
abbrev pub sample_words : List ℕ → List (List ℕ)
sample_words text = map (before_first is_tilde) (slice_split is_gap (after_first is_at text))

-- ---- Samples of the code

-- the most bytes of a sample; those of CLDR have at most 12
abbrev pub most_sample_bytes : ℕ
most_sample_bytes = 16

abbrev pub IsShortWord : List ℕ → Type 0
IsShortWord word = IsUtf8 word × (length word ≤ most_sample_bytes)

abbrev pub sixteen_zeros : List ℕ
sixteen_zeros = 0 ∷ 0 ∷ 0 ∷ 0 ∷ 0 ∷ 0 ∷ 0 ∷ 0 ∷ 0 ∷ 0 ∷ 0 ∷ 0 ∷ 0 ∷ 0 ∷ 0 ∷ 0 ∷ []

-- the bytes of a short word, with zeros behind them
abbrev pub kept_sample : List ℕ → Sample
kept_sample word = record { count = length word; bytes = word ++ drop (length word) sixteen_zeros }

-- bytes that are no text have none
abbrev pub shown : List ℕ → List ℕ
shown bytes = if is_utf8 bytes then bytes else []

-- of the sample that is kept of a short word, that word
abbrev pub kept_sample_text : Sample → List ℕ
kept_sample_text sample = if nat_lt most_sample_bytes sample.count then [] else shown (take sample.count sample.bytes)

-- ---- Their categories

-- none if the word isn't short, or writes no number, or one over a limit
abbrev pub HasWordCategory : FiveRules → List ℕ → Option PluralCategory → Type 0
HasWordCategory rules word (Some category) = IsShortWord word × IsTextChoice rules word category
HasWordCategory rules word None = (¬ (IsShortWord word)) ⊎ (WritesNone word ⊎ WritesOver word)

-- the first of these words that has the category, if there is one, and the words behind it
abbrev pub IsNextSample : FiveRules → PluralCategory → List (List ℕ) → Option Sample → List (List ℕ) → Type 0
IsNextSample rules category [] found rest = (found ≡ None) × (rest ≡ [])
IsNextSample rules category (word ∷ words) found rest =
    (of_word : Option PluralCategory) × HasWordCategory rules word of_word
    × (((of_word ≡ Some category) × (found ≡ Some (kept_sample word)) × (rest ≡ words))
    ⊎ ((of_word ≢ Some category) × IsNextSample rules category words found rest))

-- the first of the text, and the next one behind it
abbrev pub AreFirstSamples : FiveRules → PluralCategory → List ℕ → Option Sample → Option Sample → Type 0
AreFirstSamples rules category text first second =
    (rest end : List (List ℕ)) × IsNextSample rules category (sample_words text) first rest
    × IsNextSample rules category rest second end
