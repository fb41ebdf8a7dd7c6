-- The category of a number as a text, and the line that is printed of it.
--     IsCategoryOf rules word answer      the category, or why the word has none
--     AreNumberAnswers rules words printed      a line for each word, in their order
--     AreLineAnswers rules lines printed      a line for each line of an input
use Rattle.std.specs.Prelude.{◌≡◌, ◌⊎◌, ℕ, ◌+◌, ◌-◌, ◌^◌, ◌<◌, ◌≤◌, nat_lt, List, [], ◌∷◌, ◌++◌, length, map, codes, true, false, Result, Ok, Err, if◌then◌else◌}
use Rattle.std.specs.Borrow.{Bor}
use Rattle.std.specs.Fmt.{decimal}
use Rattle.std.specs.Str.{IsUtf8}
use Rattle.icu_plurals.specs.Categories.{name_of}
use Rattle.icu_plurals.specs.FiveRules.{FiveRules}
use Rattle.icu_plurals.specs.Places.{IsWithinLimit}
use Rattle.icu_plurals.specs.Written.{CompactNumber, WritesCompact, IsCompactOverLimit}
use Rattle.icu_plurals.specs.declared.PluralCategory.{PluralCategory}
use Rattle.icu_plurals.specs.DecimalChoice.{HasCategory}
use Rattle.number_lines.specs.PrintedTexts.{PrintedText, both_printed, nothing_printed}
use Rattle.number_lines.specs.declared.printed.NumberFault.{NumberFault}
use Rattle.number_lines.specs.declared.printed.NumberFault.TheVariants.{TooLong, NotText, Syntax, Limit}
use Rattle.number_lines.specs.declared.printed.Place.{Place}
use Rattle.number_lines.specs.declared.printed.Place.TheVariants.{Line, Number}

-- ---- One number

-- the most bytes of a number within the limits: a sign, 32767 digits, a point, 32767 digits, and
-- `c255`
abbrev pub most_number_bytes : ℕ
most_number_bytes = 65540

-- the category that the rules choose for the number that the word writes: for what is kept of it,
-- and within the exactness bound for the number itself
abbrev pub IsChosenFor : FiveRules → List ℕ → PluralCategory → Type 0
IsChosenFor rules word category =
    (x : CompactNumber) × WritesCompact word x × IsWithinLimit x.significand.absolute × (x.exponent ≤ 255) × HasCategory rules x category

-- why a word of at most so many bytes has no category
abbrev pub HasNumberFault : List ℕ → NumberFault → Type 0
HasNumberFault word TooLong = ⊥
HasNumberFault word NotText = ¬ (IsUtf8 word)
HasNumberFault word Syntax = IsUtf8 word × ((x : CompactNumber) → ¬ (WritesCompact word x))
HasNumberFault word Limit = (x : CompactNumber) × WritesCompact word x × IsCompactOverLimit x

-- the category of such a word, or why there is none
abbrev pub IsShortCategoryOf : FiveRules → List ℕ → Result PluralCategory NumberFault → Type 0
IsShortCategoryOf rules word (Ok category) = IsChosenFor rules word category
IsShortCategoryOf rules word (Err fault) = HasNumberFault word fault

-- a longer word has none
abbrev pub IsCategoryOf : FiveRules → List ℕ → Result PluralCategory NumberFault → Type 0
IsCategoryOf rules word answer =
    ((most_number_bytes < length word) × (answer ≡ Err TooLong))
    ⊎ ((length word ≤ most_number_bytes) × IsShortCategoryOf rules word answer)

-- ---- Its line

abbrev pub number_place_text : Place → List ℕ
number_place_text (Line place) = codes "line " ++ decimal place
number_place_text (Number place) = codes "number " ++ decimal place

abbrev pub number_fault_text : NumberFault → List ℕ
number_fault_text TooLong = codes "more than 65540 bytes"
number_fault_text NotText = codes "not UTF-8"
number_fault_text Syntax = codes "bad number"
number_fault_text Limit = codes "number out of limits"

abbrev pub category_answer : PluralCategory → PrintedText
category_answer category = record { text = name_of category ++ codes "\n"; has_fault = false }

abbrev pub fault_answer : Place → NumberFault → PrintedText
fault_answer place fault = record { text = number_place_text place ++ codes ": " ++ number_fault_text fault ++ codes "\n"; has_fault = true }

abbrev pub answer_text : Place → Result PluralCategory NumberFault → PrintedText
answer_text place (Ok category) = category_answer category
answer_text place (Err fault) = fault_answer place fault

abbrev pub IsAnswerAt : FiveRules → Place → List ℕ → PrintedText → Type 0
IsAnswerAt rules place word printed =
    (answer : Result PluralCategory NumberFault) × IsCategoryOf rules word answer × (printed ≡ answer_text place answer)

-- ---- The lines of all

-- the place after a place; the last one that can be counted is 2 ^ 64 - 1
abbrev pub next_place : ℕ → ℕ
next_place place = if nat_lt place (2 ^ 64 - 1) then place + 1 else place

-- the words are counted from a place on
abbrev pub AreAnswersFrom : (ℕ → Place) → FiveRules → ℕ → List (List ℕ) → PrintedText → Type 0
AreAnswersFrom at rules place [] printed = printed ≡ nothing_printed
AreAnswersFrom at rules place (word ∷ words) printed =
    (first rest : PrintedText) × IsAnswerAt rules (at place) word first × AreAnswersFrom at rules (next_place place) words rest
    × (printed ≡ both_printed first rest)

-- the bytes of words
abbrev pub command_words_view : List (Bor (List ℕ)) → List (List ℕ)
command_words_view words = map (λ w. w.now) words

-- the words of a command line
abbrev pub AreNumberAnswers : FiveRules → List (List ℕ) → PrintedText → Type 0
AreNumberAnswers rules words printed = AreAnswersFrom Number rules 1 words printed

-- the lines of an input
abbrev pub AreLineAnswers : FiveRules → List (List ℕ) → PrintedText → Type 0
AreLineAnswers rules lines printed = AreAnswersFrom Line rules 1 lines printed
