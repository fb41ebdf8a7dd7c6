-- The table of the categories of integers under a block of rules (docs/FORMATS.md), and what such a
-- table tells.
--     AreTableFor rules answer      a table of the rules, or their fault
--     IsToldByTable table n answer      what bytes tell of an integer; if they are a table of
--         rules, that is the category that the rules choose, or that they are asked, which isn't
--         told of a number below 128
--     IsTextToldByTable table text answer      the same of the whole number that a text writes; of
--         any other text, that the rules are asked
use Rattle.std.specs.Prelude.{◌≡◌, ◌⊎◌, ℕ, ◌≤◌, ◌<◌, ◌^◌, ℤ, pos, List, length, Option, Some, None, MatchOption, Result, Ok, Err}
use Rattle.std.specs.Str.Parse.{IsNumeral, digits_value, without_leading_plus}
use Rattle.icu_plurals.specs.declared.PluralCategory.{PluralCategory}
use Rattle.icu_plurals.specs.CategoryTables.{IsTableOf, TableTells}
use Rattle.icu_plurals.specs.FiveRules.{FiveRules, first_category}
use Rattle.icu_plurals.specs.Operands.{of_whole}
use Rattle.icu_plurals.specs.PackedTruth.{packed_truth}
use Rattle.plural_exports.specs.GivenBytes.{ReadsRules, ReadsTextBytes}
use Rattle.plural_exports.specs.NumberAnswers.{category_number}
use Rattle.plural_documents.specs.Steps.{Then}
use Rattle.plural_exports.specs.declared.fault.Fault.{Fault}
use Rattle.plural_exports.specs.declared.fault.Fault.TheVariants.{TableLength}

abbrev pub HasTable : FiveRules → Result (List ℕ) Fault → Type 0
HasTable rules (Ok bytes) = IsTableOf rules bytes
HasTable rules (Err fault) = ⊥

abbrev pub AreTableFor : List ℕ → Result (List ℕ) Fault → Type 0
AreTableFor rules = Then (ReadsRules rules) HasTable

-- what is told of an integer, if the bytes are a table of rules
abbrev pub IsToldOfRules : List ℕ → ℕ → Option PluralCategory → Type 0
IsToldOfRules table n told =
    (rules : FiveRules) → IsTableOf rules table
    → MatchOption told (128 ≤ n) (λ category. category ≡ first_category (packed_truth (of_whole n)) rules)

abbrev pub IsToldByTable : List ℕ → ℕ → Result (Option PluralCategory) Fault → Type 0
IsToldByTable table n (Ok told) = (length table ≡ 236) × TableTells table n told × IsToldOfRules table n told
IsToldByTable table n (Err fault) = (fault ≡ TableLength) × ¬ (length table ≡ 236)

-- the number that the digits of a text write, before which a plus may stand
abbrev pub whole_of_text : List ℕ → ℕ
whole_of_text text = digits_value 10 (without_leading_plus text)

-- the text writes a whole number of 64 bits
abbrev pub WritesWhole : List ℕ → Type 0
WritesWhole text = IsNumeral 10 (without_leading_plus text) × (whole_of_text text < 2 ^ 64)

-- what is told of a text: that of the number, if it writes one
abbrev pub IsToldOfText : List ℕ → List ℕ → Result (Option PluralCategory) Fault → Type 0
IsToldOfText table text (Ok told) =
    (WritesWhole text × TableTells table (whole_of_text text) told × IsToldOfRules table (whole_of_text text) told)
    ⊎ (¬ (WritesWhole text) × (told ≡ None))
IsToldOfText table text (Err fault) = ⊥

-- the bytes are as many as those of a table, or aren't
abbrev pub ReadsTable : List ℕ → Result (List ℕ) Fault → Type 0
ReadsTable bytes (Ok table) = (length bytes ≡ 236) × (table ≡ bytes)
ReadsTable bytes (Err fault) = (fault ≡ TableLength) × ¬ (length bytes ≡ 236)

abbrev pub IsTextToldByTable : List ℕ → List ℕ → Result (Option PluralCategory) Fault → Type 0
IsTextToldByTable bytes given = Then (ReadsTable bytes) (λ table. Then (ReadsTextBytes given) (IsToldOfText table))

-- the number of a category, or 6 if the rules have to be asked
abbrev pub told_number : Option PluralCategory → ℤ
told_number (Some category) = category_number category
told_number None = pos 6
