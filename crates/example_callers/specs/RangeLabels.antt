-- Labels of ranges, such as `1 to 3 items` (UTS 35 Part 3, Plural Ranges).
--     IsRangeLabel IsChosen labels start end label      the label of a range
use Rattle.std.specs.Prelude.{◌≡◌, ℕ, List, ◌++◌, codes}
use Rattle.icu_plurals.specs.declared.PluralCategory.{PluralCategory}
use Rattle.icu_plurals.specs.Elements.{of_category}
use Rattle.icu_plurals.specs.FiveRules.{FiveRules}
use Rattle.icu_plurals.specs.Places.{Places}
use Rattle.icu_plurals.specs.Ranges.{resolved}
use Rattle.example_callers.specs.declared.range_labels.RangeLabels.{RangeLabels}
use Rattle.example_callers.specs.declared.range_labels.ShownNumber.{ShownNumber}

-- How a category is chosen by rules, for digits and an exponent: `IsKeptChoice`, by what is kept of
-- the number, or `IsExactChoice`, within the bound, by the number itself.
abbrev pub CategoryChoice : Type 1
CategoryChoice = FiveRules → Places → ℕ → PluralCategory → Type 0

-- the number has the category
abbrev pub IsCategoryBy : CategoryChoice → FiveRules → ShownNumber → PluralCategory → Type 0
IsCategoryBy IsChosen rules shown category =
    IsChosen rules shown.number.now.significand.absolute shown.number.now.exponent category

-- the noun of the category that the ranges have for the categories of start and end, or of the
-- end's category if they have none
abbrev pub noun_for : RangeLabels → PluralCategory → PluralCategory → List ℕ
noun_for labels first last = (of_category labels.nouns (resolved labels.rules.ranges first last)).now

-- The start's text, the end's text, and the noun of the range by the categories of both numbers.
abbrev pub IsRangeLabel : CategoryChoice → RangeLabels → ShownNumber → ShownNumber → List ℕ → Type 0
IsRangeLabel IsChosen labels start end label =
    (first : PluralCategory) × (last : PluralCategory)
    × IsCategoryBy IsChosen labels.rules.rules start first × IsCategoryBy IsChosen labels.rules.rules end last
    × (label ≡ start.text.now ++ codes " to " ++ end.text.now ++ codes " " ++ noun_for labels first last)
