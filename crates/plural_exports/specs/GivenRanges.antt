-- The categories of ranges that a JSON text has for a locale (docs/JSON.md, docs/ELEMENTS.md), as a
-- table of bytes.
--     table_bytes ranges      by the start and then by the end, each from zero to other, the number
--         of the range's category
--     AreRangesIn json locale answer      the table. Faults are looked for in this order: those of
--         the locale's text, of the JSON text, of the document, the locale has no ranges
use Rattle.std.specs.Prelude.{◌≡◌, ℕ, List, [], ◌∷◌, map, flat_map, Some, None, Result, Ok, Err}
use Rattle.icu_plurals.specs.declared.PluralCategory.{PluralCategory}
use Rattle.icu_plurals.specs.declared.PluralCategory.TheVariants.{Zero, One, Two, Few, Many, Other}
use Rattle.icu_plurals.specs.declared.provider.PluralRanges.{PluralRanges}
use Rattle.icu_plurals.specs.Categories.{place_of}
use Rattle.icu_plurals.specs.DocumentJson.{Rows, found}
use Rattle.icu_plurals.specs.Ranges.{resolved}
use Rattle.plural_exports.specs.GivenBytes.{ReadsTextBytes}
use Rattle.plural_exports.specs.GivenDocuments.{MeansMaps, ReadsJson}
use Rattle.plural_documents.specs.Steps.{Then}
use Rattle.plural_exports.specs.declared.fault.Fault.{Fault}
use Rattle.plural_exports.specs.declared.fault.Fault.TheVariants.{Memory, Locale}

-- ---- The table

-- all six, in the order of their numbers
abbrev pub numbered_categories : List PluralCategory
numbered_categories = Zero ∷ One ∷ Two ∷ Few ∷ Many ∷ Other ∷ []

-- the number of a range's category: the pair's, if it has one, else the end's
abbrev pub range_number : PluralRanges → PluralCategory → PluralCategory → ℕ
range_number ranges start end = place_of (resolved ranges start end)

abbrev pub table_row : PluralRanges → PluralCategory → List ℕ
table_row ranges start = map (range_number ranges start) numbered_categories

abbrev pub table_bytes : PluralRanges → List ℕ
table_bytes ranges = flat_map (table_row ranges) numbered_categories

-- ---- What a document has

-- the ranges of a locale, if present
abbrev pub HasRangesAt : List ℕ → Rows PluralRanges → Result PluralRanges Fault → Type 0
HasRangesAt locale rows (Ok ranges) = found locale rows ≡ Some ranges
HasRangesAt locale rows (Err fault) = (found locale rows ≡ None) × (fault ≡ Locale)

-- the ranges that a JSON text has for a locale
abbrev pub HasRangesFor : List ℕ → List ℕ → Result PluralRanges Fault → Type 0
HasRangesFor bytes locale =
    Then (ReadsJson bytes) (λ value. Then (MeansMaps value) (λ maps. HasRangesAt locale maps.ranges))

-- their table; or memory ran out
abbrev pub IsRangeTable : PluralRanges → Result (List ℕ) Fault → Type 0
IsRangeTable ranges (Ok bytes) = bytes ≡ table_bytes ranges
IsRangeTable ranges (Err fault) = fault ≡ Memory

abbrev pub AreRangesIn : List ℕ → List ℕ → Result (List ℕ) Fault → Type 0
AreRangesIn bytes locale = Then (ReadsTextBytes locale) (λ text. Then (HasRangesFor bytes text) IsRangeTable)
