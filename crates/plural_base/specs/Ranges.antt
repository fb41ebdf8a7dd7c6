-- The categories of ranges of numbers (UTS 35 Part 3, Plural Ranges): tables of pairs, the bytes
-- and the texts of ranges.
--
-- A value for each of the six plural categories:
--     each f      the value that f gives for each
--     at things category      the value of a category
--     put_at things category thing      the same values, but for this one
use Rattle.std.specs.Prelude.{◌==◌, if◌then◌else◌, ◌≡◌, ℕ, ◌+◌, ◌*◌, List, ◌++◌, codes, map, flat_map, find, Option, bytes_eq, Some}
use Rattle.std.specs.Prelude.{None, is_some, option_map, unwrap_or, count_by, sum_by}
use Rattle.plural_base.specs.declared.category.by_category.ByCategory.{ByCategory}
use Rattle.plural_base.specs.declared.category.raw.RawPluralCategory.{RawPluralCategory}
use Rattle.plural_base.specs.declared.category.raw.RawPluralCategory.TheVariants.{Other, Zero, One, Two, Few, Many}
use Rattle.plural_base.specs.Categories.{raw_number, raw_name_of, all_raw_categories, category_of, raw_category_of}
use Rattle.plural_base.specs.declared.ranges.key.UnvalidatedPluralRange.{UnvalidatedPluralRange}
use Rattle.plural_base.specs.declared.category.PluralCategory.{PluralCategory}
use Rattle.plural_base.specs.declared.ranges.PluralRanges.{PluralRanges}

abbrev pub each : {A : Type 0} → (RawPluralCategory → A) → ByCategory A
each f = record { other = f Other; zero = f Zero; one = f One; two = f Two; few = f Few; many = f Many }

abbrev pub at : {A : Type 0} → ByCategory A → RawPluralCategory → A
at things Other = things.other
at things Zero = things.zero
at things One = things.one
at things Two = things.two
at things Few = things.few
at things Many = things.many

abbrev pub put_at : {A : Type 0} → ByCategory A → RawPluralCategory → A → ByCategory A
put_at things category thing = each (λ c. if raw_number c == raw_number category then thing else at things c)

-- ---- A range of numbers by the categories of its start and its end (UTS 35 Part 3, Plural Ranges;
-- docs/ELEMENTS.md).
--     range_key start end      the byte: 16 times the start's number, plus the end's number
--     range_text start end      the text: the start's name, two hyphens, the end's name
--     IsKeyOfText text key      the text and the byte are those of one range
--     range_named text, raw_category_named text      the range, or the category, whose text this
--         is, if there is one

-- a start and an end
abbrev pub Range : Type 0
Range = RawPluralCategory × RawPluralCategory

-- all 36
abbrev pub all_category_ranges : List Range
all_category_ranges = flat_map (λ start. map (λ end. (start, end)) all_raw_categories) all_raw_categories

-- ---- Bytes

abbrev pub range_byte : RawPluralCategory → RawPluralCategory → ℕ
range_byte start end = raw_number start * 16 + raw_number end

abbrev pub range_key : RawPluralCategory → RawPluralCategory → UnvalidatedPluralRange
range_key start end = record { 0 = range_byte start end }

-- no two ranges have one byte
abbrev pub RangeBytesDiffer : Type 0
RangeBytesDiffer =
    (start end start' end' : RawPluralCategory) → range_byte start end ≡ range_byte start' end' → (start ≡ start') × (end ≡ end')

-- ---- Texts

abbrev pub range_text : RawPluralCategory → RawPluralCategory → List ℕ
range_text start end = raw_name_of start ++ codes "--" ++ raw_name_of end

-- of one range
abbrev pub IsKeyOfText : List ℕ → UnvalidatedPluralRange → Type 0
IsKeyOfText text key =
    (start : RawPluralCategory) × (end : RawPluralCategory) × (text ≡ range_text start end) × (key ≡ range_key start end)

-- the range of a text
unfoldable pub range_named : List ℕ → Option Range
range_named text = find (λ range. bytes_eq text (range_text range.0 range.1)) all_category_ranges

-- the category of a name
unfoldable pub raw_category_named : List ℕ → Option RawPluralCategory
raw_category_named text = find (λ category. bytes_eq text (raw_name_of category)) all_raw_categories

-- ---- Categories of ranges (UTS 35 Part 3, Plural Ranges): a finite map from pairs of categories,
-- start and end, to categories.
--     category_at ranges start end      the category of a pair, if it has one
--     no_ranges      no pair has a category
--     with_range ranges start end category      the same ranges, but this pair has this category
--     size_of ranges      how many pairs have a category
--     resolved ranges start end      the category of a range: the pair's, if it has one, else the
--         end's

abbrev pub category_at : PluralRanges → RawPluralCategory → RawPluralCategory → Option RawPluralCategory
category_at ranges start end = at (at ranges start) end

abbrev pub no_ranges : PluralRanges
no_ranges = each (λ start. each (λ end. None))

abbrev pub with_range : PluralRanges → RawPluralCategory → RawPluralCategory → RawPluralCategory → PluralRanges
with_range ranges start end category = put_at ranges start (put_at (at ranges start) end (Some category))

-- how many ends have a category with a start
abbrev pub row_size : PluralRanges → RawPluralCategory → ℕ
row_size ranges start = count_by (λ end. is_some (category_at ranges start end)) all_raw_categories

abbrev pub size_of : PluralRanges → ℕ
size_of ranges = sum_by (row_size ranges) all_raw_categories

-- an absent pair has its end's category
abbrev pub resolved : PluralRanges → PluralCategory → PluralCategory → PluralCategory
resolved ranges start end = unwrap_or (option_map category_of (category_at ranges (raw_category_of start) (raw_category_of end))) end

-- Tables are equal if they have the same category at each pair.
abbrev pub RangesAreTheirMaps : Type 0
RangesAreTheirMaps =
    (ranges others : PluralRanges)
    → ((start end : RawPluralCategory) → category_at ranges start end ≡ category_at others start end)
    → ranges ≡ others
