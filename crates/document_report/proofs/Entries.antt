-- The faults of entries, and names of categories.
use Rattle.std.proofs.Common.{◌≡◌, ◌↔◌, ℕ, ◌+◌, ◌*◌, ◌/◌, ◌%◌, ◌<◌, List, Option, Some, None}
use Rattle.std.proofs.Common.{ap, inr, refl, ◌∙◌, arith}
use Rattle.serde_json.specs.Data.{Data}
use Rattle.icu_plurals.specs.declared.PluralCategory.{PluralCategory}
use Rattle.icu_plurals.specs.declared.provider.RawPluralCategory.{RawPluralCategory}
use Rattle.icu_plurals.specs.declared.provider.RawPluralCategory.TheVariants as raw
use Rattle.icu_plurals.specs.declared.provider.UnvalidatedPluralRange.{UnvalidatedPluralRange}
use Rattle.icu_plurals.specs.Categories.{raw_number, category_of, name_of}
use Rattle.icu_plurals.specs.Ranges.{range_key, IsKeyOfText}
use Rattle.plural_checker.specs.LanguageTexts.{SixTexts}
use Rattle.document_report.specs.DocumentReport.{HasEntryFault, HasRangeFault, IsRangeText}
use Rattle.document_report.specs.Inner.CheckCalls.{category_numbered}
use Rattle.document_report.specs.declared.entry.EntryFault.{EntryFault}

-- ---- The start and the end of a range

number_is_low : (category : RawPluralCategory) → raw_number category < 16
number_is_low raw.Other = omega arith
number_is_low raw.Zero = omega arith
number_is_low raw.One = omega arith
number_is_low raw.Two = omega arith
number_is_low raw.Few = omega arith
number_is_low raw.Many = omega arith

of_number : (category : RawPluralCategory) → category_numbered (raw_number category) ≡ category_of category
of_number raw.Other = refl
of_number raw.Zero = refl
of_number raw.One = refl
of_number raw.Two = refl
of_number raw.Few = refl
of_number raw.Many = refl

quotient : (a b : ℕ) → b < 16 → (a * 16 + b) / 16 ≡ a
quotient a b low = omega arith

remainder : (a b : ℕ) → b < 16 → (a * 16 + b) % 16 ≡ b
remainder a b low = omega arith

-- an entry whose key names a range has the fault of the range
pub of_range : (texts : SixTexts) (key : List ℕ) (value : Data) (fault : Option EntryFault) (range : UnvalidatedPluralRange)
    (start end : PluralCategory) → IsKeyOfText key range
    → start ≡ category_numbered (range.0 / 16) → end ≡ category_numbered (range.0 % 16)
    → HasRangeFault texts start end value fault → HasEntryFault texts key value fault
of_range texts key value fault range start end (first, last, text, byte) at_start at_end h =
    let a = raw_number first in
    let b = raw_number last in
    let whole : range.0 ≡ a * 16 + b = ap (λ (r : UnvalidatedPluralRange). r.0) byte in
    inr (
      start,
      end,
      (
        first,
        last,
        text,
        at_start ∙ ap category_numbered (ap (λ n. n / 16) whole ∙ quotient a b (number_is_low last)) ∙ of_number first,
        at_end ∙ ap category_numbered (ap (λ n. n % 16) whole ∙ remainder a b (number_is_low last)) ∙ of_number last,
      ),
      h,
    )

-- a text that gives no range names no range
pub no_range : (key : List ℕ)
    → ((range : UnvalidatedPluralRange) → ◌≡◌ {A = Option UnvalidatedPluralRange} None (Some range) ↔ IsKeyOfText key range)
    → (start end : PluralCategory) → ¬ (IsRangeText key start end)
no_range key only start end (first, last, text, at_start, at_end) =
    let range = range_key first last in
    let there : ◌≡◌ {A = Option UnvalidatedPluralRange} None (Some range) = (only range).1 (first, last, text, refl) in cc

-- a text that gives no category names no category
pub no_category : (name : List ℕ)
    → ((category : PluralCategory) → ◌≡◌ {A = Option PluralCategory} None (Some category) ↔ (name ≡ name_of category))
    → (category : PluralCategory) → name ≡ name_of category → ⊥
no_category name only category is = let there : ◌≡◌ {A = Option PluralCategory} None (Some category) = (only category).1 is in cc
