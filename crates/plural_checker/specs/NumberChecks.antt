-- What is wrong with the numbers of a sample that is listed under a category. The rules come from
-- the language's five texts; if one of these gives none, categories aren't checked, and only a
-- range without numbers is wrong, and a text that writes no number or one over a limit.
--     IsCheckedNumber rules category x fault      a number
--     IsCheckedText rules category text fault      a text
--     AreCheckedNumbers rules category numbers fault      the first wrong number
--     IsCheckedRange rules category range fault count      a range of samples, and the count of its
--         numbers
use Rattle.std.specs.Prelude.{◌≡◌, ◌≢◌, ◌⊎◌, ℕ, ◌<◌, List, Option, Some, None, Ok, Err}
use Rattle.icu_plurals.specs.declared.DecimalError.{DecimalError}
use Rattle.icu_plurals.specs.declared.PluralCategory.{PluralCategory}
use Rattle.icu_plurals.specs.declared.provider.rules.reference.ast.SampleRange.{SampleRange}
use Rattle.icu_plurals.specs.DecimalChoice.{HasCategory}
use Rattle.icu_plurals.specs.FiveRules.{FiveRules}
use Rattle.icu_plurals.specs.SureChoice.{IsBounded}
use Rattle.icu_plurals.specs.Written.{CompactNumber}
use Rattle.number_categories.specs.declared.number_fault.NumberFault.{NumberFault}
use Rattle.number_categories.specs.declared.number_fault.NumberFault.TheVariants.{Text, Outside, Category}
use Rattle.plural_checker.specs.SampleNumbers.{GivesSampleNumber, AreNumbersOfRange, count_of, number_at}
use Rattle.plural_checker.specs.declared.fault.RangeFault.{RangeFault}
use Rattle.plural_checker.specs.declared.fault.SampleFault.{SampleFault}
use Rattle.plural_checker.specs.declared.fault.SampleFault.TheVariants.{Range, Number}
use Rattle.plural_checker.specs.declared.sample_range.SampleNumbers.{SampleNumbers}

-- the number has the category under which it is listed, or another, or is outside the bound
abbrev pub IsCheckedBy : FiveRules → PluralCategory → CompactNumber → Option NumberFault → Type 0
IsCheckedBy rules category x None = IsBounded rules x × HasCategory rules x category
IsCheckedBy rules category x (Some (Category other)) = IsBounded rules x × HasCategory rules x other × (other ≢ category)
IsCheckedBy rules category x (Some Outside) = ¬ (IsBounded rules x)
IsCheckedBy rules category x (Some (Text error)) = ⊥

-- without rules no number is wrong
abbrev pub IsCheckedNumber : Option FiveRules → PluralCategory → CompactNumber → Option NumberFault → Type 0
IsCheckedNumber None category x fault = fault ≡ None
IsCheckedNumber (Some rules) category x fault = IsCheckedBy rules category x fault

-- the text writes a number, or none
abbrev pub IsCheckedText : Option FiveRules → PluralCategory → List ℕ → Option NumberFault → Type 0
IsCheckedText rules category text fault =
    ((x : CompactNumber) × GivesSampleNumber text (Ok x) × IsCheckedNumber rules category x fault)
    ⊎ ((error : DecimalError) × GivesSampleNumber text (Err error) × (fault ≡ Some (Text error)))

-- ---- Ranges of samples

-- nothing is wrong with the numbers before an index
abbrev pub AreRightBelow : Option FiveRules → PluralCategory → SampleNumbers → ℕ → Type 0
AreRightBelow rules category numbers end = (k : ℕ) → k < end → IsCheckedText rules category (number_at numbers k) None

-- this is wrong with the number at an index, and nothing with those before it
pub record IsFirstWrong (rules : Option FiveRules) (category : PluralCategory) (numbers : SampleNumbers) (text : List ℕ)
    (fault : NumberFault) : Type 0 where
  pub place : ℕ
  pub within : place < count_of numbers
  pub before : AreRightBelow rules category numbers place
  pub text_is : text ≡ number_at numbers place
  pub wrong : IsCheckedText rules category text (Some fault)

-- nothing is wrong with the numbers, or this is wrong with the first wrong one
abbrev pub AreCheckedNumbers : Option FiveRules → PluralCategory → SampleNumbers → Option SampleFault → Type 0
AreCheckedNumbers rules category numbers None = AreRightBelow rules category numbers (count_of numbers)
AreCheckedNumbers rules category numbers (Some (Number text fault)) = IsFirstWrong rules category numbers text fault
AreCheckedNumbers rules category numbers (Some (Range range fault)) = ⊥

-- the range has numbers, and this is wrong with them; or it has none
abbrev pub IsCheckedRange : Option FiveRules → PluralCategory → SampleRange → Option SampleFault → ℕ → Type 0
IsCheckedRange rules category range fault count =
    ((why : RangeFault) × AreNumbersOfRange range (Err why) × (fault ≡ Some (Range range why)) × (count ≡ 0))
    ⊎ ((numbers : SampleNumbers)
    × AreNumbersOfRange range (Ok numbers) × AreCheckedNumbers rules category numbers fault × (count ≡ count_of numbers))
