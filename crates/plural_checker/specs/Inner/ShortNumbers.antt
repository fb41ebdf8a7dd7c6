-- Not a definition of the subject: numbers of at most 18 places on each side of the point, which are
-- checked by their operands alone, and what is known of a number then, for private contracts.
use Rattle.std.specs.Prelude.{◌≡◌, ◌≤◌, ℕ, List, length, Option, Some, None, Ok}
use Rattle.icu_plurals.specs.declared.PluralCategory.{PluralCategory}
use Rattle.icu_plurals.specs.declared.provider.rules.reference.ast.SampleRange.{SampleRange}
use Rattle.icu_plurals.specs.FiveRules.{FiveRules}
use Rattle.icu_plurals.specs.Operands.{Operands, AreKept, kept_places}
use Rattle.icu_plurals.specs.Places.{IsWritten}
use Rattle.icu_plurals.specs.Written.{CompactNumber}
use Rattle.plural_checker.specs.NumberChecks.{IsCheckedText}
use Rattle.plural_checker.specs.SampleNumbers.{GivesSampleNumber, text_with_c}
use Rattle.plural_checker.specs.declared.short_number.Verdict.{Verdict}
use Rattle.plural_checker.specs.declared.short_number.Verdict.TheVariants.{Right, Wrong, Unknown}

-- the text writes a number without an exponent and with at most 18 places on each side, whose
-- operands these are
pub record WritesShortNumber (text : List ℕ) (o : Operands) : Type 0 where
  pub number : CompactNumber
  pub given : GivesSampleNumber text (Ok number)
  pub written : IsWritten number.significand.absolute
  pub no_exponent : number.exponent ≡ 0
  pub whole : length number.significand.absolute.whole ≤ kept_places
  pub fraction : length number.significand.absolute.fraction ≤ kept_places
  pub kept : AreKept number.significand.absolute number.exponent o

-- what is known of a text that is listed under a category
abbrev pub IsVerdictOn : Option FiveRules → PluralCategory → List ℕ → Verdict → Type 0
IsVerdictOn rules category text Right = IsCheckedText rules category text None
IsVerdictOn rules category text (Wrong fault) = IsCheckedText rules category text (Some fault)
IsVerdictOn rules category text Unknown = Unit {0}

-- nothing is known of a range of samples, but of one that is a single sample
abbrev pub IsVerdictOnRange : Option FiveRules → PluralCategory → SampleRange → Verdict → Type 0
IsVerdictOnRange rules category range Unknown = Unit {0}
IsVerdictOnRange rules category range verdict = (range.upper_val ≡ None) × IsVerdictOn rules category (text_with_c range.lower_val) verdict
