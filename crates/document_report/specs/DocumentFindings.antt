-- What is found in a document, as values, and the line that is printed for each.
--     finding_line finding      `cardinal ru few: sample 1.5 is other`
--     finding_view finding      a finding of the code
use Rattle.std.specs.Prelude.{ℕ, List, ◌++◌, codes}
use Rattle.document_report.specs.DocumentPlaces.{FindingPlace, finding_place_text, finding_place_view}
use Rattle.document_report.specs.declared.cause.Cause.{Cause}
use Rattle.document_report.specs.declared.finding.Finding as findings
use Rattle.std.specs.Fmt.{decimal}
use Rattle.icu_plurals.specs.Categories.{name_of}
use Rattle.plural_checker.specs.PluralCheckerErrors.{rule_text_fault_text}
use Rattle.document_report.specs.declared.cause.Cause.TheVariants as cause
use Rattle.document_report.specs.declared.entry.EntryFault.{EntryFault}
use Rattle.document_report.specs.declared.entry.EntryFault.TheVariants.{RangeKey, NoText, RangeValue, NoRule}

-- ---- what is printed for what is wrong at a place

-- the fault of an entry of ranges
abbrev pub entry_fault_text : EntryFault → List ℕ
entry_fault_text RangeKey = codes "range key"
entry_fault_text NoText = codes "no text"
entry_fault_text RangeValue = codes "range value"
entry_fault_text (NoRule category) = name_of category ++ codes " has no rule"

abbrev pub document_cause_text : Cause → List ℕ
document_cause_text cause.NotAPart = codes "not a part"
document_cause_text cause.NoObject = codes "no object"
document_cause_text cause.LongKey = codes "key too long"
document_cause_text cause.KeyWithUnderscore = codes "key with _"
document_cause_text cause.NoOther = codes "no other"
document_cause_text cause.NoText = codes "no text"
document_cause_text (cause.Text fault) = rule_text_fault_text fault
document_cause_text cause.NotACategory = codes "not a category"
document_cause_text cause.NoCardinalRules = codes "no cardinal rules"
document_cause_text (cause.Entry fault) = entry_fault_text fault
document_cause_text cause.LongParent = codes "parent too long"
document_cause_text cause.EndlessChain = codes "the chain of parents doesn't end"
document_cause_text cause.NoLocale = codes "no locale"
document_cause_text (cause.More count) = codes "and " ++ (decimal count ++ codes " more")

-- something is wrong at a place
pub record Finding : Type 0 where
  pub place : FindingPlace
  pub cause : Cause

-- the place, and what is wrong
abbrev pub finding_line : Finding → List ℕ
finding_line f = finding_place_text f.place ++ (codes ": " ++ document_cause_text f.cause)

-- that of the code
abbrev pub finding_view : findings.Finding → Finding
finding_view f = record { place = finding_place_view f.place; cause = f.cause }
