-- The report of a document: what is found in the keys of its parts, in its rules for cardinal and
-- then for ordinal numbers, in its ranges and in its parents, and how many locales it has
-- (docs/JSON.md). The locales of a part are in the order of their bytes, and so are the entries of
-- a locale's ranges.
--     IsReportOf value report      this is the report of a document's value
use Rattle.std.specs.Prelude.{◌≡◌, ◌≢◌, ℕ, ◌+◌, ◌&&◌, not, ◌==◌, ◌||◌, ◌⊎◌, bytes_eq, List, [], ◌∷◌, ◌++◌, length, codes, count_by, filter, map, take}
use Rattle.std.specs.Prelude.{Bool, true, IsTrue, IsFalse}
use Rattle.std.specs.Prelude.{Option, Some, None, is_some, if◌then◌else◌}
use Rattle.serde_json.specs.Data.{Data}
use Rattle.serde_json.specs.Find.{get, as_null, as_object, as_str}
use Rattle.icu_plurals.specs.declared.PluralCategory.{PluralCategory}
use Rattle.icu_plurals.specs.declared.PluralCategory.TheVariants.{Zero, One, Two, Few, Many, Other}
use Rattle.icu_plurals.specs.declared.provider.RawPluralCategory.{RawPluralCategory}
use Rattle.icu_plurals.specs.Categories.{category_of, name_of, place_of}
use Rattle.icu_plurals.specs.DocumentJson.{value_of_locale}
use Rattle.icu_plurals.specs.FiveRules.{five}
use Rattle.icu_plurals.specs.Ranges.{range_text}
use Rattle.icu_plurals.specs.RangesJson.{keys_in}
use Rattle.icu_plurals.specs.RulesJson.{text_under, texts_in}
use Rattle.plural_checker.specs.LanguageTexts.{SixTexts, has_rule}
use Rattle.plural_checker.specs.TextChecks.{AreFindingsOf}
use Rattle.plural_checker.specs.declared.Fault.{Fault}
use Rattle.plural_checker.specs.declared.Report.{Report as Checked}
use Rattle.document_members.specs.ChainSteps.{is_long_name}
use Rattle.document_report.specs.CheckedDocument.{members_at, members_or_none, table_in, has_underscore}
use Rattle.plural_documents.specs.PrintedKeys.{most_told}
use Rattle.document_report.specs.DocumentFindings.{Finding}
use Rattle.document_report.specs.DocumentPlaces.{LocalePlace, at_document, at_key, at_locale, at_part, at_text}
use Rattle.document_report.specs.FoundInDocuments.{Found, cases_alone, checked_alone, document_fault_at, finding_at, nothing_found, rest_of, together}
use Rattle.document_report.specs.FoundInDocuments.{IsFoundInDocumentMembers}
use Rattle.document_report.specs.ParentFaults.{IsFoundInParents}
use Rattle.plural_fallback.specs.LocalesJson.{part_name}
use Rattle.document_report.specs.declared.cause.Cause.TheVariants as cause
use Rattle.document_report.specs.declared.entry.EntryFault.{EntryFault}
use Rattle.document_report.specs.declared.entry.EntryFault.TheVariants.{RangeKey, NoText, RangeValue, NoRule}
use Rattle.plural_fallback.specs.declared.locales.Part.{Part}
use Rattle.plural_fallback.specs.declared.locales.Part.TheVariants.{Cardinal, Ordinal, Ranges}
use Rattle.document_report.specs.declared.report.Report.{Report}

-- ---- The key of a locale

-- a long key is a fault
abbrev pub found_of_length : LocalePlace → Found
found_of_length place = if is_long_name place.locale then document_fault_at (at_locale place) cause.LongKey else nothing_found

-- and so is one with `_`, which CLDR writes where documents have a hyphen
abbrev pub found_of_underscore : LocalePlace → Found
found_of_underscore place = if has_underscore place.locale then document_fault_at (at_locale place) cause.KeyWithUnderscore else nothing_found

abbrev pub found_of_key : LocalePlace → Found
found_of_key place = together (found_of_length place) (found_of_underscore place)

-- ---- The rules of a locale

-- a rule text is checked
abbrev pub one_rule : Found
one_rule = checked_alone 1

-- a text is counted; a value that is neither null nor a text is a fault
abbrev pub found_under : LocalePlace → PluralCategory → Option Data → Found
found_under place category None = nothing_found
found_under place category (Some value) =
    if is_some (as_null value) then nothing_found
    else (if is_some (as_str value) then one_rule else document_fault_at (at_text place category) cause.NoText)

-- the faults of one category's text
abbrev pub faults_of : PluralCategory → List Fault → List Fault
faults_of category faults = filter (λ fault. place_of fault.category == place_of category) faults

-- a fault of a text, which names its category
abbrev pub text_finding : LocalePlace → Fault → Finding
text_finding place fault = finding_at (at_text place fault.category) (cause.Text fault.kind)

-- the first faults of a text have a finding each, and the others are counted in one
abbrev pub found_told : LocalePlace → PluralCategory → List Fault → Found
found_told place category faults = record {
  findings = map (text_finding place) (take most_told faults) ++ rest_of (at_text place category) (length faults);
  faults = length faults;
  checked = 0;
  cases = 0;
}

-- what is found under each of these categories, and in its text
abbrev pub found_under_all : LocalePlace → Data → List Fault → List PluralCategory → Found
found_under_all place value faults [] = nothing_found
found_under_all place value faults (category ∷ categories) =
    together (found_under place category (get (name_of category) value))
    (together (found_told place category (faults_of category faults)) (found_under_all place value faults categories))

-- the categories, in the order of the rules
abbrev pub text_order : List PluralCategory
text_order = Zero ∷ One ∷ Two ∷ Few ∷ Many ∷ Other ∷ []

-- the faults of the texts, and the count of their numbers
abbrev pub found_by_check : LocalePlace → Data → Checked → Found
found_by_check place value checked = together (found_under_all place value checked.faults text_order) (cases_alone checked.numbers)

-- the texts of all six categories
abbrev pub all_texts_in : Data → SixTexts
all_texts_in value = record { five = texts_in value; other = text_under Other value }

-- a value is absent or null
abbrev pub is_absent : Option Data → Bool
is_absent None = true
is_absent (Some value) = is_some (as_null value)

-- each language has numbers of other, and so its samples
abbrev pub lacks_other : Data → Bool
lacks_other value = is_absent (get (name_of Other) value)

abbrev pub found_of_other : LocalePlace → Data → Found
found_of_other place value = if lacks_other value then document_fault_at (at_locale place) cause.NoOther else nothing_found

-- the key names a category
abbrev pub IsCategoryName : List ℕ → Type 0
IsCategoryName key = (category : PluralCategory) × (key ≡ name_of category)

-- a key that names no category is a fault, and its value isn't looked at
abbrev pub IsFoundInKey : LocalePlace → List ℕ → Data → Found → Type 0
IsFoundInKey place key value found =
    (IsCategoryName key × (found ≡ nothing_found))
    ⊎ ((¬ (IsCategoryName key)) × (found ≡ document_fault_at (at_key place key) cause.NotACategory))

-- what is found in the rules of a locale: first in its key, then that it has no other; then
-- category by category that the value is no text, or the faults of the text; then the keys that
-- name no category
abbrev pub IsFoundInLanguage : LocalePlace → Data → Found → Type 0
IsFoundInLanguage place value found =
    (checked : Checked) × (others : Found) × AreFindingsOf (all_texts_in value) checked
    × IsFoundInDocumentMembers (IsFoundInKey place) (members_or_none (as_object value)) others
    × (found ≡ together (found_of_key place) (together (found_of_other place value) (together (found_by_check place value checked) others)))

abbrev pub IsFoundInRules : Part → List ℕ → Data → Found → Type 0
IsFoundInRules part locale value found = IsFoundInLanguage (record { part = part; locale = locale }) value found

-- ---- The ranges of a locale

-- the texts of a locale's cardinal rules, if it has any
abbrev pub texts_at : Option Data → SixTexts
texts_at None = record { five = five None None None None None; other = None }
texts_at (Some value) = all_texts_in value

-- the text of the range from one category to another
abbrev pub IsRangeText : List ℕ → PluralCategory → PluralCategory → Type 0
IsRangeText key start end =
    (first last : RawPluralCategory) × (key ≡ range_text first last) × (start ≡ category_of first) × (end ≡ category_of last)

-- the fault of a range's category, if it has one: the value must name other, or a category that has
-- a cardinal rule
abbrev pub HasValueFault : SixTexts → Data → Option EntryFault → Type 0
HasValueFault texts value (Some RangeKey) = ⊥
HasValueFault texts value (Some NoText) = as_str value ≡ None
HasValueFault texts value (Some RangeValue) =
    (name : List ℕ) × (as_str value ≡ Some name) × ((category : PluralCategory) → name ≢ name_of category)
HasValueFault texts value (Some (NoRule category)) = (as_str value ≡ Some (name_of category)) × IsFalse (has_rule texts category)
HasValueFault texts value None =
    (category : PluralCategory) × (as_str value ≡ Some (name_of category)) × IsTrue (has_rule texts category)

-- the fault of a range, if it has one: start and end must be other or have a cardinal rule, and
-- then so must the value
abbrev pub HasRangeFault : SixTexts → PluralCategory → PluralCategory → Data → Option EntryFault → Type 0
HasRangeFault texts start end value fault =
    (IsFalse (has_rule texts start) × (fault ≡ Some (NoRule start)))
    ⊎ ((IsTrue (has_rule texts start) × IsFalse (has_rule texts end) × (fault ≡ Some (NoRule end)))
    ⊎ (IsTrue (has_rule texts start) × IsTrue (has_rule texts end) × HasValueFault texts value fault))

-- the fault of an entry, if it has one: the key must name a range, and the value its category
abbrev pub HasEntryFault : SixTexts → List ℕ → Data → Option EntryFault → Type 0
HasEntryFault texts key value fault =
    (((start end : PluralCategory) → ¬ (IsRangeText key start end)) × (fault ≡ Some RangeKey))
    ⊎ ((start end : PluralCategory) × IsRangeText key start end × HasRangeFault texts start end value fault)

abbrev pub found_of_entry : LocalePlace → List ℕ → Option EntryFault → Found
found_of_entry place key None = nothing_found
found_of_entry place key (Some fault) = document_fault_at (at_key place key) (cause.Entry fault)

abbrev pub IsFoundInEntry : SixTexts → LocalePlace → List ℕ → Data → Found → Type 0
IsFoundInEntry texts place key value found =
    (fault : Option EntryFault) × HasEntryFault texts key value fault × (found ≡ found_of_entry place key fault)

-- a locale without cardinal rules is a fault
abbrev pub found_of_rules : LocalePlace → Option Data → Found
found_of_rules place None = document_fault_at (at_locale place) cause.NoCardinalRules
found_of_rules place (Some rules) = nothing_found

-- what is found in the ranges of a locale: first in its key, then that it has no cardinal rules,
-- then the faults of its entries
abbrev pub IsFoundInTable : LocalePlace → Option Data → Data → Found → Type 0
IsFoundInTable place rules value found =
    (entries : Found) × IsFoundInDocumentMembers (IsFoundInEntry (texts_at rules) place) (members_or_none (table_in value)) entries
    × (found ≡ together (found_of_key place) (together (found_of_rules place rules) entries))

abbrev pub IsFoundInRanges : Data → List ℕ → Data → Found → Type 0
IsFoundInRanges document locale value found =
    IsFoundInTable (record { part = Ranges; locale = locale }) (value_of_locale (part_name Cardinal) locale document) value found

-- ---- The document

abbrev pub has_locale : Part → Data → List ℕ → Bool
has_locale part document locale = is_some (value_of_locale (part_name part) locale document)

-- a locale is counted in the first part that has it
abbrev pub is_first_in : Part → Data → List ℕ → Bool
is_first_in Cardinal document locale = true
is_first_in Ordinal document locale = not (has_locale Cardinal document locale)
is_first_in Ranges document locale = not (has_locale Cardinal document locale) && not (has_locale Ordinal document locale)

-- how many locales are in a part but in no earlier part
abbrev pub first_count : Part → Data → ℕ
first_count part document = count_by (is_first_in part document) (keys_in (members_at part document))

-- how many locales there are
abbrev pub locale_count : Data → ℕ
locale_count document = first_count Cardinal document + first_count Ordinal document + first_count Ranges document

-- a part that programs know: one that is checked, or one of the others that `tools/cldr-document`
-- and messages have
abbrev pub is_part_name : List ℕ → Bool
is_part_name key =
    bytes_eq key (part_name Cardinal) || bytes_eq key (part_name Ordinal) || bytes_eq key (part_name Ranges)
    || bytes_eq key (codes "elements") || bytes_eq key (codes "parents")

-- any other is a fault, and its value isn't looked at
abbrev pub found_of_part : List ℕ → Found
found_of_part key = if is_part_name key then nothing_found else document_fault_at (at_part key) cause.NotAPart

abbrev pub IsFoundInPartKey : List ℕ → Data → Found → Type 0
IsFoundInPartKey key value found = found ≡ found_of_part key

-- a document without locales is a fault
abbrev pub found_of_count : ℕ → Found
found_of_count locales = if locales == 0 then document_fault_at at_document cause.NoLocale else nothing_found

-- what is found in the keys of the parts, in all three parts, and in the parents
abbrev pub IsFoundInDocument : Data → Found → Type 0
IsFoundInDocument document found =
    (keys cardinal ordinal ranges parents : Found)
    × IsFoundInDocumentMembers IsFoundInPartKey (members_or_none (as_object document)) keys
    × IsFoundInDocumentMembers (IsFoundInRules Cardinal) (members_at Cardinal document) cardinal
    × IsFoundInDocumentMembers (IsFoundInRules Ordinal) (members_at Ordinal document) ordinal
    × IsFoundInDocumentMembers (IsFoundInRanges document) (members_at Ranges document) ranges
    × IsFoundInParents document parents
    × (found ≡ together keys (together cardinal (together ordinal (together ranges parents))))

pub record IsReportOf (document : Data) (report : Report) : Type 0 where
  pub locales : report.locales ≡ locale_count document
  pub found : (parts : Found) × IsFoundInDocument document parts × (report.found ≡ together parts (found_of_count report.locales))
