-- A finding is read again from its object.
use Rattle.std.proofs.Common.{◌≡◌, ℕ, List, [], Option, Some, None, refl, sym, ap, ◌∙◌, codes, Bool}
use Rattle.std.specs.Prelude.{bytes_eq, if◌then◌else◌, is_some, unwrap_or}
use Rattle.std.specs.Str.{IsUtf8}
use Rattle.std.proofs.lemmas.Str.{is_utf8-from_IsUtf8}
use Rattle.icu_plurals.specs.Categories.{name_of}
use Rattle.icu_plurals.specs.declared.PluralCategory.{PluralCategory}
use Rattle.icu_plurals.specs.declared.PluralCategory.TheVariants.{Zero, One, Two, Few, Many, Other}
use Rattle.icu_plurals.specs.declared.PluralRuleType.{PluralRuleType}
use Rattle.icu_plurals.specs.declared.PluralRuleType.TheVariants.{Cardinal, Ordinal}
use Rattle.message_pattern.specs.PatternParts.{Selector, Exactly, Keyword}
use Rattle.message_pattern.specs.declared.error.FaultKind.{FaultKind}
use Rattle.message_pattern.specs.declared.error.FaultKind.TheVariants as kind
use Rattle.plural_checker.specs.FirstSamples.{kept_sample, kept_sample_text}
use Rattle.plural_checker.specs.declared.Sample.{Sample}
use Rattle.message_report.specs.MessageFindings.{MessageFinding}
use Rattle.message_report.specs.MessageForms.{form_name}
use Rattle.message_report.specs.MessagePlaces.{ArgumentPlace, FileLocalePlace, MessagePlace, FilePatternPlace, FilePlace, file_of, type_name}
use Rattle.message_report.specs.MessagePlaces.{at_document, at_locale, at_key, at_sources, at_source, at_messages, at_message, at_form}
use Rattle.message_report.specs.MessagePlaces.{at_other_key, at_patterns, at_pattern, at_argument, at_branch}
use Rattle.message_report.specs.declared.branch_fault.BranchFault.{BranchFault}
use Rattle.message_report.specs.declared.branch_fault.BranchFault.TheVariants as branch
use Rattle.message_report.specs.declared.cause.Cause.{Cause}
use Rattle.message_report.specs.declared.cause.Cause.TheVariants as cause
use Rattle.message_report.specs.declared.fault.FormFault.{FormFault}
use Rattle.message_report.specs.declared.fault.FormFault.TheVariants as fault
use Rattle.message_report.specs.declared.form.Form.{Form}
use Rattle.message_report.specs.declared.form.Form.TheVariants as form
use Rattle.serde_json.specs.Data.{Num, unsigned, Data, null, number, string, array, Items, no_items, item}
use Rattle.serde_json.specs.Find.{get}
use Rattle.finding_formats.specs.FindingObjects.{cause_data, fault_kind_name, finding_data, place_data, shown_bytes}
use Rattle.finding_formats.specs.JsonLineLaws.{BranchFits, CauseFits, FormFits, PlaceHasTexts, HasTexts}

-- ---- What stands under a key

abbrev pub value_at : List ℕ → Data → Data
value_at key d = unwrap_or (get key d) null

abbrev pub text_of : Data → List ℕ
text_of (string s) = s
text_of _ = []

abbrev pub text_at : List ℕ → Data → List ℕ
text_at key d = text_of (value_at key d)

abbrev pub number_of_num : Num → ℕ
number_of_num (unsigned n) = n
number_of_num _ = 0

abbrev pub number_of : Data → ℕ
number_of (number n) = number_of_num n
number_of _ = 0

abbrev pub number_at : List ℕ → Data → ℕ
number_at key d = number_of (value_at key d)

-- ---- Words

abbrev type_in : List ℕ → PluralRuleType
type_in word = if bytes_eq word (codes "ordinal") then Ordinal else Cardinal

abbrev category_in : List ℕ → PluralCategory
category_in word =
    if bytes_eq word (codes "zero") then Zero
    else if bytes_eq word (codes "one") then One
    else if bytes_eq word (codes "two") then Two
    else if bytes_eq word (codes "few") then Few
    else if bytes_eq word (codes "many") then Many
    else Other

abbrev form_in : List ℕ → Form
form_in word =
    if bytes_eq word (codes "explicit_zero") then form.ExplicitZero
    else if bytes_eq word (codes "explicit_one") then form.ExplicitOne
    else form.Category (category_in word)

abbrev kind_in : List ℕ → FaultKind
kind_in word =
    if bytes_eq word (codes "unclosed") then kind.Unclosed
    else if bytes_eq word (codes "expected-name") then kind.ExpectedName
    else if bytes_eq word (codes "bad-number") then kind.BadNumber
    else if bytes_eq word (codes "expected-end") then kind.ExpectedEnd
    else if bytes_eq word (codes "expected-type") then kind.ExpectedType
    else if bytes_eq word (codes "unsupported-type") then kind.UnsupportedType
    else if bytes_eq word (codes "expected-style") then kind.ExpectedStyle
    else if bytes_eq word (codes "expected-offset") then kind.ExpectedOffset
    else if bytes_eq word (codes "expected-selector") then kind.ExpectedSelector
    else if bytes_eq word (codes "expected-value") then kind.ExpectedValue
    else if bytes_eq word (codes "expected-branch") then kind.ExpectedBranch
    else if bytes_eq word (codes "missing-other") then kind.MissingOther
    else kind.TooDeep

type_again : (type : PluralRuleType) → type_in (type_name type) ≡ type
type_again Cardinal = refl
type_again Ordinal = refl

category_again : (category : PluralCategory) → category_in (name_of category) ≡ category
category_again Zero = refl
category_again One = refl
category_again Two = refl
category_again Few = refl
category_again Many = refl
category_again Other = refl

form_again : (f : Form) → form_in (form_name f) ≡ f
form_again form.ExplicitZero = refl
form_again form.ExplicitOne = refl
form_again (form.Category Zero) = refl
form_again (form.Category One) = refl
form_again (form.Category Two) = refl
form_again (form.Category Few) = refl
form_again (form.Category Many) = refl
form_again (form.Category Other) = refl

kind_again : (k : FaultKind) → kind_in (fault_kind_name k) ≡ k
kind_again kind.Unclosed = refl
kind_again kind.ExpectedName = refl
kind_again kind.BadNumber = refl
kind_again kind.ExpectedEnd = refl
kind_again kind.ExpectedType = refl
kind_again kind.UnsupportedType = refl
kind_again kind.ExpectedStyle = refl
kind_again kind.ExpectedOffset = refl
kind_again kind.ExpectedSelector = refl
kind_again kind.ExpectedValue = refl
kind_again kind.ExpectedBranch = refl
kind_again kind.MissingOther = refl
kind_again kind.TooDeep = refl

-- ---- Places

abbrev locale_in : List ℕ → Data → FileLocalePlace
locale_in file d = record { file = file; locale = text_at (codes "locale") d }

abbrev message_in : List ℕ → Data → MessagePlace
message_in file d = record {
  locale = locale_in file d;
  type = type_in (text_at (codes "type") d);
  key = text_at (codes "message") d;
}

abbrev pattern_in : List ℕ → Data → FilePatternPlace
pattern_in file d = record { locale = locale_in file d; key = text_at (codes "pattern") d }

abbrev argument_in : List ℕ → Data → ArgumentPlace
argument_in file d = record { pattern = pattern_in file d; name = text_at (codes "argument") d }

abbrev selector_in : Data → Selector
selector_in d =
    if is_some (get (codes "exactly") d) then Exactly (text_at (codes "exactly") d) else Keyword (text_at (codes "keyword") d)

abbrev place_of_kind : List ℕ → List ℕ → Data → FilePlace
place_of_kind word file d =
    if bytes_eq word (codes "locale") then at_locale (locale_in file d)
    else if bytes_eq word (codes "key") then at_key (locale_in file d) (text_at (codes "key") d)
    else if bytes_eq word (codes "sources") then at_sources (locale_in file d)
    else if bytes_eq word (codes "source") then at_source (locale_in file d) (text_at (codes "message") d)
    else if bytes_eq word (codes "messages") then at_messages (locale_in file d) (type_in (text_at (codes "type") d))
    else if bytes_eq word (codes "message") then at_message (message_in file d)
    else if bytes_eq word (codes "form") then at_form (message_in file d) (form_in (text_at (codes "form") d))
    else if bytes_eq word (codes "other-key") then at_other_key (message_in file d) (text_at (codes "key") d)
    else if bytes_eq word (codes "patterns") then at_patterns (locale_in file d)
    else if bytes_eq word (codes "pattern") then at_pattern (pattern_in file d)
    else if bytes_eq word (codes "argument") then at_argument (argument_in file d)
    else if bytes_eq word (codes "branch") then at_branch (argument_in file d) (selector_in d)
    else at_document file

pub place_in : List ℕ → Data → FilePlace
place_in file d = place_of_kind (text_at (codes "kind") d) file d

shown_again : (bytes : List ℕ) → IsUtf8 bytes → shown_bytes bytes ≡ bytes
shown_again bytes h = rw (is_utf8-from_IsUtf8 bytes h) refl

message_again : (m : MessagePlace) → place_in m.locale.file (place_data (at_message m)) ≡ at_message m
unfolding place_in
message_again m = ap (λ (type : PluralRuleType). at_message (record m { type = type })) (type_again m.type)

argument_again : (a : ArgumentPlace) → IsUtf8 a.name → place_in a.pattern.locale.file (place_data (at_argument a)) ≡ at_argument a
unfolding place_in
argument_again a h = ap (λ (name : List ℕ). at_argument (record a { name = name })) (shown_again a.name h)

exact_again : (a : ArgumentPlace) (n : List ℕ) → IsUtf8 a.name → IsUtf8 n
    → place_in a.pattern.locale.file (place_data (at_branch a (Exactly n))) ≡ at_branch a (Exactly n)
unfolding place_in
exact_again a n h k =
    ap (λ (name : List ℕ). at_branch (record a { name = name }) (Exactly (shown_bytes n))) (shown_again a.name h)
    ∙ ap (λ (number : List ℕ). at_branch a (Exactly number)) (shown_again n k)

keyword_again : (a : ArgumentPlace) (w : List ℕ) → IsUtf8 a.name → IsUtf8 w
    → place_in a.pattern.locale.file (place_data (at_branch a (Keyword w))) ≡ at_branch a (Keyword w)
unfolding place_in
keyword_again a w h k =
    ap (λ (name : List ℕ). at_branch (record a { name = name }) (Keyword (shown_bytes w))) (shown_again a.name h)
    ∙ ap (λ (word : List ℕ). at_branch a (Keyword word)) (shown_again w k)

form_place_again : (m : MessagePlace) (f : Form) → place_in m.locale.file (place_data (at_form m f)) ≡ at_form m f
unfolding place_in
form_place_again m f =
    ap (λ (type : PluralRuleType). at_form (record m { type = type }) (form_in (form_name f))) (type_again m.type)
    ∙ ap (λ (form : Form). at_form m form) (form_again f)

key_again : (m : MessagePlace) (key : List ℕ) → place_in m.locale.file (place_data (at_other_key m key)) ≡ at_other_key m key
unfolding place_in
key_again m key = ap (λ (type : PluralRuleType). at_other_key (record m { type = type }) key) (type_again m.type)

place_again : (place : FilePlace) → PlaceHasTexts place → place_in (file_of place) (place_data place) ≡ place
unfolding place_in
place_again (at_document file) h = refl
place_again (at_locale l) h = refl
place_again (at_key l key) h = refl
place_again (at_sources l) h = refl
place_again (at_source l key) h = refl
place_again (at_messages l type) h = ap (λ (type : PluralRuleType). at_messages l type) (type_again type)
place_again (at_message m) h = message_again m
place_again (at_form m f) h = form_place_again m f
place_again (at_other_key m key) h = key_again m key
place_again (at_patterns l) h = refl
place_again (at_pattern p) h = refl
place_again (at_argument a) h = argument_again a h
place_again (at_branch a (Exactly n)) h = exact_again a n h.0 h.1
place_again (at_branch a (Keyword w)) h = keyword_again a w h.0 h.1

-- ---- Causes

abbrev number_if : Data → Option ℕ
number_if (number n) = Some (number_of_num n)
number_if _ = None

abbrev first_item : Items → Option ℕ
first_item no_items = None
first_item (item d ds) = number_if d

abbrev second_item : Items → Option ℕ
second_item no_items = None
second_item (item d ds) = first_item ds

abbrev first_in : Data → Option ℕ
first_in (array ds) = first_item ds
first_in _ = None

abbrev second_in : Data → Option ℕ
second_in (array ds) = second_item ds
second_in _ = None

abbrev is_of_form : Data → Bool
is_of_form d = bytes_eq (text_at (codes "of") d) (codes "form")

abbrev category_at : Data → PluralCategory
category_at d = category_in (text_at (codes "category") d)

abbrev first_at : Data → Option ℕ
first_at d = first_in (value_at (codes "numbers") d)

abbrev second_at : Data → Option ℕ
second_at d = second_in (value_at (codes "numbers") d)

abbrev sample_if : Data → Option Sample
sample_if (string s) = Some (kept_sample s)
sample_if _ = None

abbrev first_kept : Items → Option Sample
first_kept no_items = None
first_kept (item d ds) = sample_if d

abbrev second_kept : Items → Option Sample
second_kept no_items = None
second_kept (item d ds) = first_kept ds

abbrev first_kept_in : Data → Option Sample
first_kept_in (array ds) = first_kept ds
first_kept_in _ = None

abbrev second_kept_in : Data → Option Sample
second_kept_in (array ds) = second_kept ds
second_kept_in _ = None

abbrev first_sample_at : Data → Option Sample
first_sample_at d = first_kept_in (value_at (codes "samples") d)

abbrev second_sample_at : Data → Option Sample
second_sample_at d = second_kept_in (value_at (codes "samples") d)

abbrev cause_of_code : List ℕ → Data → Cause
cause_of_code word d =
    if bytes_eq word (codes "no-object") then cause.NoObject
    else if bytes_eq word (codes "not-a-part") then cause.NotAPart
    else if bytes_eq word (codes "no-text-list") then cause.NoTextList
    else if bytes_eq word (codes "no-rules") then cause.NoRules (type_in (text_at (codes "type") d))
    else if bytes_eq word (codes "missing") then (
    if is_of_form d then cause.Form (fault.Missing (category_at d) (unwrap_or (first_at d) 0) (second_at d))
    else cause.Branch (branch.Missing (category_at d) (unwrap_or (first_at d) 0) (second_at d))
    )
    else if bytes_eq word (codes "missing-rare") then (
    if is_of_form d then cause.Form (fault.MissingRare (category_at d) (first_sample_at d) (second_sample_at d))
    else cause.Branch (branch.MissingRare (category_at d) (first_sample_at d) (second_sample_at d))
    )
    else if bytes_eq word (codes "unused") then (
    if is_of_form d then cause.Form (fault.Unused (category_at d)) else cause.Branch (branch.Unused (category_at d))
    )
    else if bytes_eq word (codes "no-number") then (
    if is_of_form d then cause.Form (fault.NoNumber (category_at d) (unwrap_or (first_at d) 0) (unwrap_or (second_at d) 0))
    else cause.Branch (branch.NoHash (category_at d) (unwrap_or (first_at d) 0) (unwrap_or (second_at d) 0))
    )
    else if bytes_eq word (codes "no-text") then (if is_of_form d then cause.Form fault.NoText else cause.NoText)
    else if bytes_eq word (codes "not-a-form") then cause.NotAForm
    else if bytes_eq word (codes "no-pattern") then cause.NoPattern (kind_in (text_at (codes "fault") d)) (number_at (codes "byte") d)
    else if bytes_eq word (codes "not-a-category") then cause.Branch branch.NoCategory
    else if bytes_eq word (codes "stands-twice") then cause.Branch branch.Twice
    else cause.More (number_at (codes "count") d)

pub cause_in : Data → Cause
cause_in d = cause_of_code (text_at (codes "code") d) d

form_fault_again : (f : FormFault) → FormFits f → cause_in (cause_data (cause.Form f)) ≡ cause.Form f
unfolding cause_in
form_fault_again fault.NoText h = refl
form_fault_again (fault.Unused category) h = ap (λ (c : PluralCategory). cause.Form (fault.Unused c)) (category_again category)
form_fault_again (fault.NoNumber category first second) h =
    ap (λ (c : PluralCategory). cause.Form (fault.NoNumber c first second)) (category_again category)
form_fault_again (fault.Missing category first None) h =
    ap (λ (c : PluralCategory). cause.Form (fault.Missing c first None)) (category_again category)
form_fault_again (fault.Missing category first (Some second)) h =
    ap (λ (c : PluralCategory). cause.Form (fault.Missing c first (Some second))) (category_again category)
form_fault_again (fault.MissingRare category None None) h =
    ap (λ (c : PluralCategory). cause.Form (fault.MissingRare c None None)) (category_again category)
form_fault_again (fault.MissingRare category None (Some second)) h =
    ap (λ (c : PluralCategory). cause.Form (fault.MissingRare c None (Some (kept_sample (kept_sample_text second))))) (category_again category)
    ∙ ap (λ (s : Sample). cause.Form (fault.MissingRare category None (Some s))) h.1
form_fault_again (fault.MissingRare category (Some first) None) h =
    ap (λ (c : PluralCategory). cause.Form (fault.MissingRare c (Some (kept_sample (kept_sample_text first))) None)) (category_again category)
    ∙ ap (λ (s : Sample). cause.Form (fault.MissingRare category (Some s) None)) h.0
form_fault_again (fault.MissingRare category (Some first) (Some second)) h =
    ap (λ (c : PluralCategory). cause.Form
    (fault.MissingRare c (Some (kept_sample (kept_sample_text first))) (Some (kept_sample (kept_sample_text second))))) (category_again category)
    ∙ ap (λ (s : Sample). cause.Form (fault.MissingRare category (Some s) (Some (kept_sample (kept_sample_text second))))) h.0
    ∙ ap (λ (s : Sample). cause.Form (fault.MissingRare category (Some first) (Some s))) h.1

branch_fault_again : (f : BranchFault) → BranchFits f → cause_in (cause_data (cause.Branch f)) ≡ cause.Branch f
unfolding cause_in
branch_fault_again branch.NoCategory h = refl
branch_fault_again branch.Twice h = refl
branch_fault_again (branch.Unused category) h = ap (λ (c : PluralCategory). cause.Branch (branch.Unused c)) (category_again category)
branch_fault_again (branch.NoHash category first second) h =
    ap (λ (c : PluralCategory). cause.Branch (branch.NoHash c first second)) (category_again category)
branch_fault_again (branch.Missing category first None) h =
    ap (λ (c : PluralCategory). cause.Branch (branch.Missing c first None)) (category_again category)
branch_fault_again (branch.Missing category first (Some second)) h =
    ap (λ (c : PluralCategory). cause.Branch (branch.Missing c first (Some second))) (category_again category)
branch_fault_again (branch.MissingRare category None None) h =
    ap (λ (c : PluralCategory). cause.Branch (branch.MissingRare c None None)) (category_again category)
branch_fault_again (branch.MissingRare category None (Some second)) h =
    ap (λ (c : PluralCategory). cause.Branch (branch.MissingRare c None (Some (kept_sample (kept_sample_text second)))))
    (category_again category)
    ∙ ap (λ (s : Sample). cause.Branch (branch.MissingRare category None (Some s))) h.1
branch_fault_again (branch.MissingRare category (Some first) None) h =
    ap (λ (c : PluralCategory). cause.Branch (branch.MissingRare c (Some (kept_sample (kept_sample_text first))) None)) (category_again category)
    ∙ ap (λ (s : Sample). cause.Branch (branch.MissingRare category (Some s) None)) h.0
branch_fault_again (branch.MissingRare category (Some first) (Some second)) h =
    ap (λ (c : PluralCategory). cause.Branch
    (branch.MissingRare c (Some (kept_sample (kept_sample_text first))) (Some (kept_sample (kept_sample_text second))))) (category_again category)
    ∙ ap (λ (s : Sample). cause.Branch (branch.MissingRare category (Some s) (Some (kept_sample (kept_sample_text second))))) h.0
    ∙ ap (λ (s : Sample). cause.Branch (branch.MissingRare category (Some first) (Some s))) h.1

cause_again : (c : Cause) → CauseFits c → cause_in (cause_data c) ≡ c
unfolding cause_in
cause_again cause.NoObject h = refl
cause_again cause.NotAPart h = refl
cause_again cause.NoTextList h = refl
cause_again (cause.NoRules type) h = ap (λ (type : PluralRuleType). cause.NoRules type) (type_again type)
cause_again (cause.Form f) h = form_fault_again f h
cause_again cause.NotAForm h = refl
cause_again cause.NoText h = refl
cause_again (cause.NoPattern k byte) h = ap (λ (k : FaultKind). cause.NoPattern k byte) (kind_again k)
cause_again (cause.Branch f) h = branch_fault_again f h
cause_again (cause.More count) h = refl

-- ---- Findings

abbrev pub finding_in : Data → MessageFinding
finding_in d = record {
  place = place_in (text_at (codes "file") d) (value_at (codes "place") d);
  cause = cause_in (value_at (codes "cause") d);
}

pub finding_again : (f : MessageFinding) → HasTexts f → finding_in (finding_data f) ≡ f
finding_again f h =
    ap (λ (place : FilePlace). let found : MessageFinding = record { place = place; cause = cause_in (cause_data f.cause) } in found)
    (place_again f.place h.place)
    ∙ ap (λ (c : Cause). let found : MessageFinding = record { place = f.place; cause = c } in found) (cause_again f.cause h.cause)

-- so the object tells the finding
pub object_tells : (f g : MessageFinding) → HasTexts f → HasTexts g → finding_data f ≡ finding_data g → f ≡ g
object_tells f g h k same = sym (finding_again f h) ∙ ap finding_in same ∙ finding_again g k
