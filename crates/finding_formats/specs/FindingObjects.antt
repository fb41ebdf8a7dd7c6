-- A finding as a JSON object, which has all that the finding has.
--     finding_data finding      the object
--     counts_data counts      the object of the counts
use Rattle.std.specs.Prelude.{ℕ, List, ◌++◌, codes, Option, Some, None, if◌then◌else◌}
use Rattle.std.specs.Str.{is_utf8}
use Rattle.serde_json.specs.Data.{Data, null, number, unsigned, string, array, object, Items, no_items, item, Members, no_members, member, put}
use Rattle.icu_plurals.specs.declared.PluralCategory.{PluralCategory}
use Rattle.icu_plurals.specs.Categories.{name_of}
use Rattle.message_pattern.specs.PatternParts.{Selector, Exactly, Keyword}
use Rattle.message_pattern.specs.declared.error.FaultKind.{FaultKind}
use Rattle.message_pattern.specs.declared.error.FaultKind.TheVariants as kind
use Rattle.plural_documents.specs.PrintedKeys.{length_text}
use Rattle.message_report.specs.FindingCauses.{message_cause_text, severity_of}
use Rattle.message_report.specs.MessageFindings.{MessageFinding}
use Rattle.message_report.specs.MessageForms.{form_name}
use Rattle.message_report.specs.MessagePlaces.{ArgumentPlace, FileLocalePlace, MessagePlace, FilePatternPlace, FilePlace, file_of, file_place_text, type_name}
use Rattle.message_report.specs.MessagePlaces.{at_document, at_locale, at_key, at_sources, at_source, at_messages, at_message, at_form}
use Rattle.message_report.specs.MessagePlaces.{at_other_key, at_patterns, at_pattern, at_argument, at_branch}
use Rattle.plural_checker.specs.FirstSamples.{kept_sample_text}
use Rattle.plural_checker.specs.declared.Sample.{Sample}
use Rattle.message_report.specs.declared.branch_fault.BranchFault.{BranchFault}
use Rattle.message_report.specs.declared.branch_fault.BranchFault.TheVariants as branch
use Rattle.message_report.specs.declared.cause.Cause.{Cause}
use Rattle.message_report.specs.declared.cause.Cause.TheVariants as cause
use Rattle.message_report.specs.declared.counts.Counts.{Counts}
use Rattle.message_report.specs.declared.fault.FormFault.{FormFault}
use Rattle.message_report.specs.declared.fault.FormFault.TheVariants as form
use Rattle.finding_formats.specs.FindingCodes.{code_name, code_of, severity_word}

-- the members with a text under a key; an object has its keys in the order of their bytes
abbrev pub with_text_under : List ℕ → List ℕ → Members → Members
with_text_under key text members = put key (string text) members

abbrev pub with_number_under : List ℕ → ℕ → Members → Members
with_number_under key n members = put key (number (unsigned n)) members

-- bytes of a pattern, which is a text: `\(3 bytes)` in place of bytes that cut a character
abbrev pub shown_bytes : List ℕ → List ℕ
shown_bytes bytes = if is_utf8 bytes then bytes else length_text bytes

-- ---- A place

abbrev pub with_locale_place : FileLocalePlace → Members → Members
with_locale_place l members = with_text_under (codes "locale") l.locale members

abbrev pub with_message : MessagePlace → Members → Members
with_message m members =
    with_text_under (codes "message") m.key (with_text_under (codes "type") (type_name m.type) (with_locale_place m.locale members))

abbrev pub with_pattern : FilePatternPlace → Members → Members
with_pattern p members = with_text_under (codes "pattern") p.key (with_locale_place p.locale members)

abbrev pub with_argument : ArgumentPlace → Members → Members
with_argument a members = with_text_under (codes "argument") (shown_bytes a.name) (with_pattern a.pattern members)

-- a branch for a number has the number as it is written
abbrev pub with_selector : Selector → Members → Members
with_selector (Exactly n) members = with_text_under (codes "exactly") (shown_bytes n) members
with_selector (Keyword word) members = with_text_under (codes "keyword") (shown_bytes word) members

abbrev pub place_kind : FilePlace → List ℕ
place_kind (at_document file) = codes "document"
place_kind (at_locale l) = codes "locale"
place_kind (at_key l key) = codes "key"
place_kind (at_sources l) = codes "sources"
place_kind (at_source l key) = codes "source"
place_kind (at_messages l type) = codes "messages"
place_kind (at_message m) = codes "message"
place_kind (at_form m form) = codes "form"
place_kind (at_other_key m key) = codes "other-key"
place_kind (at_patterns l) = codes "patterns"
place_kind (at_pattern p) = codes "pattern"
place_kind (at_argument a) = codes "argument"
place_kind (at_branch a selector) = codes "branch"

-- what a place has, but for its file
abbrev pub with_place : FilePlace → Members → Members
with_place (at_document file) members = members
with_place (at_locale l) members = with_locale_place l members
with_place (at_key l key) members = with_text_under (codes "key") key (with_locale_place l members)
with_place (at_sources l) members = with_locale_place l members
with_place (at_source l key) members = with_text_under (codes "message") key (with_locale_place l members)
with_place (at_messages l type) members = with_text_under (codes "type") (type_name type) (with_locale_place l members)
with_place (at_message m) members = with_message m members
with_place (at_form m form) members = with_text_under (codes "form") (form_name form) (with_message m members)
with_place (at_other_key m key) members = with_text_under (codes "key") key (with_message m members)
with_place (at_patterns l) members = with_locale_place l members
with_place (at_pattern p) members = with_pattern p members
with_place (at_argument a) members = with_argument a members
with_place (at_branch a selector) members = with_selector selector (with_argument a members)

-- `{"kind":"message","locale":"ru","message":"files","type":"cardinal"}`
abbrev pub place_data : FilePlace → Data
place_data place = object (with_text_under (codes "kind") (place_kind place) (with_place place no_members))

-- ---- A cause

abbrev pub fault_kind_name : FaultKind → List ℕ
fault_kind_name kind.Unclosed = codes "unclosed"
fault_kind_name kind.ExpectedName = codes "expected-name"
fault_kind_name kind.BadNumber = codes "bad-number"
fault_kind_name kind.ExpectedEnd = codes "expected-end"
fault_kind_name kind.ExpectedType = codes "expected-type"
fault_kind_name kind.UnsupportedType = codes "unsupported-type"
fault_kind_name kind.ExpectedStyle = codes "expected-style"
fault_kind_name kind.ExpectedOffset = codes "expected-offset"
fault_kind_name kind.ExpectedSelector = codes "expected-selector"
fault_kind_name kind.ExpectedValue = codes "expected-value"
fault_kind_name kind.ExpectedBranch = codes "expected-branch"
fault_kind_name kind.MissingOther = codes "missing-other"
fault_kind_name kind.TooDeep = codes "too-deep"

abbrev pub items_with : ℕ → Items → Items
items_with n items = item (number (unsigned n)) items

-- the numbers that are known, in order
abbrev pub known_numbers : Option ℕ → Option ℕ → Items
known_numbers None None = no_items
known_numbers None (Some second) = item null (items_with second no_items)
known_numbers (Some first) None = items_with first no_items
known_numbers (Some first) (Some second) = items_with first (items_with second no_items)

abbrev pub samples_with : Sample → Items → Items
samples_with sample items = item (string (kept_sample_text sample)) items

-- the samples that are known, in order
abbrev pub known_samples : Option Sample → Option Sample → Items
known_samples None None = no_items
known_samples None (Some second) = item null (samples_with second no_items)
known_samples (Some first) None = samples_with first no_items
known_samples (Some first) (Some second) = samples_with first (samples_with second no_items)

-- a category, and numbers of it
abbrev pub with_numbers : PluralCategory → Option ℕ → Option ℕ → Members → Members
with_numbers category first second members =
    put (codes "numbers") (array (known_numbers first second)) (with_text_under (codes "category") (name_of category) members)

-- a category, and samples of it
abbrev pub with_category_samples : PluralCategory → Option Sample → Option Sample → Members → Members
with_category_samples category first second members =
    put (codes "samples") (array (known_samples first second)) (with_text_under (codes "category") (name_of category) members)

abbrev pub with_form_fault : FormFault → Members → Members
with_form_fault form.NoText members = members
with_form_fault (form.Unused category) members = with_text_under (codes "category") (name_of category) members
with_form_fault (form.NoNumber category first second) members = with_numbers category (Some first) (Some second) members
with_form_fault (form.Missing category first second) members = with_numbers category (Some first) second members
with_form_fault (form.MissingRare category first second) members = with_category_samples category first second members

abbrev pub with_branch_fault : BranchFault → Members → Members
with_branch_fault branch.NoCategory members = members
with_branch_fault branch.Twice members = members
with_branch_fault (branch.Unused category) members = with_text_under (codes "category") (name_of category) members
with_branch_fault (branch.NoHash category first second) members = with_numbers category (Some first) (Some second) members
with_branch_fault (branch.Missing category first second) members = with_numbers category (Some first) second members
with_branch_fault (branch.MissingRare category first second) members = with_category_samples category first second members

-- what a cause has: of what it is, where others have the same code, and its values
abbrev pub with_cause : Cause → Members → Members
with_cause cause.NoObject members = members
with_cause cause.NotAPart members = members
with_cause cause.NoTextList members = members
with_cause (cause.NoRules type) members = with_text_under (codes "type") (type_name type) members
with_cause (cause.Form fault) members = with_form_fault fault (with_text_under (codes "of") (codes "form") members)
with_cause cause.NotAForm members = members
with_cause cause.NoText members = with_text_under (codes "of") (codes "pattern") members
with_cause (cause.NoPattern kind byte) members =
    with_number_under (codes "byte") byte (with_text_under (codes "fault") (fault_kind_name kind) members)
with_cause (cause.Branch fault) members = with_branch_fault fault (with_text_under (codes "of") (codes "branch") members)
with_cause (cause.More count) members = with_number_under (codes "count") count members

-- `{"category":"many","code":"missing","numbers":[0,5],"of":"form"}`
abbrev pub cause_data : Cause → Data
cause_data cause = object (with_text_under (codes "code") (code_name (code_of cause)) (with_cause cause no_members))

-- ---- A finding

-- what is printed of it after the name of its file: `ru files many: missing, but 0 and 5 are many`
abbrev pub finding_text : MessageFinding → List ℕ
finding_text f = file_place_text f.place ++ (codes ": " ++ message_cause_text f.cause)

-- the members of its object, given what is printed of it
abbrev pub finding_members : MessageFinding → List ℕ → Members
finding_members f text =
    member (codes "cause") (cause_data f.cause) (member (codes "file") (string (file_of f.place))
    (member (codes "place") (place_data f.place) (member (codes "severity") (string (severity_word (severity_of f.cause)))
    (member (codes "text") (string text) no_members))))

-- `{"cause":{..},"file":"ru.json","place":{..},"severity":"fault","text":"ru files many: .."}`
abbrev pub finding_data : MessageFinding → Data
finding_data f = object (finding_members f (finding_text f))

-- `{"counts":{"faults":3,"forms":40,"messages":12,"notes":1}}`
abbrev pub counts_data : Counts → Data
counts_data counts =
    object (member (codes "counts") (object (member (codes "faults") (number (unsigned counts.faults))
    (member (codes "forms") (number (unsigned counts.forms)) (member (codes "messages") (number (unsigned counts.messages))
    (member (codes "notes") (number (unsigned counts.notes)) no_members)))))
    no_members)
