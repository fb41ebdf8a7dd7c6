-- The code of each cause of a finding, a word that stays the same, and what formats call a severity.
--     code_of cause      the code of a cause
--     code_name code      its word
use Rattle.std.specs.Prelude.{◌≡◌, ℕ, suc, List, [], ◌∷◌, Some, bytes_eq, codes, if◌then◌else◌, map, slice_get}
use Rattle.message_report.specs.declared.branch_fault.BranchFault.{BranchFault}
use Rattle.message_report.specs.declared.branch_fault.BranchFault.TheVariants as branch
use Rattle.message_report.specs.declared.cause.Cause.{Cause}
use Rattle.message_report.specs.declared.cause.Cause.TheVariants as cause
use Rattle.message_report.specs.declared.fault.FormFault.{FormFault}
use Rattle.message_report.specs.declared.fault.FormFault.TheVariants as form
use Rattle.message_report.specs.declared.severity.Severity.{Severity}
use Rattle.message_report.specs.declared.severity.Severity.TheVariants.{Error, Note}
use Rattle.finding_formats.specs.declared.code.Code.{Code}
use Rattle.finding_formats.specs.declared.code.Code.TheVariants.{NoObject, NotAPart, NoTextList, NoRules, Missing, Unused, NoNumber}
use Rattle.finding_formats.specs.declared.code.Code.TheVariants.{NoText, NotAForm, NoPattern, NotACategory, StandsTwice, More, MissingRare}

abbrev pub code_of_form : FormFault → Code
code_of_form form.NoText = NoText
code_of_form (form.Unused category) = Unused
code_of_form (form.NoNumber category first second) = NoNumber
code_of_form (form.Missing category first second) = Missing
code_of_form (form.MissingRare category first second) = MissingRare

abbrev pub code_of_branch : BranchFault → Code
code_of_branch branch.NoCategory = NotACategory
code_of_branch branch.Twice = StandsTwice
code_of_branch (branch.Unused category) = Unused
code_of_branch (branch.NoHash category first second) = NoNumber
code_of_branch (branch.Missing category first second) = Missing
code_of_branch (branch.MissingRare category first second) = MissingRare

-- a form and a branch share those of the same fault
abbrev pub code_of : Cause → Code
code_of cause.NoObject = NoObject
code_of cause.NotAPart = NotAPart
code_of cause.NoTextList = NoTextList
code_of (cause.NoRules type) = NoRules
code_of (cause.Form fault) = code_of_form fault
code_of cause.NotAForm = NotAForm
code_of cause.NoText = NoText
code_of (cause.NoPattern kind byte) = NoPattern
code_of (cause.Branch fault) = code_of_branch fault
code_of (cause.More count) = More

abbrev pub code_name : Code → List ℕ
code_name NoObject = codes "no-object"
code_name NotAPart = codes "not-a-part"
code_name NoTextList = codes "no-text-list"
code_name NoRules = codes "no-rules"
code_name Missing = codes "missing"
code_name Unused = codes "unused"
code_name NoNumber = codes "no-number"
code_name NoText = codes "no-text"
code_name NotAForm = codes "not-a-form"
code_name NoPattern = codes "no-pattern"
code_name NotACategory = codes "not-a-category"
code_name StandsTwice = codes "stands-twice"
code_name More = codes "more"
code_name MissingRare = codes "missing-rare"

-- what a code means, in a sentence
abbrev pub code_meaning : Code → List ℕ
code_meaning NoObject = codes "A document or a part of it isn't an object."
code_meaning NotAPart = codes "A key of a locale names no part."
code_meaning NoTextList = codes "The arguments of a source text aren't a list of texts."
code_meaning NoRules = codes "A locale has no plural rules of the type."
code_meaning Missing = codes "The language has a category without a form or a branch."
code_meaning Unused = codes "The language hasn't the category of a form or a branch."
code_meaning NoNumber = codes "A form or a branch of more than one number doesn't say the number."
code_meaning NoText = codes "A form or a pattern isn't a text."
code_meaning NotAForm = codes "A key of a message names no form."
code_meaning NoPattern = codes "A text isn't a pattern."
code_meaning NotACategory = codes "The keyword of a branch names no plural category."
code_meaning StandsTwice = codes "The selector of a branch stands before it."
code_meaning More = codes "Further faults of a message or a pattern are only counted."
code_meaning MissingRare = codes "The language has a category without a form or a branch, but no whole number below 10000 would choose it."

-- all codes, in the order of the list of rules
abbrev pub all_codes : List Code
all_codes =
    NoObject ∷ NotAPart ∷ NoTextList ∷ NoRules ∷ Missing ∷ Unused ∷ NoNumber ∷ NoText ∷ NotAForm ∷ NoPattern ∷ NotACategory
    ∷ StandsTwice ∷ More ∷ MissingRare ∷ []

-- how many names stand before one
abbrev pub place_among : List ℕ → List (List ℕ) → ℕ
place_among name [] = 0
place_among name (first ∷ names) = if bytes_eq first name then 0 else suc (place_among name names)

-- its place in that list
abbrev pub code_place : Code → ℕ
code_place code = place_among (code_name code) (map code_name all_codes)

-- the place of a code in the list is that of its rule
abbrev pub PlacesPickRules : Type 0
PlacesPickRules = (code : Code) → slice_get all_codes (code_place code) ≡ Some code

-- what JSON calls a severity
abbrev pub severity_word : Severity → List ℕ
severity_word Error = codes "fault"
severity_word Note = codes "note"

-- what SARIF calls it
abbrev pub level_name : Severity → List ℕ
level_name Error = codes "error"
level_name Note = codes "note"
