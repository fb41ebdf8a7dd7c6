-- What is printed for what is wrong at a place.
--     message_cause_text cause      the text after the place
--     severity_of cause      how grave it is
use Rattle.std.specs.Prelude.{ℕ, List, ◌++◌, codes}
use Rattle.std.specs.Fmt.{decimal}
use Rattle.icu_plurals.specs.declared.PluralRuleType.{PluralRuleType}
use Rattle.icu_plurals.specs.declared.PluralRuleType.TheVariants.{Cardinal, Ordinal}
use Rattle.message_pattern.specs.PatternAnswers.{pattern_error_text}
use Rattle.message_pattern.specs.declared.error.PatternError.TheVariants as error
use Rattle.message_report.specs.FormFaults.{form_fault_text}
use Rattle.message_report.specs.PatternFaults.{branch_fault_text}
use Rattle.message_report.specs.declared.branch_fault.BranchFault.{BranchFault}
use Rattle.message_report.specs.declared.branch_fault.BranchFault.TheVariants as branch
use Rattle.message_report.specs.declared.cause.Cause.{Cause}
use Rattle.message_report.specs.declared.cause.Cause.TheVariants as cause
use Rattle.message_report.specs.declared.fault.FormFault.{FormFault}
use Rattle.message_report.specs.declared.fault.FormFault.TheVariants as form
use Rattle.message_report.specs.declared.severity.Severity.{Severity}
use Rattle.message_report.specs.declared.severity.Severity.TheVariants.{Error, Note}

abbrev pub no_rules_text : PluralRuleType → List ℕ
no_rules_text Cardinal = codes "no cardinal rules"
no_rules_text Ordinal = codes "no ordinal rules"

abbrev pub message_cause_text : Cause → List ℕ
message_cause_text cause.NoObject = codes "no object"
message_cause_text cause.NotAPart = codes "not a part"
message_cause_text cause.NoTextList = codes "no list of texts"
message_cause_text (cause.NoRules type) = no_rules_text type
message_cause_text (cause.Form fault) = form_fault_text fault
message_cause_text cause.NotAForm = codes "not a form"
message_cause_text cause.NoText = codes "no text"
message_cause_text (cause.NoPattern kind byte) = codes "no pattern: " ++ pattern_error_text (error.Fault kind byte)
message_cause_text (cause.Branch fault) = branch_fault_text fault
message_cause_text (cause.More count) = codes "and " ++ (decimal count ++ codes " more")

-- what only large numbers, compact ones or fractions choose may be missing
abbrev pub form_severity : FormFault → Severity
form_severity form.NoText = Error
form_severity (form.Unused category) = Error
form_severity (form.NoNumber category first second) = Error
form_severity (form.Missing category first second) = Error
form_severity (form.MissingRare category first second) = Note

abbrev pub branch_severity : BranchFault → Severity
branch_severity branch.NoCategory = Error
branch_severity branch.Twice = Error
branch_severity (branch.Unused category) = Error
branch_severity (branch.NoHash category first second) = Error
branch_severity (branch.Missing category first second) = Error
branch_severity (branch.MissingRare category first second) = Note

-- all else is a fault
abbrev pub severity_of : Cause → Severity
severity_of cause.NoObject = Error
severity_of cause.NotAPart = Error
severity_of cause.NoTextList = Error
severity_of (cause.NoRules type) = Error
severity_of (cause.Form fault) = form_severity fault
severity_of cause.NotAForm = Error
severity_of cause.NoText = Error
severity_of (cause.NoPattern kind byte) = Error
severity_of (cause.Branch fault) = branch_severity fault
severity_of (cause.More count) = Error

-- ---- the word of a severity

abbrev pub severity_name : Severity → List ℕ
severity_name Error = codes "error"
severity_name Note = codes "note"
