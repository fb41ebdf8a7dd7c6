-- What lines of JSON tell of what is found.
--     HasTexts finding      the bytes of patterns in its place are texts, its numbers fit 64 bits, and
--         its samples are kept as `first_samples` keeps them
--     LinesTellFindings      the lines of what is found tell the findings and the counts
use Rattle.std.specs.Prelude.{◌≡◌, ℕ, ◌<◌, ◌^◌, All, Option, Some, None}
use Rattle.std.specs.Str.{IsUtf8}
use Rattle.message_pattern.specs.PatternParts.{Selector, Exactly, Keyword}
use Rattle.plural_checker.specs.FirstSamples.{kept_sample, kept_sample_text}
use Rattle.plural_checker.specs.declared.Sample.{Sample}
use Rattle.message_report.specs.FoundInMessages.{MessageFound}
use Rattle.message_report.specs.MessageFindings.{MessageFinding}
use Rattle.message_report.specs.MessagePlaces.{FilePlace}
use Rattle.message_report.specs.MessagePlaces.{at_document, at_locale, at_key, at_sources, at_source, at_messages, at_message, at_form}
use Rattle.message_report.specs.MessagePlaces.{at_other_key, at_patterns, at_pattern, at_argument, at_branch}
use Rattle.message_report.specs.declared.branch_fault.BranchFault.{BranchFault}
use Rattle.message_report.specs.declared.branch_fault.BranchFault.TheVariants as branch
use Rattle.message_report.specs.declared.cause.Cause.{Cause}
use Rattle.message_report.specs.declared.cause.Cause.TheVariants as cause
use Rattle.message_report.specs.declared.fault.FormFault.{FormFault}
use Rattle.message_report.specs.declared.fault.FormFault.TheVariants as form
use Rattle.finding_formats.specs.JsonLines.{json_lines}

abbrev pub Fits64 : ℕ → Type 0
Fits64 n = n < 2 ^ 64

abbrev pub Fits64If : Option ℕ → Type 0
Fits64If None = Unit {0}
Fits64If (Some n) = Fits64 n

abbrev pub SelectorIsText : Selector → Type 0
SelectorIsText (Exactly n) = IsUtf8 n
SelectorIsText (Keyword word) = IsUtf8 word

-- only these are bytes of a pattern
abbrev pub PlaceHasTexts : FilePlace → Type 0
PlaceHasTexts (at_document file) = Unit {0}
PlaceHasTexts (at_locale l) = Unit {0}
PlaceHasTexts (at_key l key) = Unit {0}
PlaceHasTexts (at_sources l) = Unit {0}
PlaceHasTexts (at_source l key) = Unit {0}
PlaceHasTexts (at_messages l type) = Unit {0}
PlaceHasTexts (at_message m) = Unit {0}
PlaceHasTexts (at_form m form) = Unit {0}
PlaceHasTexts (at_other_key m key) = Unit {0}
PlaceHasTexts (at_patterns l) = Unit {0}
PlaceHasTexts (at_pattern p) = Unit {0}
PlaceHasTexts (at_argument a) = IsUtf8 a.name
PlaceHasTexts (at_branch a selector) = IsUtf8 a.name × SelectorIsText selector

-- a sample as it is kept of its text: the bytes behind that are zeros
abbrev pub IsKeptIf : Option Sample → Type 0
IsKeptIf None = Unit {0}
IsKeptIf (Some sample) = kept_sample (kept_sample_text sample) ≡ sample

abbrev pub FormFits : FormFault → Type 0
FormFits form.NoText = Unit {0}
FormFits (form.Unused category) = Unit {0}
FormFits (form.NoNumber category first second) = Fits64 first × Fits64 second
FormFits (form.Missing category first second) = Fits64 first × Fits64If second
FormFits (form.MissingRare category first second) = IsKeptIf first × IsKeptIf second

abbrev pub BranchFits : BranchFault → Type 0
BranchFits branch.NoCategory = Unit {0}
BranchFits branch.Twice = Unit {0}
BranchFits (branch.Unused category) = Unit {0}
BranchFits (branch.NoHash category first second) = Fits64 first × Fits64 second
BranchFits (branch.Missing category first second) = Fits64 first × Fits64If second
BranchFits (branch.MissingRare category first second) = IsKeptIf first × IsKeptIf second

-- its numbers fit 64 bits, and its samples are as they are kept
abbrev pub CauseFits : Cause → Type 0
CauseFits cause.NoObject = Unit {0}
CauseFits cause.NotAPart = Unit {0}
CauseFits cause.NoTextList = Unit {0}
CauseFits (cause.NoRules type) = Unit {0}
CauseFits (cause.Form fault) = FormFits fault
CauseFits cause.NotAForm = Unit {0}
CauseFits cause.NoText = Unit {0}
CauseFits (cause.NoPattern kind byte) = Fits64 byte
CauseFits (cause.Branch fault) = BranchFits fault
CauseFits (cause.More count) = Fits64 count

pub record HasTexts (f : MessageFinding) : Type 0 where
  pub place : PlaceHasTexts f.place
  pub cause : CauseFits f.cause

pub record AllHaveTexts (found : MessageFound) : Type 0 where
  pub findings : All HasTexts found.findings
  pub faults : Fits64 found.faults
  pub notes : Fits64 found.notes
  pub messages : Fits64 found.messages
  pub forms : Fits64 found.forms

-- the same lines are printed only for the same findings, in the same order, and the same counts
abbrev pub LinesTellFindings : Type 0
LinesTellFindings = (a b : MessageFound) → AllHaveTexts a → AllHaveTexts b → json_lines a ≡ json_lines b → a ≡ b
