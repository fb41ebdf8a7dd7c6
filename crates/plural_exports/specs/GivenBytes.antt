-- What the bytes that are passed mean, or their fault.
--     ReadsRules bytes answer      the rules of a block (docs/FORMATS.md)
--     ReadsElements bytes answer      the elements of packed bytes (docs/FORMATS.md)
--     ReadsTextBytes bytes answer      the text
--     ReadsNumberBytes bytes answer      the number that a text writes within the limits
--         (docs/NUMBERS.md)
use Rattle.std.specs.Prelude.{◌≡◌, ℕ, ◌≤◌, ◌<◌, List, length, Result, Ok, Err}
use Rattle.std.specs.Str.{IsUtf8}
use Rattle.icu_plurals.specs.declared.DecimalError.TheVariants as decimal
use Rattle.icu_plurals.specs.declared.RulesBytesError.{RulesBytesError}
use Rattle.icu_plurals.specs.declared.packed.error.ElementsBytesError.{ElementsBytesError}
use Rattle.icu_plurals.specs.ElementsFaults.{HasElementsFault}
use Rattle.icu_plurals.specs.FiveRules.{FiveRules}
use Rattle.icu_plurals.specs.PackedElements.{PackedElements, ElementsBytes}
use Rattle.icu_plurals.specs.Places.{IsWithinLimit}
use Rattle.icu_plurals.specs.RulesBytes.{RulesBytes, HasRulesFault}
use Rattle.icu_plurals.specs.SureChoice.{WritesNone, WritesOver}
use Rattle.icu_plurals.specs.Written.{CompactNumber, WritesCompact}
use Rattle.plural_documents.specs.Steps.{Then}
use Rattle.plural_exports.specs.declared.fault.Fault.{Fault}
use Rattle.plural_exports.specs.declared.fault.Fault.TheVariants.{Memory, Utf8, Number, Rules, Elements}

-- the rules that the bytes are the block of, or their fault
abbrev pub ReadsRules : List ℕ → Result FiveRules Fault → Type 0
ReadsRules bytes (Ok rules) = RulesBytes rules bytes
ReadsRules bytes (Err e) = (fault : RulesBytesError) × (e ≡ Rules fault) × HasRulesFault bytes fault

-- the elements that the bytes encode, or their fault
abbrev pub ReadsElements : List ℕ → Result PackedElements Fault → Type 0
ReadsElements bytes (Ok elements) = ElementsBytes elements bytes
ReadsElements bytes (Err e) = (fault : ElementsBytesError) × (e ≡ Elements fault) × HasElementsFault bytes fault

-- the bytes are a text, or aren't UTF-8
abbrev pub ReadsTextBytes : List ℕ → Result (List ℕ) Fault → Type 0
ReadsTextBytes bytes (Ok text) = IsUtf8 bytes × (text ≡ bytes)
ReadsTextBytes bytes (Err fault) = (fault ≡ Utf8) × ¬ (IsUtf8 bytes)

-- why a text gives no number: it is out of form, or what it writes is over a limit; or neither, and
-- memory ran out for a text of more than 16 bytes
abbrev pub IsGivenNumberFault : List ℕ → Fault → Type 0
IsGivenNumberFault text Memory = ¬ (WritesNone text) × ¬ (WritesOver text) × (16 < length text)
IsGivenNumberFault text (Number decimal.Syntax) = WritesNone text
IsGivenNumberFault text (Number decimal.Limit) = WritesOver text
IsGivenNumberFault text fault = ⊥

-- the number that a text writes within the limits
abbrev pub WritesNumber : List ℕ → Result CompactNumber Fault → Type 0
WritesNumber text (Ok x) = WritesCompact text x × IsWithinLimit x.significand.absolute × (x.exponent ≤ 255)
WritesNumber text (Err fault) = IsGivenNumberFault text fault

-- the number of bytes that are a text
abbrev pub ReadsNumberBytes : List ℕ → Result CompactNumber Fault → Type 0
ReadsNumberBytes bytes = Then (ReadsTextBytes bytes) WritesNumber
