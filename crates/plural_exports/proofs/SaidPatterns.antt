-- Patterns that are read, and said.
use Rattle.std.proofs.Common.{◌≡◌, ℕ, List, [], Result, Err, refl}
use Rattle.message_format.specs.declared.error.FormatError.{FormatError}
use Rattle.message_format.specs.declared.error.FormatError.TheVariants as format
use Rattle.message_format.specs.FormatArguments.{Argument}
use Rattle.message_format.specs.FormatMeaning.{Faulty, SaysExactly}
use Rattle.message_format.specs.FormatSteps.{TwoRules}
use Rattle.message_format.specs.Inner.FormatViews.{IsFaultOfParts, outcome_of}
use Rattle.message_pattern.specs.declared.error.PatternError.{PatternError}
use Rattle.message_pattern.specs.declared.error.PatternError.TheVariants as pattern
use Rattle.message_pattern.specs.PatternAnswers.{IsPatternFault}
use Rattle.message_pattern.specs.PatternParts.{Part}
use Rattle.plural_exports.specs.FormattedPatterns.{IsPatternSaid}
use Rattle.plural_exports.specs.GivenPatterns.{ReadsPatternText}
use Rattle.plural_exports.specs.Inner.Conversions.{format_fault, pattern_fault}
use Rattle.plural_exports.specs.declared.fault.Fault.{Fault}

-- the fault of a text that is refused as a pattern
pub pattern_refused : (text : List ℕ) (e : PatternError) (r : Result (List Part) Fault) → r ≡ Err (pattern_fault e) → IsPatternFault text e
    → ReadsPatternText text r
pattern_refused text (pattern.Fault kind place) r is fault = rw is (place, fault)
pattern_refused text pattern.Memory r is fault = rw is fault

-- the fault of a pattern that is refused with its arguments
pub said_refused : (rules : TwoRules) (parts : List Part) (arguments : List Argument) (e : FormatError)
    → SaysExactly arguments rules parts (outcome_of (Err e)) → IsPatternSaid rules parts arguments (Err (format_fault e))
said_refused rules parts arguments (format.Argument fault name) says = (name.now, says.only (Faulty fault name.now) refl)
said_refused rules parts arguments format.Memory says = record {}

-- the fault at which a pattern is no longer said
pub said_fault : (rules : TwoRules) (parts : List Part) (arguments : List Argument) (e : FormatError)
    → IsFaultOfParts arguments rules [] parts [] e → IsPatternSaid rules parts arguments (Err (format_fault e))
said_fault rules parts arguments (format.Argument fault name) says = (name.now, says)
said_fault rules parts arguments format.Memory says = record {}
