-- What is found in a text, of what the reader of patterns returns.
use Rattle.std.proofs.Common.{◌≡◌, ℕ, List, inl, inr, refl, subst}
use Rattle.std.specs.Prelude.{Ok, Err}
use Rattle.message_pattern.specs.PatternAnswers.{ParsesStyledExactly, HasStyledFault, IsStyledPattern}
use Rattle.message_pattern.specs.StyledParts.{unstyled}
use Rattle.message_pattern.specs.PatternParts.{Part}
use Rattle.message_pattern.specs.declared.error.FaultKind.{FaultKind}
use Rattle.message_pattern.specs.declared.error.PatternError.TheVariants as error
use Rattle.message_report.specs.FoundInMessages.{MessageFound, HasGrownInMessages, message_fault_at, messages_together}
use Rattle.message_report.specs.MessagePlaces.{FilePatternPlace, at_pattern}
use Rattle.message_report.specs.MessagesReport.{IsFoundInArguments, IsFoundInText}
use Rattle.message_report.specs.PatternFaults.{TwoLanguages}
use Rattle.message_report.specs.declared.cause.Cause.TheVariants.{NoPattern}

-- a pattern
pub pattern_found : (two : TwoLanguages) (place : FilePatternPlace) (text bytes : List ℕ) (ps shown : List Part) (old new : MessageFound)
    → bytes ≡ text
    → ParsesStyledExactly bytes (Ok ps) → shown ≡ unstyled ps → HasGrownInMessages (IsFoundInArguments two place shown) old new
    → HasGrownInMessages (IsFoundInText two place text) old new
pattern_found two place text bytes ps shown old new same answers is added = (
  added.0,
  inl (
    ps,
    subst (λ (b : List ℕ). IsStyledPattern b ps) same answers.only,
    subst (λ (l : List Part). IsFoundInArguments two place l added.0) is added.1,
  ),
  added.2,
)

-- none
pub fault_found : (two : TwoLanguages) (place : FilePatternPlace) (text bytes : List ℕ) (kind : FaultKind) (byte : ℕ) (old new : MessageFound)
    → bytes ≡ text
    → ParsesStyledExactly bytes (Err (error.Fault kind byte)) → new ≡ messages_together old (message_fault_at (at_pattern place) (NoPattern kind byte))
    → HasGrownInMessages (IsFoundInText two place text) old new
fault_found two place text bytes kind byte old new same answers added = (
  message_fault_at (at_pattern place) (NoPattern kind byte),
  inr (kind, byte, subst (λ (b : List ℕ). HasStyledFault b kind byte) same answers.only, refl),
  added,
)
