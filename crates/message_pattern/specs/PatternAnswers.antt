-- What the reader of patterns may return: what the text is read as, or out of memory.
use Rattle.std.specs.Prelude.{◌≡◌, ◌⊎◌, ℕ, ◌-◌, false, List, [], length, Result, Ok, Err, ◌++◌, codes}
use Rattle.std.specs.Fmt.{decimal}
use Rattle.message_pattern.specs.declared.error.Fault.{Fault}
use Rattle.message_pattern.specs.declared.error.FaultKind.{FaultKind}
use Rattle.message_pattern.specs.declared.error.FaultKind.TheVariants.{Unclosed, ExpectedName, BadNumber, ExpectedEnd, ExpectedType}
use Rattle.message_pattern.specs.declared.error.FaultKind.TheVariants.{UnsupportedType, ExpectedStyle, ExpectedOffset, ExpectedSelector}
use Rattle.message_pattern.specs.declared.error.FaultKind.TheVariants.{ExpectedValue, ExpectedBranch, MissingOther, TooDeep}
use Rattle.message_pattern.specs.declared.error.PatternError as error
use Rattle.message_pattern.specs.declared.error.PatternError.TheVariants as errors
use Rattle.message_pattern.specs.declared.head.Formats.{Formats}
use Rattle.message_pattern.specs.declared.head.Formats.TheVariants.{Refused, Allowed}
use Rattle.message_pattern.specs.declared.text.Context.TheVariants.{Whole}
use Rattle.message_pattern.specs.PatternParts.{Part}
use Rattle.message_pattern.specs.PatternReading.{InMessage, Faulty, ReadsText}
use Rattle.message_pattern.specs.PatternGrammar.{IsReadAt}

-- ---- with simple formats, or without

-- the whole text is read as these parts, by the grammar: nothing follows them
abbrev pub IsTextOf : Formats → List ℕ → List Part → Type 0
IsTextOf formats text parts = IsReadAt formats (InMessage Whole 0 false) text parts []

-- the text is none: its first fault is of this kind, at this byte
abbrev pub HasFirstFault : Formats → List ℕ → FaultKind → ℕ → Type 0
HasFirstFault formats text kind place =
    (fault : Fault) × ReadsText formats text (Faulty fault) × (kind ≡ fault.kind) × (place ≡ length text - fault.left)

-- the result is this one, unless memory ran out
abbrev pub IsUnlessMemory : Result (List Part) error.PatternError → Result (List Part) error.PatternError → Type 0
IsUnlessMemory r answer = (r ≡ answer) ⊎ (r ≡ Err errors.Memory)

-- the error is a fault that the text has, or out of memory
abbrev pub IsFaultIn : Formats → List ℕ → error.PatternError → Type 0
IsFaultIn formats text (errors.Fault kind place) = HasFirstFault formats text kind place
IsFaultIn formats text errors.Memory = Unit {0}

-- what is returned is what the text is read as
abbrev pub IsWhatIsRead : Formats → List ℕ → Result (List Part) error.PatternError → Type 0
IsWhatIsRead formats text (Ok parts) = IsTextOf formats text parts
IsWhatIsRead formats text (Err e) = IsFaultIn formats text e

-- parts are returned if and only if the text is read as these parts, and a fault if and only if the
-- text has it, out of memory aside
pub record ReadsExactly (formats : Formats) (text : List ℕ) (r : Result (List Part) error.PatternError) : Type 0 where
  pub only : IsWhatIsRead formats text r
  pub read : (parts : List Part) → IsTextOf formats text parts → IsUnlessMemory r (Ok parts)
  pub fault : (kind : FaultKind) (place : ℕ) → HasFirstFault formats text kind place → IsUnlessMemory r (Err (errors.Fault kind place))

-- ---- patterns, without simple formats

-- the whole text is a pattern with these parts, by the grammar: nothing follows them
abbrev pub IsPattern : List ℕ → List Part → Type 0
IsPattern text parts = IsTextOf Refused text parts

-- the text is none: its first fault is of this kind, at this byte
abbrev pub HasPatternFault : List ℕ → FaultKind → ℕ → Type 0
HasPatternFault text kind place = HasFirstFault Refused text kind place

-- the error is a fault that the text has, or out of memory
abbrev pub IsPatternFault : List ℕ → error.PatternError → Type 0
IsPatternFault text e = IsFaultIn Refused text e

-- parts are returned if and only if the text is a pattern with these parts, and a fault if and only
-- if the text has it, out of memory aside
abbrev pub ParsesPatternExactly : List ℕ → Result (List Part) error.PatternError → Type 0
ParsesPatternExactly text r = ReadsExactly Refused text r

-- ---- patterns with simple formats

-- the same where an argument may have a simple format: it is an `Argument` with all that stands
-- between its braces
abbrev pub IsStyledPattern : List ℕ → List Part → Type 0
IsStyledPattern text parts = IsTextOf Allowed text parts

abbrev pub HasStyledFault : List ℕ → FaultKind → ℕ → Type 0
HasStyledFault text kind place = HasFirstFault Allowed text kind place

abbrev pub ParsesStyledExactly : List ℕ → Result (List Part) error.PatternError → Type 0
ParsesStyledExactly text r = ReadsExactly Allowed text r

-- ---- laws

-- a text has at most one list of parts; if it has one, it has no fault; it has at most one fault
abbrev pub AreReadOneWay : Type 0
AreReadOneWay =
    (formats : Formats) (text : List ℕ)
    → ((a b : List Part) → IsTextOf formats text a → IsTextOf formats text b → a ≡ b)
    × ((parts : List Part) (kind : FaultKind) (place : ℕ) → IsTextOf formats text parts → HasFirstFault formats text kind place → ⊥)
    × ((a b : FaultKind) (m n : ℕ) → HasFirstFault formats text a m → HasFirstFault formats text b n → (a ≡ b) × (m ≡ n))

-- a text is read as parts, or has a fault
abbrev pub IsReadOrFaulty : Formats → List ℕ → Type 0
IsReadOrFaulty formats text =
    ((parts : List Part) × IsTextOf formats text parts) ⊎ ((kind : FaultKind) × (place : ℕ) × HasFirstFault formats text kind place)

-- every text is read as parts, or has a fault
abbrev pub EveryTextIsRead : Type 0
EveryTextIsRead = (formats : Formats) (text : List ℕ) → IsReadOrFaulty formats text

-- a pattern is one with simple formats, too, and has the same parts
abbrev pub PatternsAreStyled : Type 0
PatternsAreStyled = (text : List ℕ) (parts : List Part) → IsPattern text parts → IsStyledPattern text parts

-- ---- The texts that the errors print

abbrev pub pattern_fault_text : FaultKind → List ℕ
pattern_fault_text Unclosed = codes "a brace isn't closed"
pattern_fault_text ExpectedName = codes "expected the name of an argument"
pattern_fault_text BadNumber = codes "the number of an argument begins with a zero"
pattern_fault_text ExpectedEnd = codes "expected ',' or '}'"
pattern_fault_text ExpectedType = codes "expected the type of an argument"
pattern_fault_text UnsupportedType = codes "the type is none of plural, selectordinal and select"
pattern_fault_text ExpectedStyle = codes "expected ',' before the branches"
pattern_fault_text ExpectedOffset = codes "expected digits of an offset"
pattern_fault_text ExpectedSelector = codes "expected a selector"
pattern_fault_text ExpectedValue = codes "expected a number after '='"
pattern_fault_text ExpectedBranch = codes "expected '{' after a selector"
pattern_fault_text MissingOther = codes "no branch for 'other'"
pattern_fault_text TooDeep = codes "branches are nested too deep"

abbrev pub pattern_error_text : error.PatternError → List ℕ
pattern_error_text (errors.Fault kind place) = pattern_fault_text kind ++ codes " at byte " ++ decimal place
pattern_error_text errors.Memory = codes "out of memory"
