-- What a pattern says with its arguments: its text, or its first fault.
use Rattle.std.specs.Prelude.{◌≡◌, ◌⊎◌, ℕ, List, [], ◌∷◌, ◌++◌, Option, Some, None, codes}
use Rattle.message_pattern.specs.PatternParts.{Part}
use Rattle.message_format.specs.declared.error.ArgumentFault.{ArgumentFault}
use Rattle.message_format.specs.FormatArguments.{Argument}
use Rattle.message_format.specs.FormatBranches.{behind_end}
use Rattle.message_format.specs.FormatSteps.{TwoRules, Stops, Prints, Chooses, Fails, IsPieceStep}
use Rattle.message_format.specs.declared.error.ArgumentFault.TheVariants.{Missing, WrongKind, NotANumber, OverLimit, CompactOffset}
use Rattle.message_format.specs.declared.error.FormatError.{FormatError}
use Rattle.message_format.specs.declared.error.FormatError.TheVariants as format

-- what is said
pub data PatternOutcome : Type 0 where
  -- a text
  Said : List ℕ → PatternOutcome
  -- the first fault, and the name of its argument
  Faulty : ArgumentFault → List ℕ → PatternOutcome

-- Behind the text that was said before, and where `#` is the first text, the message at the front
-- of the parts comes to the outcome. It ends before the next branch, before the end of its
-- argument, or with the parts. The parts are formatted in their order, and of the branches of an
-- argument only the one that is chosen; the first fault is the outcome.
pub data MessageSays (arguments : List Argument) (rules : TwoRules) : List ℕ → List ℕ → List Part → PatternOutcome → Type 0 where
  ends : (hash before : List ℕ) → MessageSays arguments rules hash before [] (Said before)
  stops : (hash before : List ℕ) (p : Part) (rest : List Part) → IsPieceStep arguments rules hash p.depth p.piece rest Stops
      → MessageSays arguments rules hash before (p ∷ rest) (Said before)
  prints : (hash before text : List ℕ) (p : Part) (rest : List Part) (outcome : PatternOutcome)
      → IsPieceStep arguments rules hash p.depth p.piece rest (Prints text)
      → MessageSays arguments rules hash (before ++ text) rest outcome → MessageSays arguments rules hash before (p ∷ rest) outcome
  chooses : (hash number before said : List ℕ) (p : Part) (rest branch : List Part) (outcome : PatternOutcome)
      → IsPieceStep arguments rules hash p.depth p.piece rest (Chooses number branch)
      → MessageSays arguments rules number before branch (Said said)
      → MessageSays arguments rules hash said (behind_end p.depth rest) outcome → MessageSays arguments rules hash before (p ∷ rest) outcome
  breaks : (hash number before name : List ℕ) (p : Part) (rest branch : List Part) (fault : ArgumentFault)
      → IsPieceStep arguments rules hash p.depth p.piece rest (Chooses number branch)
      → MessageSays arguments rules number before branch (Faulty fault name) → MessageSays arguments rules hash before (p ∷ rest) (Faulty fault name)
  fails : (hash before name : List ℕ) (p : Part) (rest : List Part) (fault : ArgumentFault)
      → IsPieceStep arguments rules hash p.depth p.piece rest (Fails fault name) → MessageSays arguments rules hash before (p ∷ rest) (Faulty fault name)

-- a whole pattern comes to the outcome: outside the branches of plurals there is no `#`
abbrev pub PatternSays : List Argument → TwoRules → List Part → PatternOutcome → Type 0
PatternSays arguments rules parts outcome = MessageSays arguments rules [] [] parts outcome

-- The outcome is the one that the pattern comes to; and if there is none, memory ran out. What the
-- pattern comes to is the outcome, unless memory ran out.
pub record SaysExactly (arguments : List Argument) (rules : TwoRules) (parts : List Part) (outcome : Option PatternOutcome) : Type 0 where
  pub only : (o : PatternOutcome) → outcome ≡ Some o → PatternSays arguments rules parts o
  pub every : (o : PatternOutcome) → PatternSays arguments rules parts o → (outcome ≡ Some o) ⊎ (outcome ≡ None)

-- a pattern comes to at most one outcome: one text, or one fault with the name of its argument
abbrev pub HaveOneOutcome : Type 0
HaveOneOutcome =
    (arguments : List Argument) (rules : TwoRules) (parts : List Part) (a b : PatternOutcome)
    → PatternSays arguments rules parts a → PatternSays arguments rules parts b → a ≡ b

-- ---- The texts that the errors print

abbrev pub argument_fault_text : ArgumentFault → List ℕ
argument_fault_text Missing = codes "no argument has the name"
argument_fault_text WrongKind = codes "the argument is of the wrong kind"
argument_fault_text NotANumber = codes "bad number"
argument_fault_text OverLimit = codes "number out of limits"
argument_fault_text CompactOffset = codes "an offset from a compact number"

-- the name of the argument isn't printed: it is any bytes
abbrev pub format_error_text : FormatError → List ℕ
format_error_text (format.Argument fault name) = argument_fault_text fault
format_error_text format.Memory = codes "out of memory"
