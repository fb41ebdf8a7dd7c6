-- What is read from a pattern, step by step: its parts, or its first fault.
use Rattle.std.specs.Prelude.{◌≡◌, ℕ, ◌+◌, List, [], ◌∷◌, ◌++◌, Bool, false, ◌||◌, nat_lt, Option, Some, None, Result, Ok, Err, if◌then◌else◌}
use Rattle.message_pattern.specs.declared.reader.TheConstants.{DEPTH_LIMIT}
use Rattle.message_pattern.specs.declared.error.Fault.{Fault}
use Rattle.message_pattern.specs.declared.error.FaultKind.TheVariants.{TooDeep}
use Rattle.message_pattern.specs.declared.head.Formats.{Formats}
use Rattle.message_pattern.specs.declared.part.ArgumentKind.{ArgumentKind}
use Rattle.message_pattern.specs.declared.part.ArgumentKind.TheVariants.{Plural, Ordinal, Select}
use Rattle.message_pattern.specs.declared.text.Context.{Context}
use Rattle.message_pattern.specs.declared.text.Context.TheVariants.{Whole, Counted, Selected}
use Rattle.message_pattern.specs.PatternText.{Front, End, Closes, Opens, Takes, message_front, is_nested}
use Rattle.message_pattern.specs.PatternParts.{Part, PatternPiece, Selector}
use Rattle.message_pattern.specs.PatternParts as piece
use Rattle.message_pattern.specs.PatternHeads.{Head, Plain, Choice, BranchFront, head_front, branch_front, is_other, unclosed, pattern_fault_at}
use Rattle.message_pattern.specs.PatternHeads as branch

-- where a reading stands
pub data PatternPlace : Type 0 where
  -- in a message, at a depth, in quoted text or not
  InMessage : Context → ℕ → Bool → PatternPlace
  -- behind the brace that begins an argument
  InArgument : ℕ → PatternPlace
  -- before a branch, after a branch `other` or not
  InBranches : ArgumentKind → ℕ → Bool → PatternPlace

-- what a reading comes to
pub data ReadOutcome : Type 0 where
  -- all parts, and what follows what was read
  Read : List Part → List ℕ → ReadOutcome
  -- the first fault
  Faulty : Fault → ReadOutcome

-- what stands in message_front of a text at a place
pub data ReadStep : Type 0 where
  -- the end of what is read there: the last parts, and what follows
  Ends : List Part → List ℕ → ReadStep
  -- a fault
  Fails : Fault → ReadStep
  -- these parts, and then a place before the rest
  Goes : List Part → PatternPlace → List ℕ → ReadStep
  -- these parts; then what begins with the rest is read at the first place, and at the second what
  -- follows
  Calls : List Part → PatternPlace → PatternPlace → List ℕ → ReadStep

-- a part alone
abbrev pub one : ℕ → PatternPiece → List Part
one depth p = record { depth = depth; piece = p } ∷ []

-- what a branch of such an argument is
abbrev pub context_of : ArgumentKind → Context
context_of Plural = Counted
context_of Ordinal = Counted
context_of Select = Selected

-- a message ends with the text, a branch doesn't
abbrev pub step_at_end : Context → ReadStep
step_at_end context = if is_nested context then Fails unclosed else Ends [] []

-- a piece alone, or none
abbrev pub at_most_one : ℕ → Option PatternPiece → List Part
at_most_one depth None = []
at_most_one depth (Some p) = one depth p

abbrev pub message_step : Context → ℕ → Front → ReadStep
message_step context depth End = step_at_end context
message_step context depth (Closes rest) = Ends [] rest
message_step context depth (Opens rest) = Calls [] (InArgument depth) (InMessage context depth false) rest
message_step context depth (Takes p quoted rest) = Goes (at_most_one depth p) (InMessage context depth quoted) rest

abbrev pub argument_step : ℕ → Result (Head × List ℕ) Fault → ReadStep
argument_step depth (Err fault) = Fails fault
argument_step depth (Ok (Plain name, rest)) = Ends (one depth (piece.Argument name)) rest
argument_step depth (Ok (Choice kind name offset, rest)) =
    Goes (one depth (piece.Begin kind name offset)) (InBranches kind depth false) rest

-- the branch of a selector, at most DEPTH_LIMIT deep
abbrev pub opens_branch : ArgumentKind → ℕ → Bool → Selector → List ℕ → ReadStep
opens_branch kind depth has_other selector rest =
    if nat_lt depth DEPTH_LIMIT
    then Calls (one depth (piece.Branch selector)) (InMessage (context_of kind) (depth + 1) false) (InBranches kind depth (has_other || is_other selector)) rest
    else Fails (pattern_fault_at TooDeep rest)

abbrev pub branches_step : ArgumentKind → ℕ → Bool → Result BranchFront Fault → ReadStep
branches_step kind depth has_other (Err fault) = Fails fault
branches_step kind depth has_other (Ok (branch.Closes rest)) = Ends (one depth piece.End) rest
branches_step kind depth has_other (Ok (branch.Opens selector rest)) = opens_branch kind depth has_other selector rest

-- what stands in message_front of s at a place
abbrev pub read_step : Formats → PatternPlace → List ℕ → ReadStep
read_step formats (InMessage context depth quoted) s = message_step context depth (message_front context quoted s)
read_step formats (InArgument depth) s = argument_step depth (head_front formats s)
read_step formats (InBranches kind depth has_other) s = branches_step kind depth has_other (branch_front kind has_other s)

-- from this step on, behind these parts, a text is read to the outcome
pub data ReadsTo (formats : Formats) : ReadStep → List Part → ReadOutcome → Type 0 where
  ends : (at : ReadStep) (before parts : List Part) (rest : List ℕ) → at ≡ Ends parts rest → ReadsTo formats at before (Read (before ++ parts) rest)
  fails : (at : ReadStep) (before : List Part) (fault : Fault) → at ≡ Fails fault → ReadsTo formats at before (Faulty fault)
  goes : (at : ReadStep) (before parts : List Part) (place : PatternPlace) (rest : List ℕ) (outcome : ReadOutcome) → at ≡ Goes parts place rest
      → ReadsTo formats (read_step formats place rest) (before ++ parts) outcome → ReadsTo formats at before outcome
  calls : (at : ReadStep) (before parts inner : List Part) (place after : PatternPlace) (rest end : List ℕ) (outcome : ReadOutcome) → at ≡ Calls parts place after rest
      → ReadsTo formats (read_step formats place rest) (before ++ parts) (Read inner end) → ReadsTo formats (read_step formats after end) inner outcome
      → ReadsTo formats at before outcome
  breaks : (at : ReadStep) (before parts : List Part) (place after : PatternPlace) (rest : List ℕ) (fault : Fault) → at ≡ Calls parts place after rest
      → ReadsTo formats (read_step formats place rest) (before ++ parts) (Faulty fault) → ReadsTo formats at before (Faulty fault)

-- a whole text is read to the outcome
abbrev pub ReadsText : Formats → List ℕ → ReadOutcome → Type 0
ReadsText formats text outcome = ReadsTo formats (read_step formats (InMessage Whole 0 false) text) [] outcome
