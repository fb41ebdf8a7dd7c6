-- What private functions return, without where it lies in memory.
use Rattle.std.specs.Prelude.{◌<◌, ◌-◌, ℕ, List, length, Option, Some, None, Result, Ok, Err}
use Rattle.std.specs.Borrow.{Bor}
use Rattle.std.specs.Global.{Vec}
use Rattle.message_pattern.specs.declared.error.Fault.{Fault}
use Rattle.message_pattern.specs.declared.error.ReadError.{ReadError}
use Rattle.message_pattern.specs.declared.error.ReadError.TheVariants as read
use Rattle.message_pattern.specs.declared.error.PatternError as error
use Rattle.message_pattern.specs.declared.error.PatternError.TheVariants as errors
use Rattle.message_pattern.specs.declared.part.Part as parts
use Rattle.message_pattern.specs.declared.part.Piece as pieces
use Rattle.message_pattern.specs.declared.text.Stop as stops
use Rattle.message_pattern.specs.declared.text.Stop.TheVariants as stop
use Rattle.message_pattern.specs.declared.text.Front as fronts
use Rattle.message_pattern.specs.declared.text.Front.TheVariants as front
use Rattle.message_pattern.specs.declared.head.Formats.{Formats}
use Rattle.message_pattern.specs.declared.head.Head as heads
use Rattle.message_pattern.specs.declared.head.Head.TheVariants as head
use Rattle.message_pattern.specs.declared.branch.BranchFront as branches
use Rattle.message_pattern.specs.declared.branch.BranchFront.TheVariants as branch
use Rattle.message_pattern.specs.PatternText.{Front, End, Closes, Opens, Takes}
use Rattle.message_pattern.specs.PatternParts.{Part, PatternPiece, offset_view, selector_view, piece_view, parts_view}
use Rattle.message_pattern.specs.PatternReading.{ReadStep, ReadsTo, Read, Faulty}
use Rattle.message_pattern.specs.PatternHeads.{Head, Plain, Choice, BranchFront}
use Rattle.message_pattern.specs.PatternHeads as spec

abbrev pub any_view : Option pieces.Piece → Option PatternPiece
any_view None = None
any_view (Some piece) = Some (piece_view piece)

abbrev pub stop_view : stops.Stop → Front
stop_view stop.End = End
stop_view (stop.Closes rest) = Closes rest.now
stop_view (stop.Opens rest) = Opens rest.now

abbrev pub front_view : fronts.Front → Front
front_view (front.Stops at) = stop_view at
front_view (front.Takes piece quoted rest) = Takes (any_view piece) quoted rest.now

abbrev pub head_view : heads.Head → Head
head_view (head.Plain name) = Plain name.now
head_view (head.Choice kind name offset) = Choice kind name.now (offset_view offset)

abbrev pub branch_view : branches.BranchFront → BranchFront
branch_view (branch.Closes rest) = spec.Closes rest.now
branch_view (branch.Opens selector rest) = spec.Opens (selector_view selector) rest.now

-- the result, seen by a view
abbrev pub seen : {A B : Type 0} → (A → B) → Result A Fault → Result B Fault
seen view (Ok x) = Ok (view x)
seen view (Err fault) = Err fault

-- the parts that a reading of a whole text returns
abbrev pub parts_read : Result (Vec parts.Part) error.PatternError → Result (List Part) error.PatternError
parts_read (Ok v) = Ok (parts_view v.items)
parts_read (Err e) = Err e

-- what follows the front is shorter than the text
abbrev pub IsShorter : Front → List ℕ → Type 0
IsShorter End s = Unit {0}
IsShorter (Closes rest) s = length rest < length s
IsShorter (Opens rest) s = length rest < length s
IsShorter (Takes piece quoted rest) s = length rest < length s

-- the digits of an offset, and what follows it
abbrev pub digits_view : Option (Bor (List ℕ)) × Bor (List ℕ) → Option (List ℕ) × List ℕ
digits_view x = (offset_view x.0, x.1.now)

-- what follows the front of a branch is shorter than the text
abbrev pub IsBranchBehind : BranchFront → List ℕ → Type 0
IsBranchBehind (spec.Closes rest) s = length rest < length s
IsBranchBehind (spec.Opens selector rest) s = length rest < length s

-- what a private reader returns, with the parts before and after it: the outcome, or out of memory
abbrev pub GivesReadOutcome : Formats → ReadStep → List parts.Part → List parts.Part → Result (Bor (List ℕ)) ReadError → Type 0
GivesReadOutcome formats at old new (Ok rest) = ReadsTo formats at (parts_view old) (Read (parts_view new) rest.now)
GivesReadOutcome formats at old new (Err (read.Fault fault)) = ReadsTo formats at (parts_view old) (Faulty fault)
GivesReadOutcome formats at old new (Err read.Memory) = Unit {0}

-- the error of a reading of a text
abbrev pub pattern_error : List ℕ → ReadError → error.PatternError
pattern_error text (read.Fault fault) = errors.Fault fault.kind (length text - fault.left)
pattern_error text read.Memory = errors.Memory
