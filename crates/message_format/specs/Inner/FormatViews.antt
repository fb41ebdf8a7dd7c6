-- What private functions return, without where it lies in memory.
use Rattle.std.specs.Prelude.{◌≡◌, ◌≤◌, ◌<◌, ◌<ℤ◌, ◌≤ℤ◌, ℤ, pos, neg_ℤ, ℕ, List, Vec, drop, length, Option, Some, None, option_map, Result, Ok, Err}
use Rattle.std.specs.Borrow.{Bor}
use Rattle.std.specs.declared.alloc.Global.{Global}
use Rattle.fixed_decimal.specs.Written.{CompactNumber}
use Rattle.fixed_decimal.specs.declared.error.DecimalError.{DecimalError}
use Rattle.fixed_decimal.specs.declared.error.DecimalError.TheVariants as number
use Rattle.message_pattern.specs.declared.part.Part as parts
use Rattle.message_pattern.specs.PatternParts.{Part, parts_view, Selector, branches_of}
use Rattle.message_format.specs.declared.arguments.Value as values
use Rattle.message_format.specs.declared.source.Found as found
use Rattle.message_format.specs.declared.error.ArgumentFault.{ArgumentFault}
use Rattle.message_format.specs.declared.error.ArgumentFault.TheVariants.{NotANumber, OverLimit}
use Rattle.message_format.specs.declared.error.FormatError.{FormatError}
use Rattle.message_format.specs.declared.error.FormatError.TheVariants as error
use Rattle.message_format.specs.declared.steps.Rules as rules
use Rattle.message_format.specs.declared.shown.Shown as shown
use Rattle.message_format.specs.declared.saying.Next as next
use Rattle.message_format.specs.declared.shown.Shown.TheVariants as shows
use Rattle.message_format.specs.FormatArguments.{Argument, Value, value_view}
use Rattle.message_format.specs.FormatParts.{AreLeftOf, IsFirstChosen}
use Rattle.fixed_decimal.specs.SameValue.{digit_of}
use Rattle.message_format.specs.FormatSteps.{Step, Prints, Chooses, Fails, TwoRules, both}
use Rattle.message_format.specs.FormatMeaning.{PatternOutcome, Said, Faulty, MessageSays}

-- ---- how a message goes on behind its first part

-- the parts come to what the rest comes to, behind the text that is said then
pub record GoesOnWithRest (arguments : List Argument) (rules : TwoRules) (hash old new : List ℕ) (ps rest : List Part) : Type 0 where
  pub comes : (o : PatternOutcome) → MessageSays arguments rules hash new rest o → MessageSays arguments rules hash old ps o

-- the same behind a branch, in which `#` is a text of its own; or they have the fault of the branch
pub record GoesOnBehind (arguments : List Argument) (rules : TwoRules) (hash number old new : List ℕ) (ps branch rest : List Part) : Type 0 where
  pub comes : (said : List ℕ) (o : PatternOutcome) → MessageSays arguments rules number new branch (Said said) → MessageSays arguments rules hash said rest o
      → MessageSays arguments rules hash old ps o
  pub breaks : (fault : ArgumentFault) (name : List ℕ) → MessageSays arguments rules number new branch (Faulty fault name)
      → MessageSays arguments rules hash old ps (Faulty fault name)

-- ---- values of private types

abbrev pub any_value : Option values.Value → Option Value
any_value None = None
any_value (Some value) = Some (value_view value)

abbrev pub any_parts : Option (Bor (List parts.Part)) → Option (List Part)
any_parts found = option_map (λ (ps : Bor (List parts.Part)). parts_view ps.now) found

-- the text of `#`
abbrev pub shown_view : shown.Shown → List ℕ
shown_view (shows.Given given) = given.now
shown_view (shows.Less less) = less.items

-- the text of `#`, and the branch that is chosen
abbrev pub Choice : Type 0 → Type 0
Choice P = shown.Shown × found.Found P

abbrev pub step_view : {P : Type 0} → (P → List Part) → Choice P → Step
step_view parts c = Chooses (shown_view c.0) (parts c.1.branch)

-- an error is a fault, which meets the relation of steps, or memory ran out
abbrev pub GivesFault : (Step → Type 0) → FormatError → Type 0
GivesFault IsStep (error.Argument fault name) = IsStep (Fails fault name.now)
GivesFault IsStep error.Memory = Unit {0}

-- what a private call returns meets the relation of steps, unless memory ran out
abbrev pub GivesStep : {P : Type 0} → (P → List Part) → (Step → Type 0) → Result (Choice P) FormatError → Type 0
GivesStep parts IsStep (Ok c) = IsStep (step_view parts c)
GivesStep parts IsStep (Err f) = GivesFault IsStep f

-- the same of a call that returns a text to print
abbrev pub GivesText : (Step → Type 0) → Result (Bor (List ℕ)) FormatError → Type 0
GivesText IsStep (Ok text) = IsStep (Prints text.now)
GivesText IsStep (Err f) = GivesFault IsStep f

-- what an error does, or none if memory ran out
abbrev pub fault_step : FormatError → Option Step
fault_step (error.Argument fault name) = Some (Fails fault name.now)
fault_step error.Memory = None

-- the same of the error of an argument's text, which is read as a number
abbrev pub number_step : List ℕ → DecimalError → Option Step
number_step name number.Syntax = Some (Fails NotANumber name)
number_step name number.Limit = Some (Fails OverLimit name)
number_step name number.Memory = None

-- a branch that is chosen, and the parts that are left of its argument
pub record IsWithin (ps branch others : List Part) : Type 0 where
  pub shorter : length branch ≤ length (drop 1 ps)
  pub left : AreLeftOf ps others

abbrev pub ChoosesWithin : {P : Type 0} → (P → List Part) → List Part → Result (Choice P) FormatError → Type 0
ChoosesWithin parts ps (Ok c) = IsWithin ps (parts c.1.branch) (parts c.1.left)
ChoosesWithin parts ps (Err f) = Unit {0}

-- the rules, as contracts see them
abbrev pub two_rules : rules.Rules → TwoRules
two_rules r = both r.cardinal.now r.ordinal.now

-- what an error says of parts, or nothing if memory ran out
abbrev pub IsFaultOfParts : List Argument → TwoRules → List ℕ → List Part → List ℕ → FormatError → Type 0
IsFaultOfParts arguments rules hash parts old (error.Argument fault name) = MessageSays arguments rules hash old parts (Faulty fault name.now)
IsFaultOfParts arguments rules hash parts old error.Memory = Unit {0}

-- what a call returns, with the text before it and what holds of that after it: the outcome, or out
-- of memory
abbrev pub GivesOutcome : {F : Type 0} → (F → FormatError) → List Argument → TwoRules → List ℕ → List Part → List ℕ → (List ℕ → Type 0) → Result (Unit {0}) F → Type 0
GivesOutcome error arguments rules hash parts old IsNew (Ok x) = (new : List ℕ) × IsNew new × MessageSays arguments rules hash old parts (Said new)
GivesOutcome error arguments rules hash parts old IsNew (Err f) = IsFaultOfParts arguments rules hash parts old (error f)

-- how the parts go on behind a part: by way of a branch, or not
abbrev pub GoesTo : {P : Type 0} → (P → List Part) → List Argument → TwoRules → List ℕ → List Part → List ℕ → List ℕ → List Part → Option (shown.Shown × P) → Type 0
GoesTo parts arguments rules hash ps old new rest None = GoesOnWithRest arguments rules hash old new ps rest
GoesTo parts arguments rules hash ps old new rest (Some b) = GoesOnBehind arguments rules hash (shown_view b.0) old new ps (parts b.1) rest

-- what a step returns: how the parts go on, that they end, or a fault
abbrev pub StepsTo : {P F : Type 0} → (P → List Part) → (F → FormatError) → List Argument → TwoRules → List ℕ → List Part → List ℕ → (List ℕ → Type 0) → Result (Option (next.Next P)) F → Type 0
StepsTo parts error arguments rules hash ps old IsNew (Ok None) = IsNew old × MessageSays arguments rules hash old ps (Said old)
StepsTo parts error arguments rules hash ps old IsNew (Ok (Some n)) =
    (new : List ℕ) × IsNew new × GoesTo parts arguments rules hash ps old new (parts n.rest) n.branch
StepsTo parts error arguments rules hash ps old IsNew (Err f) = IsFaultOfParts arguments rules hash ps old (error f)

-- fewer parts follow, and fewer are those from a branch on
abbrev pub IsBranchFewer : {P : Type 0} → (P → List Part) → List Part → Option (shown.Shown × P) → Type 0
IsBranchFewer parts ps None = Unit {0}
IsBranchFewer parts ps (Some b) = length (parts b.1) < length ps

abbrev pub AreFewer : {P F : Type 0} → (P → List Part) → List Part → Result (Option (next.Next P)) F → Type 0
AreFewer parts ps (Ok None) = Unit {0}
AreFewer parts ps (Ok (Some n)) = (length (parts n.rest) < length ps) × IsBranchFewer parts ps n.branch
AreFewer parts ps (Err f) = Unit {0}

-- the outcome that a result has, or none if memory ran out
abbrev pub outcome_of : Result (Vec ℕ Global) FormatError → Option PatternOutcome
outcome_of (Ok text) = Some (Said text.items)
outcome_of (Err (error.Argument fault name)) = Some (Faulty fault name.now)
outcome_of (Err error.Memory) = None

-- outside these powers of ten all digits are 0
pub record IsZeroOutside (x : CompactNumber) (low high : ℤ) : Type 0 where
  pub below : (k : ℤ) → k <ℤ low → digit_of x k ≡ 0
  pub above : (k : ℤ) → high <ℤ k → digit_of x k ≡ 0

-- the digits other than 0 are from the one power of ten to the other, and if there is one, the
-- other's digit is
pub record IsSpanOf (x : CompactNumber) (low high : ℤ) : Type 0 where
  pub outside : IsZeroOutside x low high
  pub least : neg_ℤ (pos 32767) ≤ℤ low
  pub top : neg_ℤ (pos 32767) ≤ℤ high → 0 < digit_of x high

-- ---- what a walk over the branches of an argument passes

-- no branch before the parts that are left is chosen
abbrev pub ArePassed : (Selector → Type 0) → ℕ → List Part → List Part → Type 0
ArePassed IsChosen depth parts left =
    (found : Option (List Part)) → IsFirstChosen IsChosen (branches_of depth left) found → IsFirstChosen IsChosen (branches_of depth parts) found
