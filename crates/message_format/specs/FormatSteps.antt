-- What a part of a message does: it prints, or chooses a branch, or has a fault.
use Rattle.std.specs.Prelude.{◌≡◌, ◌<◌, ◌⊎◌, ℕ, List, Option, Some, None}
use Rattle.fixed_decimal.specs.Places.{IsOverLimit}
use Rattle.fixed_decimal.specs.Shown.{decimal_text}
use Rattle.fixed_decimal.specs.Written.{CompactNumber, WritesUnsigned, WritesCompact, IsCompactOverLimit}
use Rattle.fixed_decimal.specs.declared.decimal.Decimal.{Decimal}
use Rattle.plural_base.specs.FiveRules.{FiveRules}
use Rattle.message_pattern.specs.PatternParts.{Part, PatternPiece, Hash, Begin, Branch, End, Branching, branches_of}
use Rattle.message_pattern.specs.PatternParts as piece
use Rattle.message_pattern.specs.declared.part.ArgumentKind.{ArgumentKind}
use Rattle.message_pattern.specs.declared.part.ArgumentKind.TheVariants.{Plural, Ordinal, Select}
use Rattle.message_format.specs.declared.error.ArgumentFault.{ArgumentFault}
use Rattle.message_format.specs.declared.error.ArgumentFault.TheVariants.{Missing, WrongKind, NotANumber, OverLimit, CompactOffset}
use Rattle.message_format.specs.FormatArguments.{Argument, Value, Number, Text, value_named}
use Rattle.message_format.specs.FormatOffsets.{IsDifference, plain}
use Rattle.message_format.specs.FormatBranches.{branch_or_other, IsBranchOfNumber}

-- what a part does
pub data Step : Type 0 where
  -- ends the message: a selector, or the end of an argument
  Stops : Step
  -- prints a text
  Prints : List ℕ → Step
  -- chooses a branch: the text of `#` in it, and the parts from it on
  Chooses : List ℕ → List Part → Step
  -- has a fault: the argument of this name
  Fails : ArgumentFault → List ℕ → Step

-- the rules of a language, for cardinal and for ordinal numbers
pub record TwoRules : Type 0 where
  pub cardinal : FiveRules
  pub ordinal : FiveRules

abbrev pub both : FiveRules → FiveRules → TwoRules
both cardinal ordinal = record { cardinal = cardinal; ordinal = ordinal }

-- `{name}` prints the argument as it is given
abbrev pub shown_value : List ℕ → Option Value → Step
shown_value name None = Fails Missing name
shown_value name (Some (Number number)) = Prints number
shown_value name (Some (Text text)) = Prints text

-- A select compares a text with its keywords. `#` in its branches is text, also in one that stands
-- in a branch of a plural, since the reader of patterns makes no piece `Hash` of it: so the text of
-- `#` that stands around the select is handed on, and isn't said in its branches.
abbrev pub selected : List ℕ → List ℕ → List Branching → Option Value → Step
selected hash name bs None = Fails Missing name
selected hash name bs (Some (Number number)) = Fails WrongKind name
selected hash name bs (Some (Text text)) = Chooses hash (branch_or_other text bs)

-- A text writes a number, from which the step comes; or it writes none, or one over a limit.
abbrev pub StepsFromNumber : {A : Type 0} → (A → Type 0) → (A → Type 0) → List ℕ → (A → Step → Type 0) → Step → Type 0
StepsFromNumber {A = A} Writes IsOver name Then step =
    (((x : A) → Writes x → ⊥) × (step ≡ Fails NotANumber name))
    ⊎ (((x : A) × Writes x × IsOver x) × (step ≡ Fails OverLimit name))
    ⊎ ((x : A) × Writes x × (IsOver x → ⊥) × Then x step)

-- A plural chooses by the number that the text of its argument writes, and `#` is this text.
abbrev pub IsCounted : FiveRules → List ℕ → List Branching → List ℕ → Step → Type 0
IsCounted rules name bs text step =
    StepsFromNumber (λ x. WritesCompact text x) (λ x. IsCompactOverLimit x) name
    (λ x s. (parts : List Part) × IsBranchOfNumber rules x x bs parts × (s ≡ Chooses text parts)) step

-- It chooses by a number and this number less the offset, and `#` is the text of the latter, which
-- may be over the limit.
abbrev pub IsCountedBy : FiveRules → List ℕ → List Branching → CompactNumber → Decimal → Step → Type 0
IsCountedBy rules name bs x less step =
    (IsOverLimit less.absolute × (step ≡ Fails OverLimit name))
    ⊎ ((IsOverLimit less.absolute → ⊥) × ((parts : List Part) × IsBranchOfNumber rules x (plain less) bs parts × (step ≡ Chooses (decimal_text less) parts)))

-- A number without an exponent less the offset that these digits write.
abbrev pub IsLess : FiveRules → List ℕ → List Branching → List ℕ → CompactNumber → Step → Type 0
IsLess rules name bs digits x step =
    ((0 < x.exponent) × (step ≡ Fails CompactOffset name))
    ⊎ ((x.exponent ≡ 0)
    × StepsFromNumber (λ o. WritesUnsigned digits o) (λ o. IsOverLimit o) name
    (λ o s. (less : Decimal) × IsDifference x.significand o less × IsCountedBy rules name bs x less s) step)

-- A plural with an offset chooses by the number that the text of its argument writes.
abbrev pub IsCountedLess : FiveRules → List ℕ → List Branching → List ℕ → List ℕ → Step → Type 0
IsCountedLess rules name bs digits text step =
    StepsFromNumber (λ x. WritesCompact text x) (λ x. IsCompactOverLimit x) name (λ x s. IsLess rules name bs digits x s) step

-- A plural or an ordinal with these branches.
abbrev pub IsPlural : FiveRules → List ℕ → Option (List ℕ) → List Branching → Option Value → Step → Type 0
IsPlural rules name offset bs None step = step ≡ Fails Missing name
IsPlural rules name offset bs (Some (Text text)) step = step ≡ Fails WrongKind name
IsPlural rules name (Some digits) bs (Some (Number text)) step = IsCountedLess rules name bs digits text step
IsPlural rules name None bs (Some (Number text)) step = IsCounted rules name bs text step

-- An argument that chooses, by its kind.
abbrev pub IsChoice : TwoRules → List ℕ → ArgumentKind → List ℕ → Option (List ℕ) → List Branching → Option Value → Step → Type 0
IsChoice rules hash Plural name offset bs value step = IsPlural rules.cardinal name offset bs value step
IsChoice rules hash Ordinal name offset bs value step = IsPlural rules.ordinal name offset bs value step
IsChoice rules hash Select name offset bs value step = step ≡ selected hash name bs value

-- What a piece at a depth does, which these parts follow, where `#` is the first text.
abbrev pub IsPieceStep : List Argument → TwoRules → List ℕ → ℕ → PatternPiece → List Part → Step → Type 0
IsPieceStep arguments rules hash depth (piece.Text text) rest step = step ≡ Prints text
IsPieceStep arguments rules hash depth Hash rest step = step ≡ Prints hash
IsPieceStep arguments rules hash depth (piece.Argument name) rest step = step ≡ shown_value name (value_named name arguments)
IsPieceStep arguments rules hash depth (Begin kind name offset) rest step =
    IsChoice rules hash kind name offset (branches_of depth rest) (value_named name arguments) step
IsPieceStep arguments rules hash depth (Branch selector) rest step = step ≡ Stops
IsPieceStep arguments rules hash depth End rest step = step ≡ Stops
