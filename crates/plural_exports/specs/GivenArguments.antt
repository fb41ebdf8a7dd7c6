-- The arguments of a pattern, as they are passed: each a name, a number or a text, and which of
-- both it is.
--     AreArguments given answer      the arguments, or the first fault of one in itself
use Rattle.std.specs.Prelude.{◌≡◌, ◌⊎◌, ◌==◌, if◌then◌else◌, ℕ, List, [], ◌∷◌, Result, Ok, Err}
use Rattle.message_format.specs.FormatArguments.{Argument, Value, Number, Text}
use Rattle.plural_exports.specs.declared.arguments.GivenArgument.{GivenArgument}
use Rattle.plural_exports.specs.declared.fault.Fault.{Fault}
use Rattle.plural_exports.specs.declared.fault.Fault.TheVariants.{Memory, ArgumentKind}
use Rattle.plural_exports.specs.GivenBytes.{ReadsTextBytes}
use Rattle.plural_documents.specs.Steps.{Then}

-- a text as a value: 0 is the kind of numbers, 1 that of texts
abbrev pub value_of_kind : ℕ → List ℕ → Result Value Fault
value_of_kind kind text = if kind == 0 then Ok (Number text) else (if kind == 1 then Ok (Text text) else Err ArgumentKind)

abbrev pub HasKind : ℕ → List ℕ → Result Value Fault → Type 0
HasKind kind text answer = answer ≡ value_of_kind kind text

-- the argument of a name and a value
abbrev pub IsNamed : List ℕ → Value → Result Argument Fault → Type 0
IsNamed name value answer = answer ≡ Ok (record { name = name; value = value })

-- the argument: its name, then the text of its value, then its kind
abbrev pub ReadsArgument : GivenArgument → Result Argument Fault → Type 0
ReadsArgument given =
    Then (ReadsTextBytes given.name.now) (λ name.
    Then (ReadsTextBytes given.value.now) (λ text.
    Then (HasKind given.kind text) (IsNamed name)))

-- an argument before others
abbrev pub IsInFront : Argument → List Argument → Result (List Argument) Fault → Type 0
IsInFront first others answer = answer ≡ Ok (first ∷ others)

-- all arguments, one after another, or the first fault; or memory ran out for one that has none, as
-- those before it have none
abbrev pub AreArguments : List GivenArgument → Result (List Argument) Fault → Type 0
AreArguments [] answer = answer ≡ Ok []
AreArguments (given ∷ rest) answer =
    Then (ReadsArgument given) (λ first all. Then (AreArguments rest) (IsInFront first) all ⊎ (all ≡ Err Memory)) answer
