-- The machinery of what JSON values mean (docs/JSON.md): the meaning of a value or its first
-- refusal, the order of refusals, and what a call returns. Values are what serde_json's accessors
-- show of them.
--     Stands A      what a value means, or its refusal
--     unless_float meant      floats are refused before all else
--     GivesMeaning seen result stands      the call returns what the value means, or its refusal,
--         or runs out of memory
use Rattle.std.specs.Prelude.{◌≡◌, ⊤, Option, Some, None, Result, Ok, Err, if◌then◌else◌}
use Rattle.plural_base.specs.declared.json.error.JsonError.{JsonError}
use Rattle.plural_base.specs.declared.json.error.JsonError.TheVariants.{Float, Memory}
use Rattle.plural_base.specs.declared.five.Five.{Five}
use Rattle.plural_base.specs.FiveRules.{five}
use Rattle.serde_json.specs.Data.{Data}
use Rattle.serde_json.specs.Written.{has_float}

-- ---- The first refusal

-- what a value means, or why it is refused
abbrev pub Stands : Type 0 → Type 0
Stands A = Result A JsonError

-- the second after the first: a refusal of the first is the result
infixl 10 ◌>>=◌
abbrev pub ◌>>=◌ : {A B : Type 0} → Stands A → (A → Stands B) → Stands B
(Ok x) >>= next = next x
(Err refusal) >>= next = Err refusal

-- the value if present, else the refusal
abbrev pub there_or : {A : Type 0} → JsonError → Option A → Stands A
there_or refusal None = Err refusal
there_or refusal (Some x) = Ok x

-- five values, or the first refusal in this order
abbrev pub all_five : {A : Type 0} → Stands A → Stands A → Stands A → Stands A → Stands A → Stands (Five A)
all_five zero one two few many = do
  zero' ← zero
  one' ← one
  two' ← two
  few' ← few
  many' ← many
  Ok (five zero' one' two' few' many')

-- A number for which `as_u64` and `as_i64` both return None, wherever it is, is refused before all
-- else.
abbrev pub unless_float : {A : Type 0} → (Data → Stands A) → Data → Stands A
unless_float meant value = if has_float value then Err Float else meant value

-- ---- What a call returns

-- the call may run out of memory before any refusal
abbrev pub IsRefusal : {B : Type 0} → JsonError → Stands B → Type 0
IsRefusal Memory stands = ⊤
IsRefusal error stands = stands ≡ Err error

-- the call returns what the value means, as `seen`, or its refusal, or runs out of memory
abbrev pub GivesMeaning : {A B : Type 0} → (A → B) → Result A JsonError → Stands B → Type 0
GivesMeaning seen (Ok x) stands = stands ≡ Ok (seen x)
GivesMeaning seen (Err error) stands = IsRefusal error stands
