-- One step after another: a fault of the first is the result.
--     value >>= next      of values
--     After Next value      a value, then a relation
--     Then First Next      two relations
--     HasNoFault Is      no fault is a result
use Rattle.std.specs.Prelude.{◌≡◌, Option, Some, None, Result, Ok, Err, ℕ, List}
use Rattle.serde_json.specs.Data.{Data, Members, no_members, member}

-- the second value after the first
infixl 10 ◌>>=◌
abbrev pub ◌>>=◌ : {A B E : Type 0} → Result A E → (A → Result B E) → Result B E
(Ok x) >>= next = next x
(Err fault) >>= next = Err fault

-- the value if present, else this fault
abbrev pub value_or_fault : {A E : Type 0} → E → Option A → Result A E
value_or_fault fault None = Err fault
value_or_fault fault (Some x) = Ok x

-- the result after a value
abbrev pub After : {A B E : Type 0} → (A → Result B E → Type 0) → Result A E → Result B E → Type 0
After Next (Ok x) answer = Next x answer
After Next (Err fault) answer = answer ≡ Err fault

-- the result after a first result
abbrev pub Then : {A B E : Type 0} → (Result A E → Type 0) → (A → Result B E → Type 0) → Result B E → Type 0
Then {A = A} {E = E} First Next answer = (first : Result A E) × First first × After Next first answer

abbrev pub HasNoFault : {A E : Type 0} → (Result A E → Type 0) → Type 0
HasNoFault {E = E} Is = (fault : E) → ¬ (Is (Err fault))

-- ---- what is found in the members of an object, one after the other

abbrev pub HasGrownBy : {F : Type 0} → (F → F → F) → (F → Type 0) → F → F → Type 0
HasGrownBy {F} together Is old new = (more : F) × Is more × (new ≡ together old more)

-- together, in the order of the keys' bytes
abbrev pub IsFoundInMembers : {F : Type 0} → F → (F → F → F) → (List ℕ → Data → F → Type 0) → Members → F → Type 0
IsFoundInMembers nothing together Is no_members found = found ≡ nothing
IsFoundInMembers {F} nothing together Is (member key value members) found =
    (first rest : F) × Is key value first × IsFoundInMembers nothing together Is members rest × (found ≡ together first rest)
