-- What an export returns and writes: a number, and bytes at the front of a buffer.
--     Answered Is number result      some answer is right, and the result is its number
--     Written Is old new result      some answer is right: its bytes are written if they fit, and
--         the result is how many they are
use Rattle.std.specs.Prelude.{◌≡◌, ℕ, ℤ, pos, List, ◌++◌, length, drop, nat_le, if◌then◌else◌, Result, Ok, Err}
use Rattle.plural_exports.specs.Faults.{fault_number}
use Rattle.plural_exports.specs.declared.fault.Fault.{Fault}

-- the number of an answer: that of its value, or of its fault
abbrev pub number_told : {A : Type 0} → (A → ℤ) → Result A Fault → ℤ
number_told number (Ok x) = number x
number_told number (Err fault) = fault_number fault

-- some answer is right, and its number is returned
abbrev pub Answered : {A : Type 0} → (Result A Fault → Type 0) → (A → ℤ) → ℤ → Type 0
Answered {A} Is number result = (answer : Result A Fault) × Is answer × (result ≡ number_told number answer)

-- the buffer with the bytes at its front, or unchanged if they don't fit
abbrev pub filled_buffer : List ℕ → List ℕ → List ℕ
filled_buffer bytes old = if nat_le (length bytes) (length old) then bytes ++ drop (length bytes) old else old

-- bytes are written if they fit, and their length is returned; at a fault nothing is written
abbrev pub IsToldWritten : List ℕ → List ℕ → ℤ → Result (List ℕ) Fault → Type 0
IsToldWritten old new result (Ok bytes) = (result ≡ pos (length bytes)) × (new ≡ filled_buffer bytes old)
IsToldWritten old new result (Err fault) = (result ≡ fault_number fault) × (new ≡ old)

-- some answer is right, and it is written so
abbrev pub Written : (Result (List ℕ) Fault → Type 0) → List ℕ → List ℕ → ℤ → Type 0
Written Is old new result = (answer : Result (List ℕ) Fault) × Is answer × IsToldWritten old new result answer
