-- An input of limited length, what is read of it, the JSON value that its bytes write, and what a
-- writer took of an output.
--     IsInput left input      the input is what remains in the reader, if that is known
--     within_limit fault value input      the value of an input, or this fault if it is too long
--     IsReadAfterResult origin old new result      what was read of the reader when a call has this result
--     IsPartWritten old new bytes      a beginning of the bytes was written, and nothing else
--     json_of bytes      the value, if the bytes are a JSON text
--     json_tree bytes      the same with every member of each object
use Rattle.std.specs.Prelude.{◌≡◌, ℕ, ◌+◌, ◌≤◌, ◌<◌, List, length, Option, Some, None, Result, Ok, Err, ⊤, Vec, nat_lt, ◌++◌, option_and_then, if◌then◌else◌}
use Rattle.std.specs.Io.KnownBytes.{Consumes, IsAtEnd, Appends}
use Rattle.std.specs.declared.alloc.Global.{Global}
use Rattle.plural_documents.specs.declared.input.InputError.{InputError}
use Rattle.plural_documents.specs.declared.input.InputError.TheVariants.{Read, TooLong, Memory}
use Rattle.std.specs.Str.{is_utf8}
use Rattle.json.specs.Json as grammar
use Rattle.json.specs.Lex.{tokens}
use Rattle.serde_json.specs.Data.{Data}
use Rattle.serde_json.specs.Read.{max_depth, read}
use Rattle.serde_json.specs.View.{view}
use Rattle.serde_json.specs.declared.Value.{Value}
use Rattle.document_tokens.specs.declared.error.JsonTextError.{JsonTextError}
use Rattle.document_tokens.specs.declared.error.JsonTextError.TheVariants as json

-- the most bytes that an input may have
abbrev pub most_bytes : ℕ
most_bytes = 4194304

-- the input is what remains in the reader, if that is known
abbrev pub IsInput : Option (List ℕ) → List ℕ → Type 0
IsInput None input = ⊤
IsInput (Some left) input = input ≡ left

-- the value of an input, whose length is checked first
abbrev pub within_limit : {A E : Type 0} → E → (List ℕ → Result A E) → List ℕ → Result A E
within_limit fault value input = if nat_lt most_bytes (length input) then Err fault else value input

-- the bytes are the input, which isn't too long; an error is from the reader, for the length, or
-- out of memory
abbrev pub GivesInput : Option (List ℕ) → Result (Vec ℕ Global) InputError → Type 0
GivesInput left (Ok bytes) = IsInput left bytes.items × (length bytes.items ≤ most_bytes)
GivesInput left (Err TooLong) = (input : List ℕ) × IsInput left input × (most_bytes < length input)
GivesInput left (Err Read) = ⊤
GivesInput left (Err Memory) = ⊤

-- ---- Where a fault comes from

-- of a program: from a reader that failed, an input that is too long, a writer that failed, a lack
-- of memory; or it is the answer to the words and the input
pub data Origin : Type 0 where
  from_reader : Origin
  from_length : Origin
  from_writer : Origin
  from_memory : Origin
  from_answer : Origin

abbrev pub input_origin : InputError → Origin
input_origin Read = from_reader
input_origin TooLong = from_length
input_origin Memory = from_memory

-- a fault of this origin, which is this one; or out of memory; the call neither reads nor writes
abbrev pub IsFaultOfOrigin : Origin → Type 0 → Type 0
IsFaultOfOrigin from_reader Is = ⊥
IsFaultOfOrigin from_length Is = Is
IsFaultOfOrigin from_writer Is = ⊥
IsFaultOfOrigin from_memory Is = ⊤
IsFaultOfOrigin from_answer Is = Is

-- the same of a call that reads, which may fail
abbrev pub IsFaultOfReading : Origin → Type 0 → Type 0
IsFaultOfReading from_reader Is = ⊤
IsFaultOfReading from_length Is = Is
IsFaultOfReading from_writer Is = ⊥
IsFaultOfReading from_memory Is = ⊤
IsFaultOfReading from_answer Is = Is

-- the result of a call that neither reads nor writes, in the words of the definitions, or out of memory
abbrev pub GivesBy : {A B E : Type 0} → (E → Origin) → (A → B) → (Result B E → Type 0) → Result A E → Type 0
GivesBy origin seen IsAnswer (Ok x) = IsAnswer (Ok (seen x))
GivesBy origin seen IsAnswer (Err e) = IsFaultOfOrigin (origin e) (IsAnswer (Err e))

-- the same of a call that reads
abbrev pub GivesByReading : {A B E : Type 0} → (E → Origin) → (A → B) → (Result B E → Type 0) → Result A E → Type 0
GivesByReading origin seen IsAnswer (Ok x) = IsAnswer (Ok (seen x))
GivesByReading origin seen IsAnswer (Err e) = IsFaultOfReading (origin e) (IsAnswer (Err e))

-- ---- What is read

-- all that remained in the reader, within the limit
abbrev pub IsReadToEnd : Option (List ℕ) → Option (List ℕ) → Type 0
IsReadToEnd old new = (bytes : List ℕ) × Consumes old new bytes × IsAtEnd new × (length bytes ≤ most_bytes)

-- some bytes, at most one more than the limit; the rest is left
abbrev pub IsReadUpTo : Option (List ℕ) → Option (List ℕ) → Type 0
IsReadUpTo old new = (bytes : List ℕ) × Consumes old new bytes × (length bytes ≤ most_bytes + 1)

-- after a fault of this origin: all of the input; if it is too long, one byte more than the limit;
-- if the reader failed or memory ran out, some of these
abbrev pub IsReadAfter : Origin → Option (List ℕ) → Option (List ℕ) → Type 0
IsReadAfter from_reader old new = IsReadUpTo old new
IsReadAfter from_memory old new = IsReadUpTo old new
IsReadAfter from_length old new = (bytes : List ℕ) × Consumes old new bytes × (length bytes ≡ most_bytes + 1)
IsReadAfter from_writer old new = IsReadToEnd old new
IsReadAfter from_answer old new = IsReadToEnd old new

-- the same after a result; with a value, all of the input was read
abbrev pub IsReadAfterResult : {A E : Type 0} → (E → Origin) → Option (List ℕ) → Option (List ℕ) → Result A E → Type 0
IsReadAfterResult origin old new (Ok x) = IsReadToEnd old new
IsReadAfterResult origin old new (Err fault) = IsReadAfter (origin fault) old new

-- ---- What is written

-- What the writer took is a beginning of the bytes: nothing, some of them, or all.
abbrev pub IsPartWritten : Option (List ℕ) → Option (List ℕ) → List ℕ → Type 0
IsPartWritten old new bytes = (taken rest : List ℕ) × (bytes ≡ taken ++ rest) × Appends old new taken

-- ---- The JSON value that bytes write, as serde_json reads it

-- the JSON value that the bytes write
abbrev pub json_of : List ℕ → Option Data
json_of bytes = if is_utf8 bytes then read bytes else None

-- the same with every member of each object: `json_of` keeps the last of each key
abbrev pub json_tree : List ℕ → Option grammar.Json
json_tree bytes = if is_utf8 bytes then option_and_then (λ p. grammar.if_last p.0 p.1) (grammar.value max_depth (tokens bytes)) else None

-- the value, or there is none, or memory ran out, which needs a byte
abbrev pub GivesJson : List ℕ → Result Value JsonTextError → Type 0
GivesJson bytes (Ok value) = json_of bytes ≡ Some (view value)
GivesJson bytes (Err json.Json) = json_of bytes ≡ None
GivesJson bytes (Err json.Memory) = 0 < length bytes
