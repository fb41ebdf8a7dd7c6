-- What was read is the input, or the beginning of an input that is too long.
use Rattle.std.proofs.Common.{◌≡◌, ℕ, ◌<◌, ◌≤◌, ◌+◌, List, [], ◌++◌, length, Option, Some, None, Result, Ok, Err}
use Rattle.std.proofs.Common.{Vec, Bool, true, false, cond, arith, refl, sym, ◌∙◌, ap}
use Rattle.std.proofs.lemmas.Bool.{le-ltb, lt-ltb}
use Rattle.std.specs.Prelude.{IfOk}
use Rattle.std.proofs.lemmas.List.{append-nil, length-append}
use Rattle.std.specs.Io.KnownBytes.{Consumes, IsAtEnd}
use Rattle.std.specs.declared.alloc.Global.{Global}
use Rattle.std.proofs.KnownBytes.{Consumes-nil}
use Rattle.plural_documents.specs.Inputs.{GivesBy, GivesByReading, GivesInput, IsFaultOfOrigin, IsFaultOfReading, IsInput, IsReadAfterResult}
use Rattle.plural_documents.specs.Inputs.{IsReadToEnd, IsReadUpTo, Origin}
use Rattle.plural_documents.specs.Inputs.{from_answer, from_length, from_memory, from_reader, from_writer, input_origin}
use Rattle.plural_documents.specs.Inputs.{most_bytes, within_limit}
use Rattle.plural_documents.specs.declared.input.InputError.{InputError}
use Rattle.plural_documents.specs.declared.input.InputError.TheVariants.{Read, TooLong, Memory}

-- what was read up to the end is the whole input
pub whole : (old new : Option (List ℕ)) (bs : List ℕ) → Consumes old new bs → IsAtEnd new → IsInput old bs
whole None new bs read end = tt
whole (Some xs) None bs read end = absurd read
whole (Some xs) (Some ys) bs read end = sym (read ∙ ap (λ rest. bs ++ rest) end ∙ append-nil bs)

-- if what was read is longer than the limit, so is the input that it begins
pub longer : (old new : Option (List ℕ)) (bs : List ℕ) (most : ℕ)
    → Consumes old new bs → most < length bs → (input : List ℕ) × IsInput old input × (most < length input)
longer None new bs most read long = (bs, tt, long)
longer (Some xs) None bs most read long = absurd read
longer (Some xs) (Some ys) bs most read long = (bs ++ ys, sym read, longer_with bs ys most long)
  where
    longer_with : (bs ys : List ℕ) (most : ℕ) → most < length bs → most < length (bs ++ ys)
    longer_with bs ys most long = rw (length-append bs ys) (omega arith)

-- there is an input, whether or not it is known what remains in the reader
pub some_input : (old : Option (List ℕ)) → (input : List ℕ) × IsInput old input
some_input None = ([], tt)
some_input (Some xs) = (xs, refl)

-- ---- The length is checked first

-- the first of two if the test is true
first_arm : {A : Type 0} (b : Bool) (x y : A) → b ≡ true → cond b x y ≡ x
first_arm b x y h = rw h refl

-- the second of two if the test is false
second_arm : {A : Type 0} (b : Bool) (x y : A) → b ≡ false → cond b x y ≡ y
second_arm b x y h = rw h refl

-- the value of an input that isn't too long is that of its bytes
pub within : {A E : Type 0} (fault : E) (value : List ℕ → Result A E) (input : List ℕ)
    → length input ≤ most_bytes → within_limit fault value input ≡ value input
within fault value input h = second_arm _ _ _ (le-ltb most_bytes (length input) h)

-- an input that is too long has no value
pub beyond : {A E : Type 0} (fault : E) (value : List ℕ → Result A E) (input : List ℕ)
    → most_bytes < length input → within_limit fault value input ≡ Err fault
beyond fault value input h = first_arm _ _ _ (lt-ltb most_bytes (length input) h)

-- ---- What a call gives

-- one more is more
pub long_by_one : (n m : ℕ) → m ≡ n + 1 → n < m
long_by_one n m h = omega arith

-- what was read to the end within the limit is the input; what is too long is the beginning of an
-- input that is too long
pub input_given : (old new : Option (List ℕ)) (r : Result (Vec ℕ Global) InputError)
    → IfOk r (λ bytes. Consumes old new bytes.items) → IfOk r (λ _. IsAtEnd new) → IfOk r (λ bytes. length bytes.items ≤ most_bytes)
    → (r ≡ Err TooLong → (bytes : List ℕ) × Consumes old new bytes × (length bytes ≡ most_bytes + 1)) → GivesInput old r
input_given old new (Ok bytes) read end limit long = (whole old new bytes.items read end, limit)
input_given old new (Err Read) read end limit long = tt
input_given old new (Err TooLong) read end limit long =
    let begun = long refl in longer old new begun.0 most_bytes begun.1 (long_by_one most_bytes (length begun.0) begun.2)
input_given old new (Err Memory) read end limit long = tt

-- at the fault, at most one byte past the limit was read
pub input_read : (old new : Option (List ℕ)) (r : Result (Vec ℕ Global) InputError)
    → IfOk r (λ bytes. Consumes old new bytes.items) → IfOk r (λ _. IsAtEnd new) → IfOk r (λ bytes. length bytes.items ≤ most_bytes)
    → IsReadUpTo old new → (r ≡ Err TooLong → (bytes : List ℕ) × Consumes old new bytes × (length bytes ≡ most_bytes + 1))
    → IsReadAfterResult input_origin old new r
input_read old new (Ok bytes) read end limit some long = (bytes.items, read, end, limit)
input_read old new (Err Read) read end limit some long = some
input_read old new (Err TooLong) read end limit some long = long refl
input_read old new (Err Memory) read end limit some long = some

-- ---- How much is read

-- no byte is at most as many as the limit has
no_byte : (most : ℕ) → length {A = ℕ} [] ≤ most + 1
no_byte most = omega arith

-- a reader that is left alone gives no byte
pub none_read : (left : Option (List ℕ)) → IsReadUpTo left left
none_read left = ([], Consumes-nil left, no_byte most_bytes)

-- as many as the limit has are no more than one more
one_more : (n most : ℕ) → n ≤ most → n ≤ most + 1
one_more n most h = omega arith

-- an input that was read to its end is at most as long as the limit
pub all_is_some : (old new : Option (List ℕ)) → IsReadToEnd old new → IsReadUpTo old new
all_is_some old new read = (read.0, read.1, one_more (length read.0) most_bytes read.3)

-- a call that gives a fault of one kind also gives a fault of a wider kind
pub mapped : (origin : Origin) {P Q : Type 0} → (P → Q) → IsFaultOfOrigin origin P → IsFaultOfOrigin origin Q
mapped from_reader f h = h
mapped from_length f h = f h
mapped from_writer f h = h
mapped from_memory f h = tt
mapped from_answer f h = f h

-- what a call without reading gives, a call with reading may give
pub without_reading : {A B E : Type 0} (origin : E → Origin) (seen : A → B) (IsAnswer : Result B E → Type 0) (r : Result A E)
    → GivesBy origin seen IsAnswer r → GivesByReading origin seen IsAnswer r
without_reading origin seen IsAnswer (Ok x) h = h
without_reading origin seen IsAnswer (Err e) h = by_origin (origin e) (IsAnswer (Err e)) h
  where
    by_origin : (o : Origin) (Is : Type 0) → IsFaultOfOrigin o Is → IsFaultOfReading o Is
    by_origin from_reader Is h = tt
    by_origin from_length Is h = h
    by_origin from_writer Is h = h
    by_origin from_memory Is h = tt
    by_origin from_answer Is h = h

-- a call that gives an answer of one kind also gives an answer of a wider kind
pub implied : {A B E : Type 0} (origin : E → Origin) (seen : A → B) (P Q : Result B E → Type 0)
    → ((answer : Result B E) → P answer → Q answer)
    → (r : Result A E) → GivesByReading origin seen P r → GivesByReading origin seen Q r
implied origin seen P Q f (Ok x) h = f _ h
implied origin seen P Q f (Err e) h = by_origin (origin e) (P (Err e)) (Q (Err e)) (f (Err e)) h
  where
    by_origin : (o : Origin) (P Q : Type 0) → (P → Q) → IsFaultOfReading o P → IsFaultOfReading o Q
    by_origin from_reader P Q f h = tt
    by_origin from_length P Q f h = f h
    by_origin from_writer P Q f h = h
    by_origin from_memory P Q f h = tt
    by_origin from_answer P Q f h = f h
