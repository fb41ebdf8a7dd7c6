-- The answer after the input was read, or could not be read.
use Rattle.std.proofs.Common.{◌≡◌, ◌≤◌, ℕ, List, length, Option, Some, None, Result, Ok, Err, refl, sym, subst}
use Rattle.std.specs.Cow.{cow_str_bytes}
use Rattle.std.specs.Prelude.{⊤}
use Rattle.std.specs.Io.KnownBytes.{Keeps}
use Rattle.plural_commands.specs.Answer.{IsAnswered, IsNotRead}
use Rattle.plural_queries.specs.CallAnswers.{run_origin, GivesTextAfterReading, GivesRunFault, GivesAnswerText, Text, input_fault}
use Rattle.plural_queries.specs.Input.{WholeDocument, document_in, document_of}
use Rattle.plural_documents.specs.Steps.{After}
use Rattle.plural_queries.specs.declared.error.RunError.{RunError}
use Rattle.plural_queries.specs.declared.error.RunError.TheVariants.{Usage, Condition, Number, Read, TooLong}
use Rattle.plural_queries.specs.declared.error.RunError.TheVariants.{Json, Document, Locale, Write, Memory}
use Rattle.plural_documents.specs.Inputs.{GivesInput, IsInput, IsReadAfterResult, IsReadAfter, IsReadToEnd, input_origin, most_bytes}
use Rattle.plural_documents.specs.declared.InputError.{InputError}
use Rattle.plural_documents.specs.declared.InputError.TheVariants as cause
use Rattle.plural_documents.proofs.InputLemmas.{all_is_some, beyond, none_read, some_input, within, without_reading}

-- ---- The input can't be read

-- if the input is too long or can't be read, that fault is the answer
of_input : (Next : WholeDocument → Result (List ℕ) RunError → Type 0) (left : Option (List ℕ)) (e : InputError)
    → GivesInput left (Err e)
    → (bytes : List ℕ) × IsInput left bytes × GivesTextAfterReading (After Next (document_in bytes)) (Err (input_fault e))
of_input Next left cause.Read h = let i = some_input left in (i.0, i.1, tt)
of_input Next left cause.TooLong h = (
  h.0,
  h.1,
  subst (λ (document : Result WholeDocument RunError). After Next document (Err TooLong))
      (sym (beyond TooLong document_of h.0 h.2)) refl,
)
of_input Next left cause.Memory h = let i = some_input left in (i.0, i.1, tt)

-- `?` passes on such a fault
pub no_input : (Next : WholeDocument → Result (List ℕ) RunError → Type 0) (left : Option (List ℕ)) (e : InputError)
    (r : Result Text RunError) → r ≡ Err (input_fault e) → GivesInput left (Err e)
    → (bytes : List ℕ) × IsInput left bytes × GivesTextAfterReading (After Next (document_in bytes)) r
no_input Next left e r is h = rw is (of_input Next left e h)

-- what was read at an error of the input was read at its fault
read_at : (old new : Option (List ℕ)) (e : InputError)
    → IsReadAfter (input_origin e) old new → IsReadAfter (run_origin (input_fault e)) old new
read_at old new cause.Read h = h
read_at old new cause.TooLong h = h
read_at old new cause.Memory h = h

-- `?` passes on such a fault
pub read_on : {B : Type 0} (old new : Option (List ℕ)) (e : InputError) (r : Result B RunError)
    → r ≡ Err (input_fault e) → IsReadAfter (input_origin e) old new → IsReadAfterResult run_origin old new r
read_on old new e r is h = rw is (read_at old new e h)

-- ---- The input was read to its end

-- the answer to the bytes is the answer to the input
pub of_all : (Next : WholeDocument → Result (List ℕ) RunError → Type 0) (whole bytes : List ℕ)
    → length whole ≤ most_bytes → bytes ≡ whole → (r : Result Text RunError)
    → GivesAnswerText (After Next (document_of bytes)) r → GivesTextAfterReading (After Next (document_in whole)) r
of_all Next whole bytes short same r h =
    let all = subst (λ (read : List ℕ). GivesAnswerText (After Next (document_of read)) r) same h in
    subst (λ (document : Result WholeDocument RunError). GivesTextAfterReading (After Next document) r) (sym (within TooLong document_of whole short))
    (without_reading run_origin cow_str_bytes (After Next (document_of whole)) r all)

-- if no answer says that the input is too long, it was read to its end
pub to_the_end : (IsAnswer : Result (List ℕ) RunError → Type 0) (old new : Option (List ℕ)) → (IsAnswer (Err TooLong) → ⊥)
    → IsReadToEnd old new
    → (r : Result Text RunError) → GivesAnswerText IsAnswer r → IsReadAfterResult run_origin old new r
to_the_end IsAnswer old new none end (Ok text) h = end
to_the_end IsAnswer old new none end (Err Usage) h = end
to_the_end IsAnswer old new none end (Err (Condition k)) h = end
to_the_end IsAnswer old new none end (Err (Number k)) h = end
to_the_end IsAnswer old new none end (Err Read) h = absurd h
to_the_end IsAnswer old new none end (Err TooLong) h = absurd (none h)
to_the_end IsAnswer old new none end (Err Json) h = end
to_the_end IsAnswer old new none end (Err (Document k)) h = end
to_the_end IsAnswer old new none end (Err Locale) h = end
to_the_end IsAnswer old new none end (Err Write) h = end
to_the_end IsAnswer old new none end (Err Memory) h = all_is_some old new end

-- ---- Nothing is read

-- if the words have no fault, the only error is out of memory
pub faultless : (A : Type 0) (IsFault : RunError → Type 0) (left : Option (List ℕ)) → ((fault : RunError) → ¬ (IsFault fault))
    → (e : RunError) → GivesRunFault IsFault e → IsReadAfterResult {A = A} run_origin left left (Err e)
faultless A IsFault left none Usage h = absurd (none _ h)
faultless A IsFault left none (Condition k) h = absurd (none _ h)
faultless A IsFault left none (Number k) h = absurd (none _ h)
faultless A IsFault left none Read h = absurd h
faultless A IsFault left none TooLong h = absurd (none _ h)
faultless A IsFault left none Json h = absurd (none _ h)
faultless A IsFault left none (Document k) h = absurd (none _ h)
faultless A IsFault left none Locale h = absurd (none _ h)
faultless A IsFault left none Write h = absurd h
faultless A IsFault left none Memory h = none_read left

-- a fault of words is no read error
pub not_blamed : (A : Type 0) (IsFault : RunError → Type 0) (e : RunError) → GivesRunFault IsFault e → IsNotRead {A = A} (Err e)
not_blamed A IsFault Usage h = tt
not_blamed A IsFault (Condition k) h = tt
not_blamed A IsFault (Number k) h = tt
not_blamed A IsFault Read h = absurd h
not_blamed A IsFault TooLong h = tt
not_blamed A IsFault Json h = tt
not_blamed A IsFault (Document k) h = tt
not_blamed A IsFault Locale h = tt
not_blamed A IsFault Write h = tt
not_blamed A IsFault Memory h = tt

-- ---- Nothing is written after a fault

-- what is unchanged is kept
pub kept : (known : Option (List ℕ)) → Keeps known known
kept None = tt
kept (Some xs) = refl

-- a fault is the answer, and nothing is written
of_fault : (IsAnswer : Result (List ℕ) RunError → Type 0) (known : Option (List ℕ)) (e : RunError)
    → GivesTextAfterReading IsAnswer (Err e) → IsAnswered IsAnswer known known (Err e)
of_fault IsAnswer known Usage h = (h, kept known)
of_fault IsAnswer known (Condition k) h = (h, kept known)
of_fault IsAnswer known (Number k) h = (h, kept known)
of_fault IsAnswer known Read h = kept known
of_fault IsAnswer known TooLong h = (h, kept known)
of_fault IsAnswer known Json h = (h, kept known)
of_fault IsAnswer known (Document k) h = (h, kept known)
of_fault IsAnswer known Locale h = (h, kept known)
of_fault IsAnswer known Write h = absurd h
of_fault IsAnswer known Memory h = kept known

-- `?` passes on such a fault
pub not_written : (IsAnswer : Result (List ℕ) RunError → Type 0) (known : Option (List ℕ)) (e : RunError) (r : Result ⊤ RunError)
    → r ≡ Err e → GivesTextAfterReading IsAnswer (Err e) → IsAnswered IsAnswer known known r
not_written IsAnswer known e r is h = rw is (of_fault IsAnswer known e h)
