-- A text is read in one way.
use Rattle.std.proofs.Common.{◌≡◌, ◌⊎◌, List, ◌++◌, ℕ, refl, sym, subst, inl, inr}
use Rattle.message_pattern.specs.declared.head.Formats.{Formats}
use Rattle.message_pattern.specs.declared.error.Fault.{Fault}
use Rattle.message_pattern.specs.PatternParts.{Part}
use Rattle.message_pattern.specs.PatternReading.{PatternPlace, ReadStep, Ends, Fails, Goes, Calls, ReadOutcome, Read, Faulty, ReadsTo, ends, fails, goes, calls, breaks, read_step}

-- how the reading goes on behind a step
abbrev pub Follows : Formats → ReadStep → List Part → ReadOutcome → Type 0
Follows formats (Ends parts rest) before outcome = Read (before ++ parts) rest ≡ outcome
Follows formats (Fails fault) before outcome = Faulty fault ≡ outcome
Follows formats (Goes parts place rest) before outcome = ReadsTo formats (read_step formats place rest) (before ++ parts) outcome
Follows formats (Calls parts place after rest) before outcome =
    ((inner : List Part) × (end : List ℕ) × ReadsTo formats (read_step formats place rest) (before ++ parts) (Read inner end)
    × ReadsTo formats (read_step formats after end) inner outcome)
    ⊎ ((fault : Fault) × ReadsTo formats (read_step formats place rest) (before ++ parts) (Faulty fault) × (Faulty fault ≡ outcome))

-- each reading goes on so
pub follows : {formats : Formats} {at : ReadStep} {before : List Part} {outcome : ReadOutcome} → ReadsTo formats at before outcome
    → Follows formats at before outcome
follows {formats = formats} (ends at before parts rest e) =
    subst (λ (s : ReadStep). Follows formats s before (Read (before ++ parts) rest)) (sym e) refl
follows {formats = formats} (fails at before fault e) = subst (λ (s : ReadStep). Follows formats s before (Faulty fault)) (sym e) refl
follows {formats = formats} (goes at before parts place rest outcome e h) =
    subst (λ (s : ReadStep). Follows formats s before outcome) (sym e) h
follows {formats = formats} (calls at before parts inner place after rest end outcome e h k) =
    subst (λ (s : ReadStep). Follows formats s before outcome) (sym e) (inl (inner, end, h, k))
follows {formats = formats} (breaks at before parts place after rest fault e h) =
    subst (λ (s : ReadStep). Follows formats s before (Faulty fault)) (sym e) (inr (fault, h, refl))

-- behind what was read, a reading at a place
abbrev pub GoesOn : Formats → PatternPlace → ReadOutcome → ReadOutcome → Type 0
GoesOn formats after (Read inner end) outcome = ReadsTo formats (read_step formats after end) inner outcome
GoesOn formats after (Faulty fault) outcome = Faulty fault ≡ outcome

-- two readings come to the same
pub one_outcome : {formats : Formats} {at : ReadStep} {before : List Part} {a b : ReadOutcome} → ReadsTo formats at before a
    → ReadsTo formats at before b → a ≡ b
one_outcome {formats = formats} {b = b} (ends at before parts rest e) other =
    subst (λ (s : ReadStep). Follows formats s before b) e (follows other)
one_outcome {formats = formats} {b = b} (fails at before fault e) other =
    subst (λ (s : ReadStep). Follows formats s before b) e (follows other)
one_outcome {formats = formats} {b = b} (goes at before parts place rest outcome e h) other =
    one_outcome h (subst (λ (s : ReadStep). Follows formats s before b) e (follows other))
one_outcome {formats = formats} {b = b} (calls at before parts inner place after rest end outcome e h k) other =
    elim (subst (λ (s : ReadStep). Follows formats s before b) e (follows other)) [
      | inl x ↦ one_outcome k (subst (λ (o : ReadOutcome). GoesOn formats after o b) (sym (one_outcome h x.2)) x.3)
      | inr x ↦ let e : Read inner end ≡ Faulty x.0 = one_outcome h x.1 in cc
    ]
one_outcome {formats = formats} {b = b} (breaks at before parts place after rest fault e h) other =
    elim (subst (λ (s : ReadStep). Follows formats s before b) e (follows other)) [
      | inl x ↦ let e : Faulty fault ≡ Read x.0 x.1 = one_outcome h x.2 in cc
      | inr x ↦ let e : Faulty fault ≡ Faulty x.0 = one_outcome h x.1 in let f : Faulty x.0 ≡ b = x.2 in cc
    ]
