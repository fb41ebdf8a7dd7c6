-- What the reader returns is the only answer.
use Rattle.std.proofs.Common.{◌≡◌, ℕ, ◌-◌, false, List, [], length, Result, Ok, Err, refl, sym, ap, subst, ◌∙◌, inl, inr}
use Rattle.message_pattern.specs.declared.head.Formats.{Formats}
use Rattle.message_pattern.specs.declared.error.Fault.{Fault}
use Rattle.message_pattern.specs.declared.error.FaultKind.{FaultKind}
use Rattle.message_pattern.specs.declared.error.PatternError as error
use Rattle.message_pattern.specs.declared.error.PatternError.TheVariants as errors
use Rattle.message_pattern.specs.PatternParts.{Part}
use Rattle.message_pattern.specs.PatternReading.{InMessage, ReadOutcome, Read, Faulty, ReadsText}
use Rattle.message_pattern.specs.PatternGrammar.{IsReadAt}
use Rattle.message_pattern.specs.declared.text.Context.TheVariants.{Whole}
use Rattle.message_pattern.specs.PatternAnswers.{IsTextOf, HasFirstFault, IsUnlessMemory, IsWhatIsRead, ReadsExactly, IsReadOrFaulty}
use Rattle.message_pattern.proofs.Readings.{one_outcome}
use Rattle.message_pattern.proofs.GrammarReads.{read_again, reading_in}
use Rattle.message_pattern.proofs.WholeTexts.{to_its_end}
use Rattle.message_pattern.proofs.Total.{found}

-- a pattern of the grammar is read so, to its end
as_read : {formats : Formats} (text : List ℕ) (parts : List Part) → IsTextOf formats text parts → ReadsText formats text (Read parts [])
as_read text parts h = read_again [] h

-- what is read is a pattern of the grammar
pub in_grammar : {formats : Formats} (text rest : List ℕ) (parts : List Part) → ReadsText formats text (Read parts rest)
    → IsTextOf formats text parts
in_grammar {formats = formats} text rest parts r =
    let h = reading_in r (InMessage Whole 0 false) text refl in
    let k = subst (λ (l : List Part). IsReadAt formats (InMessage Whole 0 false) text l rest) (sym h.1) h.2 in
    subst (λ (s : List ℕ). IsReadAt formats (InMessage Whole 0 false) text parts s) (to_its_end k refl) k

-- two lists of parts of a text are one
pub one_list : {formats : Formats} (text : List ℕ) (a b : List Part) → IsTextOf formats text a → IsTextOf formats text b → a ≡ b
one_list text a b h k =
    let e : Read a [] ≡ Read b [] = one_outcome (as_read text a h) (as_read text b k) in cc

-- a pattern has no fault
pub no_fault : {formats : Formats} (text : List ℕ) (a : List Part) (kind : FaultKind) (place : ℕ) → IsTextOf formats text a
    → HasFirstFault formats text kind place → ⊥
no_fault text a kind place h k =
    let e : Read a [] ≡ Faulty k.0 = one_outcome (as_read text a h) k.1 in cc

-- two faults of a text are one
pub one_fault : {formats : Formats} (text : List ℕ) (kind kind' : FaultKind) (place place' : ℕ) → HasFirstFault formats text kind place
    → HasFirstFault formats text kind' place' → (kind ≡ kind') × (place ≡ place')
one_fault text kind kind' place place' h k =
    let e : Faulty h.0 ≡ Faulty k.0 = one_outcome h.1 k.1 in
    let f : h.0 ≡ k.0 = cc in
    (h.2 ∙ (ap (λ (x : Fault). x.kind) f ∙ sym k.2), h.3 ∙ (ap (λ (x : Fault). length text - x.left) f ∙ sym k.3))

read_only : {formats : Formats} (text : List ℕ) (r : Result (List Part) error.PatternError) → IsWhatIsRead formats text r
    → (parts : List Part) → IsTextOf formats text parts → IsUnlessMemory r (Ok parts)
read_only text (Ok a) h parts k = inl (ap Ok (one_list text a parts h k))
read_only text (Err (errors.Fault kind place)) h parts k = absurd (no_fault text parts kind place k h)
read_only text (Err errors.Memory) h parts k = inr refl

fault_only : {formats : Formats} (text : List ℕ) (r : Result (List Part) error.PatternError) → IsWhatIsRead formats text r
    → (kind : FaultKind) (place : ℕ) → HasFirstFault formats text kind place → IsUnlessMemory r (Err (errors.Fault kind place))
fault_only text (Ok a) h kind place k = absurd (no_fault text a kind place h k)
fault_only text (Err (errors.Fault kind' place')) h kind place k =
    let same : (kind' ≡ kind) × (place' ≡ place) = one_fault text kind' kind place' place h k in
    let e : kind' ≡ kind = same.0 in
    let f : place' ≡ place = same.1 in
    inl cc
fault_only text (Err errors.Memory) h kind place k = inr refl

-- an answer is exactly what the text is read as
pub answers : {formats : Formats} (text : List ℕ) (r : Result (List Part) error.PatternError) → IsWhatIsRead formats text r
    → ReadsExactly formats text r
answers text r h = record { only = h; read = read_only text r h; fault = fault_only text r h }

outcome_is : {formats : Formats} (text : List ℕ) (o : ReadOutcome) → ReadsText formats text o → IsReadOrFaulty formats text
outcome_is text (Read parts rest) r = inl (parts, in_grammar text rest parts r)
outcome_is text (Faulty fault) r = inr (fault.kind, length text - fault.left, (fault, r, refl, refl))

-- every text is a pattern, or has a fault
pub all_read : {formats : Formats} (text : List ℕ) → IsReadOrFaulty formats text
all_read text = let f = found (InMessage Whole 0 false) text [] in outcome_is text f.0 f.1
