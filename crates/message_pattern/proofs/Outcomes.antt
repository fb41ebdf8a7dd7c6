-- What private readers return.
use Rattle.std.proofs.Common.{◌≡◌, ℕ, List, [], true, false, Result, Ok, Err, MatchResult, refl, sym, subst}
use Rattle.std.specs.Borrow.{Bor}
use Rattle.message_pattern.specs.declared.head.Formats.{Formats}
use Rattle.message_pattern.specs.declared.error.Fault.{Fault}
use Rattle.message_pattern.specs.declared.error.ReadError.{ReadError}
use Rattle.message_pattern.specs.declared.error.ReadError.TheVariants as read
use Rattle.message_pattern.specs.declared.part.Part as parts
use Rattle.message_pattern.specs.declared.text.Context.{Context}
use Rattle.message_pattern.specs.declared.text.Context.TheVariants.{Whole}
use Rattle.message_pattern.specs.PatternText.{End, is_nested}
use Rattle.message_pattern.specs.PatternParts.{parts_view}
use Rattle.message_pattern.specs.PatternHeads.{unclosed}
use Rattle.message_pattern.specs.PatternReading.{InMessage, ReadStep, ReadOutcome, Read, Faulty, ReadsTo, message_step, read_step}
use Rattle.message_pattern.specs.PatternAnswers.{IsFaultIn}
use Rattle.message_pattern.specs.Inner.PatternViews.{GivesReadOutcome, pattern_error}
use Rattle.message_pattern.proofs.Steps.{text_ends, branch_unclosed}

-- a message that ends with the text
pub ended : {formats : Formats} (c : Context) (d : ℕ) (at : ReadStep) (old new : List parts.Part) (r : Result (Bor (List ℕ)) ReadError)
    → MatchResult r (λ rest. (rest.now ≡ []) × (is_nested c ≡ false)) (λ e. (e ≡ read.Fault unclosed) × (is_nested c ≡ true))
    → ((o : ReadOutcome) → ReadsTo formats (message_step c d End) (parts_view new) o → ReadsTo formats at (parts_view old) o)
    → GivesReadOutcome formats at old new r
ended {formats = formats} c d at old new (Ok rest) h f =
    subst (λ (s : List ℕ). ReadsTo formats at (parts_view old) (Read (parts_view new) s)) (sym h.0)
    (f (Read (parts_view new) []) (text_ends c d (parts_view new) h.1))
ended {formats = formats} c d at old new (Err e) h f =
    subst (λ (x : ReadError). GivesReadOutcome formats at old new (Err x)) (sym h.0)
    (f (Faulty unclosed) (branch_unclosed c d (parts_view new) h.1))

-- an error is passed on
pub passes_on : {formats : Formats} (at inner : ReadStep) (old new before after : List parts.Part) (e : ReadError)
    → GivesReadOutcome formats inner before after (Err e)
    → ((fault : Fault) → ReadsTo formats inner (parts_view before) (Faulty fault) → ReadsTo formats at (parts_view old) (Faulty fault))
    → GivesReadOutcome formats at old new (Err e)
passes_on at inner old new before after (read.Fault fault) h f = f fault h
passes_on at inner old new before after read.Memory h f = tt

-- an outcome is passed on
pub carries : {formats : Formats} (at inner : ReadStep) (old before new : List parts.Part) (r : Result (Bor (List ℕ)) ReadError)
    → GivesReadOutcome formats inner before new r
    → ((o : ReadOutcome) → ReadsTo formats inner (parts_view before) o → ReadsTo formats at (parts_view old) o)
    → GivesReadOutcome formats at old new r
carries at inner old before new (Ok rest) h f = f (Read (parts_view new) rest.now) h
carries at inner old before new (Err (read.Fault fault)) h f = f (Faulty fault) h
carries at inner old before new (Err read.Memory) h f = tt

-- a fault of a reading is one of the text
pub fault_of : (formats : Formats) (text : List ℕ) (old new : List parts.Part) (e : ReadError) → old ≡ []
    → GivesReadOutcome formats (read_step formats (InMessage Whole 0 false) text) old new (Err e)
    → IsFaultIn formats text (pattern_error text e)
fault_of formats text old new (read.Fault fault) e h = (
  fault,
  subst (λ (l : List parts.Part). ReadsTo formats (read_step formats (InMessage Whole 0 false) text) (parts_view l)
      (Faulty fault)) e h,
  refl,
  refl,
)
fault_of formats text old new read.Memory e h = tt
