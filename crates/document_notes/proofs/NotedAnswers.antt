-- The answer to bytes, or the reason why there is none.
use Rattle.std.proofs.Common.{◌≡◌, ℕ, Bool, List, Option, Some, None, Result, Ok, Err, refl, sym, ◌∙◌, ap, subst}
use Rattle.std.specs.Io.KnownBytes.{Keeps}
use Rattle.std.specs.Prelude.{◌≢◌}
use Rattle.document_report.specs.CheckAnswer.{Answer, IsCheckAnswered, check_origin}
use Rattle.document_report.specs.declared.error.CheckError.{CheckError}
use Rattle.document_report.specs.declared.error.CheckError.TheVariants.{Usage, Read, TooLong, Json, Float, NoObject, Write, Memory}
use Rattle.document_report.specs.declared.report.Verdict.{Verdict}
use Rattle.plural_documents.proofs.InputLemmas.{mapped}
use Rattle.plural_documents.specs.Inputs.{GivesBy, IsFaultOfOrigin}
use Rattle.serde_json.specs.Data.{Data}
use Rattle.document_notes.specs.NotedAnswer.{AnswersNoted, IsNotedAnswer, Texts, noted_view}
use Rattle.document_notes.specs.declared.run.Noted.{Noted}

-- `?` passes on the error of a call
pub passed_on : {X E : Type 0} (r : Result X E) (e : E) → (f : E) × (r ≡ Err f) × (f ≡ e) → r ≡ Err e
passed_on r e (f, is, same) = is ∙ ap Err same

-- a fault of the document is the answer
pub refused : (text_of : Texts) (strict : Bool) (bytes : List ℕ) (value : Result Data CheckError) (e : CheckError) (r : Result Noted CheckError)
    → r ≡ Err e → IsFaultOfOrigin (check_origin e) (value ≡ Err e) → GivesBy check_origin noted_view (AnswersNoted text_of strict bytes value) r
refused text_of strict bytes value e r is h = rw is (mapped (check_origin e) (λ there. rw there refl) h)

-- the answer to a document is that to the result that holds it
pub answered : (text_of : Texts) (strict : Bool) (bytes : List ℕ) (value : Result Data CheckError) (document : Data) (answer : Answer)
    → value ≡ Ok document → IsNotedAnswer text_of strict bytes document answer → AnswersNoted text_of strict bytes value (Ok answer)
answered text_of strict bytes value document answer there h =
    subst (λ (v : Result Data CheckError). AnswersNoted text_of strict bytes v (Ok answer)) (sym there) h

-- what is unchanged is kept
kept : (known : Option (List ℕ)) → Keeps known known
kept None = tt
kept (Some bytes) = refl

-- a fault is the answer, and nothing is written
of_fault : (IsAnswer : Result Answer CheckError → Type 0) (known : Option (List ℕ)) (e : CheckError)
    → IsFaultOfOrigin (check_origin e) (IsAnswer (Err e)) → IsCheckAnswered IsAnswer known known (Err e)
of_fault IsAnswer known Read h = absurd h
of_fault IsAnswer known Write h = absurd h
of_fault IsAnswer known Memory h = kept known
of_fault IsAnswer known Usage h = (h, kept known)
of_fault IsAnswer known TooLong h = (h, kept known)
of_fault IsAnswer known Json h = (h, kept known)
of_fault IsAnswer known Float h = (h, kept known)
of_fault IsAnswer known (NoObject at) h = (h, kept known)

pub nothing_written : (IsAnswer : Result Answer CheckError → Type 0) (known : Option (List ℕ)) (e : CheckError) (r : Result Verdict CheckError)
    → r ≡ Err e → IsFaultOfOrigin (check_origin e) (IsAnswer (Err e)) → IsCheckAnswered IsAnswer known known r
nothing_written IsAnswer known e r is h = rw is (of_fault IsAnswer known e h)

-- a fault that no reader gave isn't that one failed
pub not_read : (IsAnswer : Result Answer CheckError → Type 0) (e : CheckError) (r : Result Verdict CheckError) → r ≡ Err e
    → IsFaultOfOrigin (check_origin e) (IsAnswer (Err e)) → r ≢ Err Read
not_read IsAnswer e r is h failed =
    let same : e ≡ Read = cc in
    let P : CheckError → Type 0 = λ x. IsFaultOfOrigin (check_origin x) (IsAnswer (Err x)) in
    subst P same h
