-- A fault of a step is the fault of the whole.
use Rattle.std.proofs.Common.{◌≡◌, Result, Ok, Err, refl, sym, ◌∙◌, ap, subst}
use Rattle.std.specs.Prelude.{⊤}
use Rattle.std.specs.Result.{result_and}
use Rattle.plural_documents.proofs.InputLemmas as faults
use Rattle.plural_documents.specs.Steps.{◌>>=◌}
use Rattle.document_report.specs.CheckAnswer.{check_origin}
use Rattle.document_report.specs.Inner.CheckCalls.{GivesCheckFault, GivesOnly}
use Rattle.document_report.specs.declared.error.CheckError.{CheckError}

-- a call that gives a fault of one kind also gives a fault of a wider kind
pub mapped : (P Q : CheckError → Type 0) → ((fault : CheckError) → P fault → Q fault) → (e : CheckError) → GivesCheckFault P e → GivesCheckFault Q e
mapped P Q f e h = faults.mapped (check_origin e) (f e) h

-- `?` passes on the error of the call
pub handed_on : {X E : Type 0} (r : Result X E) (e : E) (p : (f : E) × (r ≡ Err f) × (f ≡ e)) → r ≡ Err e
handed_on r e p = p.1 ∙ ap Err p.2

-- a fault of the first step is the fault of both steps
pub refused_first : {A B D : Type 0} (seen : D → B) (value : Result A CheckError) (next : A → Result B CheckError)
    (e : CheckError) (r : Result D CheckError) → r ≡ Err e → GivesCheckFault (λ fault. value ≡ Err fault) e
    → GivesOnly seen (value >>= next) r
refused_first seen value next e r is h =
    rw is (mapped (λ fault. value ≡ Err fault) (λ fault. (value >>= next) ≡ Err fault) (λ fault there. rw there refl) e h)

-- after the first step, a call that gives the value of the second step gives the value of both
pub of_second : {A B D : Type 0} (seen : D → B) (value : Result A CheckError) (x : A) (next : A → Result B CheckError)
    (r : Result D CheckError) → value ≡ Ok x → GivesOnly seen (next x) r → GivesOnly seen (value >>= next) r
of_second {A} seen value x next r there h = subst (λ (v : Result A CheckError). GivesOnly seen (v >>= next) r) (sym there) h

-- the value of both steps is that of the second, applied to the value of the first
pub after : {A B : Type 0} (value : Result A CheckError) (x : A) (next : A → Result B CheckError) (y : Result B CheckError)
    → value ≡ Ok x → next x ≡ y → (value >>= next) ≡ y
after value x next y there e = rw there e

-- a value that is kept if it has its form
pub kept_if_formed : {B D : Type 0} (seen : D → B) (formed : Result ⊤ CheckError) (x : D) (checked : Result ⊤ CheckError)
    → GivesOnly (λ done. done) formed checked → GivesOnly seen (formed >>= λ _. Ok (seen x)) (result_and checked (Ok x))
kept_if_formed seen formed x (Ok done) h = rw h refl
kept_if_formed seen formed x (Err e) h =
    mapped (λ fault. formed ≡ Err fault) (λ fault. (formed >>= λ _. Ok (seen x)) ≡ Err fault) (λ fault there. rw there refl) e h
