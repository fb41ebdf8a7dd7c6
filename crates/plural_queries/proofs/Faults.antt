-- A fault of a step is the fault of the whole.
use Rattle.std.proofs.Common.{◌≡◌, ℕ, List, Result, Ok, Err, refl, sym, ◌∙◌, ap, subst}
use Rattle.std.specs.Cow.{cow_str_bytes}
use Rattle.plural_queries.specs.LookupAnswers.{AnswersFrom}
use Rattle.plural_queries.specs.CallAnswers.{run_origin, GivesAnswer, GivesRunFault, GivesAnswerText, GivesValue, Text}
use Rattle.plural_documents.proofs.InputLemmas as faults
use Rattle.plural_documents.specs.Steps.{After, HasNoFault, Then, ◌>>=◌}
use Rattle.plural_queries.specs.declared.error.RunError.{RunError}

-- a call that gives a fault of one kind also gives a fault of a wider kind
pub mapped : (P Q : RunError → Type 0) → ((fault : RunError) → P fault → Q fault) → (e : RunError) → GivesRunFault P e → GivesRunFault Q e
mapped P Q f e h = faults.mapped (run_origin e) (f e) h

-- `?` passes on the error of the call
pub handed_on : {X : Type 0} (r : Result X RunError) (e : RunError) (p : (f : RunError) × (r ≡ Err f) × (f ≡ e)) → r ≡ Err e
handed_on r e p = p.1 ∙ ap Err p.2

-- so an error of the result is the error of the call
pub same_fault : {X Y : Type 0} (r : Result X RunError) (e f : RunError) → r ≡ Err e → r ≡ Err f
    → ◌≡◌ {A = Result Y RunError} (Err e) (Err f)
same_fault {X} {Y} r e f is h = let same : e ≡ f = cc in ap Err same

-- an error is the same in another result
pub same_error : {X Y : Type 0} {e f : RunError} → ◌≡◌ {A = Result X RunError} (Err e) (Err f) → ◌≡◌ {A = Result Y RunError} (Err e) (Err f)
same_error {X} {Y} {e} {f} h = let same : e ≡ f = cc in ap Err same

-- a value is no error
pub no_error : {X : Type 0} {x : X} {e : RunError} → ◌≡◌ {A = Result X RunError} (Ok x) (Err e) → ⊥
no_error h = cc

-- ---- Two relations

-- a fault of the first is a fault of both
pub fault_of_first : {A B : Type 0} (First : Result A RunError → Type 0) (Next : A → Result B RunError → Type 0) (e : RunError)
    → GivesRunFault (λ fault. First (Err fault)) e → GivesRunFault (λ fault. Then First Next (Err fault)) e
fault_of_first First Next e h =
    mapped (λ fault. First (Err fault)) (λ fault. Then First Next (Err fault)) (λ fault there. (Err fault, there, refl)) e h

-- so is a fault of the second, after the first
pub fault_of_second : {A B : Type 0} (First : Result A RunError → Type 0) (Next : A → Result B RunError → Type 0) (x : A) (e : RunError)
    → First (Ok x) → GivesRunFault (λ fault. Next x (Err fault)) e → GivesRunFault (λ fault. Then First Next (Err fault)) e
fault_of_second First Next x e is h =
    mapped (λ fault. Next x (Err fault)) (λ fault. Then First Next (Err fault)) (λ fault there. (Ok x, is, there)) e h

-- if neither has a fault, both together have none
pub no_fault_of_both : {A B : Type 0} (First : Result A RunError → Type 0) (Next : A → Result B RunError → Type 0)
    → HasNoFault First → ((x : A) → HasNoFault (Next x)) → HasNoFault (Then First Next)
no_fault_of_both {A} {B} First Next none nones fault h = of_either h.0 h.1 h.2
  where
    of_either : (first : Result A RunError) → First first → After Next first (Err fault) → ⊥
    of_either (Ok x) is h = nones x fault h
    of_either (Err e) is h = none e is

-- ---- A value, then a relation

-- a fault in place of the value is a fault of both
pub fault_of_value : {A B : Type 0} (Next : A → Result B RunError → Type 0) (given : Result A RunError) (e : RunError)
    → GivesRunFault (λ fault. given ≡ Err fault) e → GivesRunFault (λ fault. After Next given (Err fault)) e
fault_of_value Next given e h =
    mapped (λ fault. given ≡ Err fault) (λ fault. After Next given (Err fault)) (λ fault there. rw there refl) e h

-- and a call that gives it gives the result of both
pub value_fault : {A B D : Type 0} (seen : D → B) (Next : A → Result B RunError → Type 0) (given : Result A RunError)
    (e : RunError) (r : Result D RunError) → r ≡ Err e → GivesRunFault (λ fault. given ≡ Err fault) e
    → GivesAnswer seen (After Next given) r
value_fault seen Next given e r is h = rw is (fault_of_value Next given e h)

-- the result after the value is the result of both
pub value_answer : {A B D : Type 0} (seen : D → B) (Next : A → Result B RunError → Type 0) (given : Result A RunError)
    (x : A) (r : Result D RunError) → given ≡ Ok x → GivesAnswer seen (Next x) r → GivesAnswer seen (After Next given) r
value_answer {A} seen Next given x r there h = subst (λ (v : Result A RunError). GivesAnswer seen (After Next v) r) (sym there) h

-- ---- Two values

-- a fault of the first is the fault of both
pub refused_first : {A B D : Type 0} (seen : D → B) (value : Result A RunError) (next : A → Result B RunError)
    (e : RunError) (r : Result D RunError) → r ≡ Err e → GivesRunFault (λ fault. value ≡ Err fault) e → GivesValue seen (value >>= next) r
refused_first seen value next e r is h =
    rw is (mapped (λ fault. value ≡ Err fault) (λ fault. (value >>= next) ≡ Err fault) (λ fault there. rw there refl) e h)

-- after the first value, a call that gives the second value gives both
pub of_second : {A B D : Type 0} (seen : D → B) (value : Result A RunError) (x : A) (next : A → Result B RunError) (r : Result D RunError)
    → value ≡ Ok x → GivesValue seen (next x) r → GivesValue seen (value >>= next) r
of_second {A} seen value x next r there h = subst (λ (v : Result A RunError). GivesValue seen (v >>= next) r) (sym there) h

-- the value of both steps is that of the second, applied to the value of the first
pub after : {A B : Type 0} (value : Result A RunError) (x : A) (next : A → Result B RunError) (y : Result B RunError)
    → value ≡ Ok x → next x ≡ y → (value >>= next) ≡ y
after value x next y there e = rw there e

-- ---- A line for a value that is given

-- if no value is given, its fault is the answer
pub nothing_given : {A : Type 0} (IsText : A → List ℕ → Type 0) (given : Result A RunError) (e : RunError) (r : Result Text RunError)
    → r ≡ Err e → GivesRunFault (λ fault. given ≡ Err fault) e → GivesAnswerText (AnswersFrom IsText given) r
nothing_given IsText given e r is h =
    rw is (mapped (λ fault. given ≡ Err fault) (λ fault. AnswersFrom IsText given (Err fault)) (λ fault there. rw there refl) e h)

-- a text is no fault
no_fault_of_text : {P : Type 0} (bytes : List ℕ) (fault : RunError) → ◌≡◌ {A = Result (List ℕ) RunError} (Ok bytes) (Err fault) → P
no_fault_of_text bytes fault h = cc

-- a text for the given value is the answer
pub line_given : {A : Type 0} (IsText : A → List ℕ → Type 0) (given : Result A RunError) (x : A) (bytes : List ℕ) (r : Result Text RunError)
    → given ≡ Ok x → IsText x bytes → GivesValue cow_str_bytes (Ok bytes) r → GivesAnswerText (AnswersFrom IsText given) r
line_given IsText given x bytes (Ok text) there is h = let same : bytes ≡ cow_str_bytes text = cc in rw there (subst (IsText x) same is)
line_given IsText given x bytes (Err e) there is h =
    mapped (λ fault. Ok bytes ≡ Err fault) (λ fault. AnswersFrom IsText given (Err fault))
    (λ fault none. no_fault_of_text bytes fault none) e h

-- the same for a borrowed text
pub lent_line : {A : Type 0} (IsText : A → List ℕ → Type 0) (given : Result A RunError) (x : A) (bytes : List ℕ)
    → given ≡ Ok x → IsText x bytes → AnswersFrom IsText given (Ok bytes)
lent_line IsText given x bytes there is = rw there is
