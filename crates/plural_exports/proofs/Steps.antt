-- One step after another.
use Rattle.std.proofs.Common.{◌≡◌, ℕ, ℤ, List, Result, Ok, Err, refl, ◌∙◌, ap}
use Rattle.plural_exports.specs.Inner.GivenResults.{GivesSeen, GivesWritten}
use Rattle.plural_documents.specs.Steps.{Then}
use Rattle.plural_exports.specs.declared.fault.Fault.{Fault}

-- what `?` hands on is the fault that an error becomes
pub handed_on : {E X : Type 0} (becomes : E → Fault) (r : Result X Fault) (e : E)
    (p : (fault : Fault) × (r ≡ Err fault) × (fault ≡ becomes e)) → r ≡ Err (becomes e)
handed_on becomes r e p = p.1 ∙ ap Err p.2

-- what `?` passes on is the fault itself
pub passed_on : {X : Type 0} (r : Result X Fault) (e : Fault) (p : (fault : Fault) × (r ≡ Err fault) × (fault ≡ e)) → r ≡ Err e
passed_on r e p = p.1 ∙ ap Err p.2

-- a fault of the first is the result of both
pub refused_first : {A B D : Type 0} (seen : D → B) (First : Result A Fault → Type 0) (Next : A → Result B Fault → Type 0)
    (e : Fault) (r : Result D Fault) → r ≡ Err e → First (Err e) → GivesSeen seen (Then First Next) r
refused_first seen First Next e r is h = rw is (Err e, h, refl)

-- what a call gives after a value of the first, it gives for both
pub of_second : {A B D : Type 0} (seen : D → B) (First : Result A Fault → Type 0) (Next : A → Result B Fault → Type 0)
    (x : A) (r : Result D Fault) → First (Ok x) → GivesSeen seen (Next x) r → GivesSeen seen (Then First Next) r
of_second seen First Next x (Ok y) h next = (Ok x, h, next)
of_second seen First Next x (Err e) h next = (Ok x, h, next)

-- a fault, at which nothing was written
pub faulty : (Is : Result (List ℕ) Fault → Type 0) (old : List ℕ) (e : Fault) (r : Result ℤ Fault) → r ≡ Err e → Is (Err e)
    → GivesWritten Is old old r
faulty Is old e r is right = rw is (right, refl)

-- what is written after a value of the first, is written for both
pub written_second : {A : Type 0} (First : Result A Fault → Type 0) (Next : A → Result (List ℕ) Fault → Type 0)
    (x : A) (old new : List ℕ) (r : Result ℤ Fault) → First (Ok x) → GivesWritten (Next x) old new r
    → GivesWritten (Then First Next) old new r
written_second First Next x old new (Ok told) h next = (next.0, (Ok x, h, next.1), next.2)
written_second First Next x old new (Err e) h next = ((Ok x, h, next.0), next.1)
