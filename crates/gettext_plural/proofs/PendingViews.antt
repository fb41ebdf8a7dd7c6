-- What waits, when something is put to it or taken from it.
use Rattle.std.proofs.Common.{◌≡◌, ℕ, List, [], ◌∷◌, ◌++◌, ◌==◌, length, Bool, true, false, cond, Option, Some, None, Result, Ok, Err, refl, sym, ap, subst, ◌∙◌, arith}
use Rattle.std.proofs.lemmas.Bool.{eqb-false, eqb-true}
use Rattle.std.proofs.lemmas.List.{append-nil}
use Rattle.gettext_plural.specs.declared.error.FaultKind.{FaultKind}
use Rattle.gettext_plural.specs.declared.error.FaultKind.TheVariants.{Unfinished}
use Rattle.gettext_plural.specs.declared.error.ReadError.{ReadError}
use Rattle.gettext_plural.specs.declared.error.ReadError.TheVariants as read
use Rattle.gettext_plural.specs.declared.expression.Expression.{Expression}
use Rattle.gettext_plural.specs.declared.pending.Pending.{Pending}
use Rattle.gettext_plural.specs.declared.pending.Pending.TheVariants as pending
use Rattle.gettext_plural.specs.declared.token.Operator.{Operator}
use Rattle.gettext_plural.specs.PluralExpressions.{Formula, binding}
use Rattle.gettext_plural.specs.PluralViews.{formula_view}
use Rattle.gettext_plural.specs.Inner.PluralMachine.{Waiting, colon, Stage, expects, unwind, closes, filled, condition_in, is_bracket, jointed, questioned, coloned, colon_stage, colon_with, close_stage, close_with, whole}
use Rattle.gettext_plural.specs.Inner.FormulaViews.{IsFaultOr, IsPopped, pending_view, pendings_onto, pendings_view}

abbrev pub stage_ok : Stage → Result Stage FaultKind
stage_ok s = Ok s

pendings_onto-append : (ps : List Pending) (p : Pending) (ws : List Waiting)
    → pendings_onto (ps ++ p ∷ []) ws ≡ pending_view p ∷ pendings_onto ps ws
pendings_onto-append [] p ws = refl
pendings_onto-append (q ∷ ps) p ws = pendings_onto-append ps p (pending_view q ∷ ws)

-- the last comes first
pub pushed : (old new : List Pending) (p : Pending) → new ≡ old ++ p ∷ [] → pendings_view new ≡ pending_view p ∷ pendings_view old
pushed old new p is = ap pendings_view is ∙ pendings_onto-append old p []

-- what an operator does
pub joint_step : (o : Operator) (ws : List Waiting) (e : Formula) (mid new : List Pending) (a : Expression)
    → unwind (binding o) ws e ≡ (pendings_view mid, formula_view a)
    → new ≡ mid ++ pending.Left o a ∷ [] → stage_ok (jointed o (unwind (binding o) ws e)) ≡ stage_ok (expects (pendings_view new))
joint_step o ws e mid new a u is =
    ap (λ it. stage_ok (jointed o it)) u ∙ sym (ap (λ vs. stage_ok (expects vs)) (pushed mid new (pending.Left o a) is))

-- what `?` does
pub question_step : (ws : List Waiting) (e : Formula) (mid new : List Pending) (a : Expression)
    → unwind 1 ws e ≡ (pendings_view mid, formula_view a)
    → new ≡ mid ++ pending.Question a ∷ [] → stage_ok (questioned (unwind 1 ws e)) ≡ stage_ok (expects (pendings_view new))
question_step ws e mid new a u is =
    ap (λ it. stage_ok (questioned it)) u ∙ sym (ap (λ vs. stage_ok (expects vs)) (pushed mid new (pending.Question a) is))

-- a fault is returned where the answer is one
pub faults : {A : Type 0} (answer : Result A FaultKind) (kind : FaultKind) (left : ℕ) (e : ReadError)
    → e ≡ read.Fault (record { kind = kind; left = left }) → answer ≡ Err kind → IsFaultOr answer left e
faults answer kind left e is stops = subst (λ (x : ReadError). IsFaultOr answer left x) (sym is) (refl, stops)

-- what `:` does, and the innermost when it is taken
pub condition_popped : (old new : List Pending) (last : Pending) (o : Option Formula) (e : Formula) → old ≡ new ++ last ∷ []
    → o ≡ condition_in (pending_view last) → colon_stage (pendings_view old) e ≡ colon_with o (pendings_view new) e
condition_popped old new last o e is found =
    ap (λ vs. colon_stage vs e) (pushed new old last is) ∙ ap (λ it. colon_with it (pendings_view new) e) (sym found)

pub colon_step : (ws : List Waiting) (e : Formula) (mid rest new : List Pending) (a b : Expression)
    → unwind 0 ws e ≡ (pendings_view mid, formula_view b)
    → colon_stage (pendings_view mid) (formula_view b) ≡ stage_ok (expects (colon (formula_view a) (formula_view b) ∷ pendings_view rest))
    → new ≡ rest ++ pending.Colon a b ∷ []
    → coloned (unwind 0 ws e) ≡ Ok (expects (pendings_view new))
colon_step ws e mid rest new a b u taken put =
    ap coloned u ∙ taken ∙ sym (ap (λ vs. stage_ok (expects vs)) (pushed rest new (pending.Colon a b) put))

-- what `)` does, likewise
pub bracket_popped : (old new : List Pending) (last : Pending) (b : Bool) (inner : Formula) → old ≡ new ++ last ∷ []
    → b ≡ is_bracket (pending_view last) → close_stage (pendings_view old) inner ≡ close_with b (pendings_view new) inner
bracket_popped old new last b inner is found =
    ap (λ vs. close_stage vs inner) (pushed new old last is) ∙ ap (λ t. close_with t (pendings_view new) inner) (sym found)

-- what the end does: where nothing waits, and where something does
pub none_waits : (n : ℕ) (ps : List Pending) (e : Formula) → n ≡ length ps → (n == 0) ≡ true → whole (pendings_view ps) e ≡ Ok e
none_waits n [] e size is = refl
none_waits n (p ∷ ps) e size is =
    let none : n ≡ 0 = eqb-true _ _ is in
    absurd (omega arith)

some_waits_onto : (ps : List Pending) (w : Waiting) (ws : List Waiting) (e : Formula) → whole (pendings_onto ps (w ∷ ws)) e ≡ Err Unfinished
some_waits_onto [] w ws e = refl
some_waits_onto (p ∷ ps) w ws e = some_waits_onto ps (pending_view p) (w ∷ ws) e

pub some_waits : (n : ℕ) (ps : List Pending) (e : Formula) → n ≡ length ps → (n == 0) ≡ false → whole (pendings_view ps) e ≡ Err Unfinished
some_waits n [] e size is = absurd (eqb-false _ _ is size)
some_waits n (p ∷ ps) e size is = some_waits_onto ps (pending_view p) [] e

-- nothing waits
pub none_ends : (m : ℕ) (ps : List Pending) (e : Formula) → ps ≡ [] → unwind m (pendings_view ps) e ≡ (pendings_view ps, e)
none_ends m ps e is = ap (λ (qs : List Pending). unwind m (pendings_view qs) e) is
    ∙ sym (ap (λ (qs : List Pending). let it : List Waiting × Formula = (pendings_view qs, e) in it) is)

-- the innermost ends, or stays
pub innermost_ends : (m : ℕ) (ws vs : List Waiting) (w : Waiting) (e : Formula) → ws ≡ w ∷ vs → closes m w ≡ true
    → unwind m ws e ≡ unwind m vs (filled w e)
innermost_ends m ws vs w e is passes = ap (λ us. unwind m us e) is ∙ ap (λ b. cond b (unwind m vs (filled w e)) (w ∷ vs, e)) passes

pub innermost_stays : (m : ℕ) (ws vs : List Waiting) (w : Waiting) (e : Formula) → ws ≡ w ∷ vs → closes m w ≡ false
    → unwind m ws e ≡ (ws, e)
innermost_stays m ws vs w e is fails =
    ap (λ us. unwind m us e) is ∙ ap (λ b. cond b (unwind m vs (filled w e)) (w ∷ vs, e)) fails
    ∙ sym (ap (λ (us : List Waiting). let it : List Waiting × Formula = (us, e) in it) is)

-- ---- The parts of the loop that ends what ends

pub stays_so : (m : ℕ) (old new : List Waiting) (e : Formula) → new ≡ old → ((x : Formula) → unwind m old x ≡ (old, x))
    → unwind m old e ≡ (new, e)
stays_so m old new e same stops = stops e ∙ sym (ap (λ (us : List Waiting). let it : List Waiting × Formula = (us, e) in it) same)

pub ends_so : (m : ℕ) (old new : List Waiting) (w : Waiting) (e f : Formula) → old ≡ w ∷ new → closes m w ≡ true → f ≡ filled w e
    → unwind m old e ≡ unwind m new f
ends_so m old new w e f is passes put = innermost_ends m old new w e is passes ∙ sym (ap (unwind m new) put)

pub no_elements : (n : ℕ) (ps : List Pending) → n ≡ length ps → n ≡ 0 → ps ≡ []
no_elements n [] is none = refl
no_elements n (p ∷ ps) is none = absurd (omega arith)

pub none_popped : (m : ℕ) (old new : List Pending) → old ≡ new ++ [] → old ≡ [] → IsPopped m (pendings_view old) (pendings_view new) None
none_popped m old new is none =
    let same : new ≡ old = sym (append-nil new) ∙ sym is in
    (ap pendings_view same, λ e. none_ends m old e none)

pub one_popped : (m : ℕ) (old new : List Pending) (p : Pending) → old ≡ new ++ p ∷ [] → closes m (pending_view p) ≡ true
    → IsPopped m (pendings_view old) (pendings_view new) (Some p)
one_popped m old new p is passes = (pushed new old p is, passes)

pub put_back : (m : ℕ) (old mid new : List Pending) (p : Pending) → old ≡ mid ++ p ∷ [] → new ≡ mid ++ p ∷ []
    → closes m (pending_view p) ≡ false
    → IsPopped m (pendings_view old) (pendings_view new) None
put_back m old mid new p is put fails = (
  ap pendings_view (put ∙ sym is),
  λ e. innermost_stays m (pendings_view old) (pendings_view mid) (pending_view p) e (pushed mid old p is) fails,
)
