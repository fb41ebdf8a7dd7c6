-- What is read is what the grammar spells.
use Rattle.std.proofs.Common.{◌≡◌, ℕ, suc, ◌≤◌, List, [], ◌∷◌, ◌++◌, Result, Ok, Err, refl, sym, ap, ◌∙◌, subst, ⊎_elim, arith, append_assoc}
use Rattle.std.proofs.lemmas.List.{append-nil}
use Rattle.std.proofs.lemmas.Bool.{cases_lt}
use Rattle.gettext_plural.specs.declared.error.FaultKind.{FaultKind}
use Rattle.gettext_plural.specs.declared.token.Operator.{Operator}
use Rattle.gettext_plural.specs.declared.token.Token.{Token}
use Rattle.gettext_plural.specs.declared.token.Token.TheVariants.{Number, N, Not, Joint, Question, Colon, Open, Close, Junk}
use Rattle.gettext_plural.specs.PluralExpressions.{Formula, negated, joined, chosen, binding}
use Rattle.gettext_plural.specs.PluralExpressions.{Spells, spells_number, spells_n, spells_brackets, spells_negation, spells_join, spells_choice}
use Rattle.gettext_plural.specs.Inner.PluralMachine.{Waiting, bracket, negation, left_of, question, colon, Stage, expects, has, unwind, stage_step, whole, finish, ended, proceed_from_stage, run_from_stage, colon_stage, close_stage}
use Rattle.gettext_plural.proofs.Levels.{binding_low, binding_high, loosened, left_ends, left_stays, colon_ends, colon_stays}

-- the level of the operand that what waits expects
abbrev pub needed : List Waiting → ℕ
needed [] = 0
needed (bracket ∷ ws) = 0
needed (negation ∷ ws) = 7
needed (left_of o a ∷ ws) = suc (binding o)
needed (question a ∷ ws) = 0
needed (colon a b ∷ ws) = 0

-- the tokens spell what waits
abbrev pub Waits : List Waiting → List Token → Type 0
Waits [] before = before ≡ []
Waits (bracket ∷ ws) before = (ts : List Token) × (before ≡ ts ++ Open ∷ []) × Waits ws ts
Waits (negation ∷ ws) before = (ts : List Token) × (before ≡ ts ++ Not ∷ []) × Waits ws ts
Waits (left_of o a ∷ ws) before =
    (ts : List Token) × (us : List Token) × (before ≡ ts ++ (us ++ Joint o ∷ [])) × Waits ws ts × Spells (binding o) us a
    × (needed ws ≤ binding o)
Waits (question a ∷ ws) before =
    (ts : List Token) × (us : List Token) × (before ≡ ts ++ (us ++ Question ∷ [])) × Waits ws ts × Spells 1 us a × (needed ws ≤ 0)
Waits (colon a b ∷ ws) before =
    (ts : List Token) × (us : List Token) × (vs : List Token) × (before ≡ ts ++ (us ++ Question ∷ (vs ++ Colon ∷ [])))
    × Waits ws ts × Spells 1 us a × Spells 0 vs b × (needed ws ≤ 0)

-- what waits never expects more than an operand of `!`
needed_high : (ws : List Waiting) → needed ws ≤ 7
needed_high [] = omega arith
needed_high (bracket ∷ ws) = omega arith
needed_high (negation ∷ ws) = omega arith
needed_high (left_of o a ∷ ws) = let high = binding_high o in omega arith
needed_high (question a ∷ ws) = omega arith
needed_high (colon a b ∷ ws) = omega arith

-- no operator expects an operand at level 1
needed_none : (ws : List Waiting) → needed ws ≤ 1 → needed ws ≤ 0
needed_none [] le = omega arith
needed_none (bracket ∷ ws) le = omega arith
needed_none (negation ∷ ws) le = absurd (omega arith)
needed_none (left_of o a ∷ ws) le = let low = binding_low o in absurd (omega arith)
needed_none (question a ∷ ws) le = omega arith
needed_none (colon a b ∷ ws) le = omega arith

-- what is left before an operator: what waits still, and its operand, which all tokens spell
pub record Unwound (m : ℕ) (ws : List Waiting) (e : Formula) (all : List Token) : Type 0 where
  pub before : List Token
  pub behind : List Token
  pub parts : all ≡ before ++ behind
  pub waits : Waits ws before
  pub spelled : Spells m behind e
  pub within : needed ws ≤ m

-- nothing ends
stays : (m l : ℕ) (ws : List Waiting) (e : Formula) (before us : List Token) → m ≤ l → needed ws ≤ m → Waits ws before → Spells l us e
    → unwind m ws e ≡ (ws, e) → Unwound m (unwind m ws e).0 (unwind m ws e).1 (before ++ us)
stays m l ws e before us le within waits s is =
    let P : List Waiting × Formula → Type 0 = λ it. Unwound m it.0 it.1 (before ++ us) in
    subst P (sym is) (record {
      before = before;
      behind = us;
      parts = refl;
      waits = waits;
      spelled = loosened l m us e le s;
      within = within;
    })

-- the innermost ends
ends : (m : ℕ) (ws vs : List Waiting) (e f : Formula) (all others : List Token) → unwind m ws e ≡ unwind m vs f → others ≡ all
    → Unwound m (unwind m vs f).0 (unwind m vs f).1 others → Unwound m (unwind m ws e).0 (unwind m ws e).1 all
ends m ws vs e f all others is same u =
    let P : List Waiting × Formula → Type 0 = λ it. Unwound m it.0 it.1 all in
    let Q : List Token → Type 0 = λ ts. Unwound m (unwind m vs f).0 (unwind m vs f).1 ts in
    subst P (sym is) (subst Q same u)

-- tokens in another grouping
regroup_two : (ts us vs : List Token) (t : Token) (before : List Token) → before ≡ ts ++ (us ++ t ∷ [])
    → ts ++ (us ++ t ∷ vs) ≡ before ++ vs
regroup_two ts us vs t before is =
    let flat : (ts ++ (us ++ t ∷ [])) ++ vs ≡ ts ++ (us ++ t ∷ vs) = simp append_assoc in
    sym flat ∙ ap (λ x. x ++ vs) (sym is)

regroup_three : (ts us vs ws : List Token) (t u : Token) (before : List Token) → before ≡ ts ++ (us ++ t ∷ (vs ++ u ∷ []))
    → ts ++ (us ++ t ∷ (vs ++ u ∷ ws)) ≡ before ++ ws
regroup_three ts us vs ws t u before is =
    let flat : (ts ++ (us ++ t ∷ (vs ++ u ∷ []))) ++ ws ≡ ts ++ (us ++ t ∷ (vs ++ u ∷ ws)) = simp append_assoc in
    sym flat ∙ ap (λ x. x ++ ws) (sym is)

regroup_one : (ts vs : List Token) (t : Token) (before : List Token) → before ≡ ts ++ t ∷ [] → ts ++ t ∷ vs ≡ before ++ vs
regroup_one ts vs t before is = sym (append_assoc ts (t ∷ []) vs) ∙ ap (λ x. x ++ vs) (sym is)

pub unwound : (m l : ℕ) (ws : List Waiting) (e : Formula) (before us : List Token) → m ≤ 6 → m ≤ l → needed ws ≤ l → Waits ws before
    → Spells l us e
    → Unwound m (unwind m ws e).0 (unwind m ws e).1 (before ++ us)
unwound m l [] e before us most le within waits s = stays m l [] e before us le (omega arith) waits s refl
unwound m l (bracket ∷ ws) e before us most le within waits s = stays m l (bracket ∷ ws) e before us le (omega arith) waits s refl
unwound m l (question a ∷ ws) e before us most le within waits s = stays m l (question a ∷ ws) e before us le (omega arith) waits s refl
unwound m l (negation ∷ ws) e before us most le within waits s =
    let u = unwound m 7 ws (negated e) waits.0 (Not ∷ us) most (omega arith) (needed_high ws) waits.2
    (spells_negation us e (loosened l 7 us e within s)) in
    ends m (negation ∷ ws) ws e (negated e) (before ++ us) (waits.0 ++ Not ∷ us) refl (regroup_one waits.0 us Not before waits.1) u
unwound m l (left_of o a ∷ ws) e before us most le within waits s =
    ⊎_elim
    (λ lt. stays m l (left_of o a ∷ ws) e before us le (omega arith) waits s (left_stays m o a ws e lt))
    (λ ge.
    let t = spells_join o waits.1 us a e waits.4 (loosened l (suc (binding o)) us e within s) in
    let u = unwound m (binding o) ws (joined o a e) waits.0 (waits.1 ++ Joint o ∷ us) most ge waits.5 waits.3 t in
    ends m (left_of o a ∷ ws) ws e (joined o a e) (before ++ us) (waits.0 ++ (waits.1 ++ Joint o ∷ us)) (left_ends m o a ws e ge)
    (regroup_two waits.0 waits.1 us (Joint o) before waits.2) u)
    (cases_lt (binding o) m)
unwound m l (colon a b ∷ ws) e before us most le within waits s =
    ⊎_elim
    (λ lt. stays m l (colon a b ∷ ws) e before us le (omega arith) waits s (colon_stays m a b ws e (omega arith)))
    (λ ge.
    let t = spells_choice waits.1 waits.2 us a b e waits.5 waits.6 (loosened l 0 us e (omega arith) s) in
    let u = unwound m 0 ws (chosen a b e) waits.0 (waits.1 ++ Question ∷ (waits.2 ++ Colon ∷ us)) most ge waits.7 waits.4 t in
    ends m (colon a b ∷ ws) ws e (chosen a b e) (before ++ us) (waits.0 ++ (waits.1 ++ Question ∷ (waits.2 ++ Colon ∷ us)))
    (colon_ends m a b ws e ge)
    (regroup_three waits.0 waits.1 waits.2 us Question Colon before waits.3) u)
    (cases_lt 0 m)

-- the tokens spell what was read: what waits, and its operand, at the level of one without operators
abbrev pub IsAt : Stage → List Token → Type 0
IsAt (expects ws) before = Waits ws before
IsAt (has ws e) before = (ts : List Token) × (us : List Token) × (before ≡ ts ++ us) × Waits ws ts × Spells 8 us e

-- of an answer without a fault
abbrev pub IfStage : Result Stage FaultKind → (Stage → Type 0) → Type 0
IfStage (Ok s) P = P s
IfStage (Err kind) P = Unit {0}

-- what is left of an operand before an operator
left_before : (m : ℕ) (ws : List Waiting) (e : Formula) (before ts us : List Token) → m ≤ 6 → before ≡ ts ++ us → Waits ws ts
    → Spells 8 us e
    → Unwound m (unwind m ws e).0 (unwind m ws e).1 before
left_before m ws e before ts us most parts waits s =
    let high = needed_high ws in
    let u = unwound m 8 ws e ts us most (omega arith) (omega arith) waits s in
    let Q : List Token → Type 0 = λ all. Unwound m (unwind m ws e).0 (unwind m ws e).1 all in
    subst Q (sym parts) u

with_next : (ts us all : List Token) (t : Token) → all ≡ ts ++ us → all ++ t ∷ [] ≡ ts ++ (us ++ t ∷ [])
with_next ts us all t is = ap (λ x. x ++ t ∷ []) is ∙ append_assoc ts us (t ∷ [])

colon_sound : (ws : List Waiting) (e : Formula) (all : List Token) → Unwound 0 ws e all
    → IfStage (colon_stage ws e) (λ s. IsAt s (all ++ Colon ∷ []))
colon_sound [] e all u = tt
colon_sound (bracket ∷ ws) e all u = tt
colon_sound (negation ∷ ws) e all u = tt
colon_sound (left_of o a ∷ ws) e all u = tt
colon_sound (colon a b ∷ ws) e all u = tt
colon_sound (question a ∷ ws) e all u =
    let w = u.waits in (
      w.0,
      w.1,
      u.behind,
      with_next u.before u.behind all Colon u.parts
          ∙ sym (regroup_two w.0 w.1 (u.behind ++ Colon ∷ []) Question u.before w.2),
      w.3,
      w.4,
      u.spelled,
      w.5,
    )

close_sound : (ws : List Waiting) (e : Formula) (all : List Token) → Unwound 0 ws e all
    → IfStage (close_stage ws e) (λ s. IsAt s (all ++ Close ∷ []))
close_sound [] e all u = tt
close_sound (negation ∷ ws) e all u = tt
close_sound (left_of o a ∷ ws) e all u = tt
close_sound (question a ∷ ws) e all u = tt
close_sound (colon a b ∷ ws) e all u = tt
close_sound (bracket ∷ ws) e all u =
    let w = u.waits in (
      w.0,
      Open ∷ (u.behind ++ Close ∷ []),
      with_next u.before u.behind all Close u.parts
          ∙ sym (regroup_one w.0 (u.behind ++ Close ∷ []) Open u.before w.1),
      w.2,
      spells_brackets u.behind e u.spelled,
    )

operator_sound : (o : Operator) (ws : List Waiting) (e : Formula) (all : List Token) → Unwound (binding o) ws e all
    → Waits (left_of o e ∷ ws) (all ++ Joint o ∷ [])
operator_sound o ws e all u = (u.before, u.behind, with_next u.before u.behind all (Joint o) u.parts, u.waits, u.spelled, u.within)

question_sound : (ws : List Waiting) (e : Formula) (all : List Token) → Unwound 1 ws e all → Waits (question e ∷ ws) (all ++ Question ∷ [])
question_sound ws e all u =
    (u.before, u.behind, with_next u.before u.behind all Question u.parts, u.waits, u.spelled, needed_none ws u.within)

begin_sound : (ws : List Waiting) (before : List Token) (t : Token) → Waits ws before
    → IfStage (stage_step (expects ws) t) (λ s. IsAt s (before ++ t ∷ []))
begin_sound ws before (Number k) w = (before, Number k ∷ [], refl, w, spells_number k)
begin_sound ws before N w = (before, N ∷ [], refl, w, spells_n)
begin_sound ws before Not w = (before, refl, w)
begin_sound ws before Open w = (before, refl, w)
begin_sound ws before (Joint o) w = tt
begin_sound ws before Question w = tt
begin_sound ws before Colon w = tt
begin_sound ws before Close w = tt
begin_sound ws before Junk w = tt

follow_sound : (ws : List Waiting) (e : Formula) (before : List Token) (t : Token) → IsAt (has ws e) before
    → IfStage (stage_step (has ws e) t) (λ s. IsAt s (before ++ t ∷ []))
follow_sound ws e before (Joint o) at =
    operator_sound o (unwind (binding o) ws e).0 (unwind (binding o) ws e).1 before
    (left_before (binding o) ws e before at.0 at.1 (binding_high o) at.2 at.3 at.4)
follow_sound ws e before Question at =
    question_sound (unwind 1 ws e).0 (unwind 1 ws e).1 before (left_before 1 ws e before at.0 at.1 (omega arith) at.2 at.3 at.4)
follow_sound ws e before Colon at =
    colon_sound (unwind 0 ws e).0 (unwind 0 ws e).1 before (left_before 0 ws e before at.0 at.1 (omega arith) at.2 at.3 at.4)
follow_sound ws e before Close at =
    close_sound (unwind 0 ws e).0 (unwind 0 ws e).1 before (left_before 0 ws e before at.0 at.1 (omega arith) at.2 at.3 at.4)
follow_sound ws e before (Number k) at = tt
follow_sound ws e before N at = tt
follow_sound ws e before Not at = tt
follow_sound ws e before Open at = tt
follow_sound ws e before Junk at = tt

-- a token leads to what the tokens with it spell
pub step_sound : (s : Stage) (before : List Token) (t : Token) → IsAt s before → IfStage (stage_step s t) (λ next. IsAt next (before ++ t ∷ []))
step_sound (expects ws) before t at = begin_sound ws before t at
step_sound (has ws e) before t at = follow_sound ws e before t at

whole_sound : (ws : List Waiting) (e f : Formula) (all : List Token) → Unwound 0 ws e all → whole ws e ≡ Ok f → Spells 0 all f
whole_sound [] e f all u is =
    let same : e ≡ f = cc in
    let parts : u.behind ≡ all = sym (u.parts ∙ ap (λ x. x ++ u.behind) u.waits) in
    let P : List Token → Type 0 = λ ts. Spells 0 ts e in
    let Q : Formula → Type 0 = λ x. Spells 0 all x in
    subst Q same (subst P parts u.spelled)
whole_sound (w ∷ ws) e f all u is = absurd cc

-- what ends is what the tokens spell
pub finish_sound : (s : Stage) (before : List Token) (e : Formula) → IsAt s before → finish s ≡ Ok e → Spells 0 before e
finish_sound (expects ws) before e at is = absurd cc
finish_sound (has ws a) before e at is =
    whole_sound (unwind 0 ws a).0 (unwind 0 ws a).1 e before (left_before 0 ws a before at.0 at.1 (omega arith) at.2 at.3 at.4) is

ended_sound : (r : Result Formula FaultKind) (e : Formula) → ended r ≡ Ok e → r ≡ Ok e
ended_sound (Ok a) e is = cc
ended_sound (Err kind) e is = absurd cc

-- behind a token, as behind the tokens with it
goes_on : (ts before : List Token) (t : Token) (e : Formula)
    → ((next : Stage) → IsAt next (before ++ t ∷ []) → run_from_stage next ts ≡ Ok e → Spells 0 ((before ++ t ∷ []) ++ ts) e)
    → (r : Result Stage FaultKind) → IfStage r (λ next. IsAt next (before ++ t ∷ [])) → proceed_from_stage (t ∷ ts) r (λ next. run_from_stage next ts) ≡ Ok e
    → Spells 0 (before ++ t ∷ ts) e
goes_on ts before t e behind (Ok next) held is =
    let P : List Token → Type 0 = λ all. Spells 0 all e in
    subst P (append_assoc before (t ∷ []) ts) (behind next held is)
goes_on ts before t e behind (Err kind) held is = absurd cc

-- what is read is spelled by the tokens
pub run_sound : (ts : List Token) (s : Stage) (before : List Token) (e : Formula) → IsAt s before → run_from_stage s ts ≡ Ok e
    → Spells 0 (before ++ ts) e
unfolding run_from_stage
run_sound [] s before e at is =
    let P : List Token → Type 0 = λ all. Spells 0 all e in
    subst P (sym (append-nil before)) (finish_sound s before e at (ended_sound (finish s) e is))
run_sound (t ∷ ts) s before e at is =
    goes_on ts before t e (λ next held eq. run_sound ts next (before ++ t ∷ []) e held eq) (stage_step s t) (step_sound s before t at) is
