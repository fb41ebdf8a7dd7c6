-- Where the reader stops, the tokens before it are those of the beginning of an expression, and with
-- the next one they are not.
use Rattle.std.proofs.Common.{◌≡◌, List, [], ◌∷◌, ◌++◌, true, false, cond, Result, Ok, Err, refl, sym, ap, ◌∙◌, subst, arith, append_assoc}
use Rattle.std.proofs.lemmas.List.{append-nil}
use Rattle.gettext_plural.specs.declared.error.FaultKind.{FaultKind}
use Rattle.gettext_plural.specs.declared.error.FaultKind.TheVariants.{ExpectedOperand, ExpectedOperator, Unfinished}
use Rattle.gettext_plural.specs.declared.token.Token.{Token}
use Rattle.gettext_plural.specs.declared.token.Token.TheVariants.{Number, N, Not, Joint, Question, Colon, Open, Close, Junk}
use Rattle.gettext_plural.specs.PluralExpressions.{Formula, the_n, negated, joined, chosen}
use Rattle.gettext_plural.specs.PluralAnswers.{BeginsExpression, NoneGoesOn, behind_operand, end_in_operand, ends_operand, missing}
use Rattle.gettext_plural.specs.Inner.PluralMachine.{Waiting, bracket, negation, left_of, question, colon, FormulaOutcome, Stage, expects, has, unwind, stage_step, whole, finish, finished, ended, coloned, bracket_closed, proceed_from_stage, run_from_stage, colon_stage, close_stage}
use Rattle.gettext_plural.proofs.Levels.{left_ends}
use Rattle.gettext_plural.proofs.MachineComplete.{read_whole}
use Rattle.gettext_plural.proofs.MachineSound.{IfStage, run_sound}

-- ---- What was read can be completed

-- tokens that complete it: what waits is ended with `)`, or with `:` and `n`
record Completes (ws : List Waiting) (e : Formula) : Type 0 where
  behind : List Token
  formula : Formula
  runs : (held : List Waiting) (a : Formula) → unwind 0 held a ≡ unwind 0 ws e → run_from_stage (has held a) behind ≡ Ok formula

completes : (ws : List Waiting) (e : Formula) → Completes ws e
unfolding run_from_stage
completes [] e = record { behind = []; formula = e; runs = λ held a is. ap (λ it. ended (finished it)) is }
completes (bracket ∷ ws) e =
    let c = completes ws e in
    record {
      behind = Close ∷ c.behind;
      formula = c.formula;
      runs = λ held a is. ap (λ it. proceed_from_stage (Close ∷ c.behind) (bracket_closed it) (λ next. run_from_stage next c.behind)) is ∙ c.runs ws e refl;
    }
completes (negation ∷ ws) e = let c = completes ws (negated e) in record { behind = c.behind; formula = c.formula; runs = c.runs }
completes (left_of o b ∷ ws) e =
    let c = completes ws (joined o b e) in
    record { behind = c.behind; formula = c.formula; runs = λ held a is. c.runs held a (is ∙ left_ends 0 o b ws e (omega arith)) }
completes (question b ∷ ws) e =
    let c = completes ws (chosen b e the_n) in
    record {
      behind = Colon ∷ N ∷ c.behind;
      formula = c.formula;
      runs = λ held a is.
          ap (λ it. proceed_from_stage (Colon ∷ N ∷ c.behind) (coloned it) (λ next. run_from_stage next (N ∷ c.behind))) is
          ∙ c.runs (colon b e ∷ ws) the_n refl;
    }
completes (colon b d ∷ ws) e = let c = completes ws (chosen b d e) in record { behind = c.behind; formula = c.formula; runs = c.runs }

-- so every stage is completed
record Ended (s : Stage) : Type 0 where
  behind : List Token
  formula : Formula
  runs : run_from_stage s behind ≡ Ok formula

all_end : (s : Stage) → Ended s
unfolding run_from_stage
all_end (has ws e) = let c = completes ws e in record { behind = c.behind; formula = c.formula; runs = c.runs ws e refl }
all_end (expects ws) = let c = completes ws the_n in record { behind = N ∷ c.behind; formula = c.formula; runs = c.runs ws the_n refl }

-- ---- Whether an operand was read last

abbrev Agrees : Stage → List Token → Type 0
Agrees (expects ws) before = end_in_operand before ≡ false
Agrees (has ws e) before = end_in_operand before ≡ true

end_at : (before : List Token) (t : Token) → end_in_operand (before ++ t ∷ []) ≡ ends_operand t
end_at [] t = refl
end_at (u ∷ []) t = refl
end_at (u ∷ v ∷ before) t = end_at (v ∷ before) t

colon_agrees : (ws : List Waiting) (e : Formula) (all : List Token) → end_in_operand all ≡ false
    → IfStage (colon_stage ws e) (λ s. Agrees s all)
colon_agrees [] e all is = tt
colon_agrees (bracket ∷ ws) e all is = tt
colon_agrees (negation ∷ ws) e all is = tt
colon_agrees (left_of o a ∷ ws) e all is = tt
colon_agrees (question a ∷ ws) e all is = is
colon_agrees (colon a b ∷ ws) e all is = tt

close_agrees : (ws : List Waiting) (e : Formula) (all : List Token) → end_in_operand all ≡ true
    → IfStage (close_stage ws e) (λ s. Agrees s all)
close_agrees [] e all is = tt
close_agrees (bracket ∷ ws) e all is = is
close_agrees (negation ∷ ws) e all is = tt
close_agrees (left_of o a ∷ ws) e all is = tt
close_agrees (question a ∷ ws) e all is = tt
close_agrees (colon a b ∷ ws) e all is = tt

step_agrees : (s : Stage) (before : List Token) (t : Token) → IfStage (stage_step s t) (λ next. Agrees next (before ++ t ∷ []))
step_agrees (expects ws) before (Number k) = end_at before (Number k)
step_agrees (expects ws) before N = end_at before N
step_agrees (expects ws) before Not = end_at before Not
step_agrees (expects ws) before Open = end_at before Open
step_agrees (expects ws) before (Joint o) = tt
step_agrees (expects ws) before Question = tt
step_agrees (expects ws) before Colon = tt
step_agrees (expects ws) before Close = tt
step_agrees (expects ws) before Junk = tt
step_agrees (has ws e) before (Joint o) = end_at before (Joint o)
step_agrees (has ws e) before Question = end_at before Question
step_agrees (has ws e) before Colon = colon_agrees (unwind 0 ws e).0 (unwind 0 ws e).1 (before ++ Colon ∷ []) (end_at before Colon)
step_agrees (has ws e) before Close = close_agrees (unwind 0 ws e).0 (unwind 0 ws e).1 (before ++ Close ∷ []) (end_at before Close)
step_agrees (has ws e) before (Number k) = tt
step_agrees (has ws e) before N = tt
step_agrees (has ws e) before Not = tt
step_agrees (has ws e) before Open = tt
step_agrees (has ws e) before Junk = tt

-- ---- Where the reader stops

-- what follows has this fault at the stage
abbrev FailsAt : Stage → FaultKind → List Token → Type 0
FailsAt s kind [] = finish s ≡ Err kind
FailsAt s kind (t ∷ more) = stage_step s t ≡ Err kind

record Failing (s : Stage) (before ts : List Token) (kind : FaultKind) (more : List Token) : Type 0 where
  mid : List Token
  last : Stage
  parts : ts ≡ mid ++ more
  leads : (behind : List Token) → run_from_stage s (mid ++ behind) ≡ run_from_stage last behind
  fails : FailsAt last kind more
  agrees : Agrees last (before ++ mid)

fails_here : (s : Stage) (before ts : List Token) (kind : FaultKind) (more : List Token) → Agrees s before → ts ≡ more
    → FailsAt s kind ts → Failing s before ts kind more
fails_here s before ts kind more agrees is fails =
    let P : List Token → Type 0 = λ all. FailsAt s kind all in
    let Q : List Token → Type 0 = λ all. Agrees s all in
    record {
      mid = [];
      last = s;
      parts = is;
      leads = λ behind. refl;
      fails = subst P is fails;
      agrees = subst Q (sym (append-nil before)) agrees;
    }

at_the_end : (s : Stage) (before : List Token) (kind : FaultKind) (more : List Token) → Agrees s before → (r : Result Formula FaultKind)
    → finish s ≡ r
    → ended r ≡ Err (kind, more) → Failing s before [] kind more
at_the_end s before kind more agrees (Ok e) eq is = absurd cc
at_the_end s before kind more agrees (Err k) eq is =
    let A : Type 0 = FaultKind × List Token in
    let first : A = (k, []) in
    let second : A = (kind, more) in
    let pair : first ≡ second = cc in
    let same : [] ≡ more = ap (λ (it : FaultKind × List Token). it.1) pair in
    let alike : k ≡ kind = ap (λ (it : FaultKind × List Token). it.0) pair in
    fails_here s before [] kind more agrees same (eq ∙ ap Err alike)

behind_token : (s : Stage) (before ts : List Token) (t : Token) (kind : FaultKind) (more : List Token) → Agrees s before
    → ((next : Stage) → Agrees next (before ++ t ∷ []) → run_from_stage next ts ≡ Err (kind, more) → Failing next (before ++ t ∷ []) ts kind more)
    → (r : Result Stage FaultKind) → stage_step s t ≡ r → IfStage r (λ next. Agrees next (before ++ t ∷ []))
    → proceed_from_stage (t ∷ ts) r (λ next. run_from_stage next ts) ≡ Err (kind, more) → Failing s before (t ∷ ts) kind more
unfolding run_from_stage
behind_token s before ts t kind more agrees behind (Ok next) eq held is =
    let f = behind next held is in
    let Q : List Token → Type 0 = λ all. Agrees f.last all in
    record {
      mid = t ∷ f.mid;
      last = f.last;
      parts = ap (λ x. t ∷ x) f.parts;
      leads = λ more_behind. ap (λ r. proceed_from_stage (t ∷ (f.mid ++ more_behind)) r (λ n. run_from_stage n (f.mid ++ more_behind))) eq ∙ f.leads more_behind;
      fails = f.fails;
      agrees = subst Q (append_assoc before (t ∷ []) f.mid) f.agrees;
    }
behind_token s before ts t kind more agrees behind (Err k) eq held is =
    let A : Type 0 = FaultKind × List Token in
    let first : A = (k, t ∷ ts) in
    let second : A = (kind, more) in
    let pair : first ≡ second = cc in
    let same : (t ∷ ts) ≡ more = ap (λ (it : FaultKind × List Token). it.1) pair in
    let alike : k ≡ kind = ap (λ (it : FaultKind × List Token). it.0) pair in
    fails_here s before (t ∷ ts) kind more agrees same (eq ∙ ap Err alike)

failing : (ts : List Token) (s : Stage) (before : List Token) (kind : FaultKind) (more : List Token) → Agrees s before
    → run_from_stage s ts ≡ Err (kind, more) → Failing s before ts kind more
unfolding run_from_stage
failing [] s before kind more agrees is = at_the_end s before kind more agrees (finish s) refl is
failing (t ∷ ts) s before kind more agrees is =
    behind_token s before ts t kind more agrees (λ next held eq. failing ts next (before ++ t ∷ []) kind more held eq)
    (stage_step s t) refl (step_agrees s before t) is

-- ---- The kind

colon_kind : (ws : List Waiting) (e : Formula) (kind : FaultKind) → colon_stage ws e ≡ Err kind → kind ≡ ExpectedOperator
colon_kind [] e kind is = cc
colon_kind (bracket ∷ ws) e kind is = cc
colon_kind (negation ∷ ws) e kind is = cc
colon_kind (left_of o a ∷ ws) e kind is = cc
colon_kind (question a ∷ ws) e kind is = absurd cc
colon_kind (colon a b ∷ ws) e kind is = cc

close_kind : (ws : List Waiting) (e : Formula) (kind : FaultKind) → close_stage ws e ≡ Err kind → kind ≡ ExpectedOperator
close_kind [] e kind is = cc
close_kind (bracket ∷ ws) e kind is = absurd cc
close_kind (negation ∷ ws) e kind is = cc
close_kind (left_of o a ∷ ws) e kind is = cc
close_kind (question a ∷ ws) e kind is = cc
close_kind (colon a b ∷ ws) e kind is = cc

whole_kind : (ws : List Waiting) (e : Formula) (kind : FaultKind) → whole ws e ≡ Err kind → kind ≡ Unfinished
whole_kind [] e kind is = absurd cc
whole_kind (w ∷ ws) e kind is = cc

begin_kind : (ws : List Waiting) (t : Token) (kind : FaultKind) → stage_step (expects ws) t ≡ Err kind → kind ≡ ExpectedOperand
begin_kind ws (Number k) kind is = absurd cc
begin_kind ws N kind is = absurd cc
begin_kind ws Not kind is = absurd cc
begin_kind ws Open kind is = absurd cc
begin_kind ws (Joint o) kind is = cc
begin_kind ws Question kind is = cc
begin_kind ws Colon kind is = cc
begin_kind ws Close kind is = cc
begin_kind ws Junk kind is = cc

follow_kind : (ws : List Waiting) (e : Formula) (t : Token) (kind : FaultKind) → stage_step (has ws e) t ≡ Err kind → kind ≡ ExpectedOperator
follow_kind ws e (Joint o) kind is = absurd cc
follow_kind ws e Question kind is = absurd cc
follow_kind ws e Colon kind is = colon_kind (unwind 0 ws e).0 (unwind 0 ws e).1 kind is
follow_kind ws e Close kind is = close_kind (unwind 0 ws e).0 (unwind 0 ws e).1 kind is
follow_kind ws e (Number k) kind is = cc
follow_kind ws e N kind is = cc
follow_kind ws e Not kind is = cc
follow_kind ws e Open kind is = cc
follow_kind ws e Junk kind is = cc

kind_of : (s : Stage) (before more : List Token) (kind : FaultKind) → Agrees s before → FailsAt s kind more → kind ≡ missing before more
kind_of (expects ws) before [] kind agrees fails =
    let told : kind ≡ ExpectedOperand = cc in
    told ∙ sym (ap (λ b. cond b (behind_operand []) ExpectedOperand) agrees)
kind_of (expects ws) before (t ∷ more) kind agrees fails =
    begin_kind ws t kind fails ∙ sym (ap (λ b. cond b (behind_operand (t ∷ more)) ExpectedOperand) agrees)
kind_of (has ws e) before [] kind agrees fails =
    whole_kind (unwind 0 ws e).0 (unwind 0 ws e).1 kind fails ∙ sym (ap (λ b. cond b (behind_operand []) ExpectedOperand) agrees)
kind_of (has ws e) before (t ∷ more) kind agrees fails =
    follow_kind ws e t kind fails ∙ sym (ap (λ b. cond b (behind_operand (t ∷ more)) ExpectedOperand) agrees)

-- ---- The first fault

none_goes_on : (before more : List Token) (kind : FaultKind) (last : Stage)
    → ((behind : List Token) → run_from_stage (expects []) (before ++ behind) ≡ run_from_stage last behind)
    → FailsAt last kind more → NoneGoesOn before more
unfolding run_from_stage
none_goes_on before [] kind last leads fails = λ e s.
    let whole_is : run_from_stage (expects []) before ≡ Ok e = read_whole before e s in
    let same : run_from_stage (expects []) (before ++ []) ≡ run_from_stage (expects []) before = ap (run_from_stage (expects [])) (append-nil before) in
    let here : run_from_stage (expects []) (before ++ []) ≡ ended (finish last) = leads [] in
    let fault : ended (finish last) ≡ ended (Err kind) = ap ended fails in
    let good : FormulaOutcome = Ok e in
    let bad : FormulaOutcome = ended (Err kind) in
    let clash : good ≡ bad = sym whole_is ∙ sym same ∙ here ∙ fault in
    absurd cc
none_goes_on before (t ∷ more) kind last leads fails = λ behind e s.
    let whole_is : run_from_stage (expects []) (before ++ t ∷ behind) ≡ Ok e = read_whole (before ++ t ∷ behind) e s in
    let here : run_from_stage (expects []) (before ++ t ∷ behind) ≡ run_from_stage last (t ∷ behind) = leads (t ∷ behind) in
    let fault : run_from_stage last (t ∷ behind) ≡ Err (kind, t ∷ behind) = ap (λ r. proceed_from_stage (t ∷ behind) r (λ next. run_from_stage next behind)) fails in
    let good : FormulaOutcome = Ok e in
    let bad : FormulaOutcome = Err (kind, t ∷ behind) in
    let clash : good ≡ bad = sym whole_is ∙ here ∙ fault in
    absurd cc

-- where the reader stops is the first fault
pub record IsFirst (all : List Token) (kind : FaultKind) (more : List Token) : Type 0 where
  pub before : List Token
  pub parts : all ≡ before ++ more
  pub begins : BeginsExpression before
  pub stops : NoneGoesOn before more
  pub kind_is : kind ≡ missing before more

pub is_first : (all : List Token) (kind : FaultKind) (more : List Token) → run_from_stage (expects []) all ≡ Err (kind, more) → IsFirst all kind more
is_first all kind more is =
    let f : Failing (expects []) [] all kind more = failing all (expects []) [] kind more refl is in
    let e : Ended f.last = all_end f.last in
    record {
      before = f.mid;
      parts = f.parts;
      begins = record {
        behind = e.behind;
        formula = e.formula;
        spelled = run_sound (f.mid ++ e.behind) (expects []) [] e.formula refl (f.leads e.behind ∙ e.runs);
      };
      stops = none_goes_on f.mid more kind f.last f.leads f.fails;
      kind_is = kind_of f.last f.mid more kind f.agrees f.fails;
    }
