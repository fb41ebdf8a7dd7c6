-- Not definitions of the subject: what private types stand for, and what private calls return, by
-- the reader of expressions.
use Rattle.std.specs.Prelude.{◌≡◌, ◌⊎◌, ℕ, ◌-◌, List, [], ◌∷◌, ◌++◌, length, true, Option, Some, None, Result, Ok, Err, cond}
use Rattle.gettext_plural.specs.declared.error.FaultKind.{FaultKind}
use Rattle.gettext_plural.specs.declared.error.PluralFormsError as error
use Rattle.gettext_plural.specs.declared.error.PluralFormsError.TheVariants as errors
use Rattle.gettext_plural.specs.declared.error.ReadError.{ReadError}
use Rattle.gettext_plural.specs.declared.error.ReadError.TheVariants as read
use Rattle.gettext_plural.specs.declared.expression.Expression.{Expression}
use Rattle.gettext_plural.specs.declared.forms.PluralForms.{PluralForms}
use Rattle.gettext_plural.specs.declared.pending.Pending.{Pending}
use Rattle.gettext_plural.specs.declared.pending.Pending.TheVariants.{Bracket, Negation, Left, Question, Colon}
use Rattle.gettext_plural.specs.declared.token.Token.{Token}
use Rattle.gettext_plural.specs.PluralTokens.{AreFormulaTokensOf, PassesTokens}
use Rattle.gettext_plural.specs.PluralExpressions.{Formula, Forms}
use Rattle.gettext_plural.specs.PluralHeaders.{header}
use Rattle.gettext_plural.specs.PluralViews.{formula_view, forms_of}
use Rattle.gettext_plural.specs.Inner.PluralMachine.{Waiting, bracket, negation, left_of, question, colon, Stage, expects, has, closes, unwind, stage_step, finish, run_from_stage}
use Rattle.gettext_plural.specs.declared.token.Operator.{Operator}
use Rattle.gettext_plural.specs.declared.token.Operator.TheVariants.{Or, And}
use Rattle.gettext_plural.specs.PluralValues.{is_true}

-- ---- Views

abbrev pub pending_view : Pending → Waiting
pending_view Bracket = bracket
pending_view Negation = negation
pending_view (Left o a) = left_of o (formula_view a)
pending_view (Question a) = question (formula_view a)
pending_view (Colon a b) = colon (formula_view a) (formula_view b)

-- the last comes first
abbrev pub pendings_onto : List Pending → List Waiting → List Waiting
pendings_onto [] ws = ws
pendings_onto (p ∷ ps) ws = pendings_onto ps (pending_view p ∷ ws)

abbrev pub pendings_view : List Pending → List Waiting
pendings_view ps = pendings_onto ps []

abbrev pub stage_view : List Pending → Option Expression → Stage
stage_view ps None = expects (pendings_view ps)
stage_view ps (Some e) = has (pendings_view ps) (formula_view e)

-- ---- What the parts of the reader return

-- the innermost, if it ends before such an operator
abbrev pub IsPopped : ℕ → List Waiting → List Waiting → Option Pending → Type 0
IsPopped m old new None = (new ≡ old) × ((e : Formula) → unwind m old e ≡ (old, e))
IsPopped m old new (Some p) = (old ≡ pending_view p ∷ new) × (closes m (pending_view p) ≡ true)

abbrev pub IsFaultOr : {A : Type 0} → Result A FaultKind → ℕ → ReadError → Type 0
IsFaultOr answer left read.Memory = Unit {0}
IsFaultOr answer left (read.Fault f) = (f.left ≡ left) × (answer ≡ Err f.kind)

-- what a token does, where so many bytes are left
abbrev pub IsStep : Stage → Token → ℕ → List Pending → Result (Option Expression) ReadError → Type 0
IsStep s t left ps (Ok operand) = stage_step s t ≡ Ok (stage_view ps operand)
IsStep s t left ps (Err e) = IsFaultOr (stage_step s t) left e

-- what the end does
abbrev pub IsFinish : Stage → ℕ → Result Expression ReadError → Type 0
IsFinish s left (Ok e) = finish s ≡ Ok (formula_view e)
IsFinish s left (Err e) = IsFaultOr (finish s) left e

-- the reader stops with this fault where so many bytes are left
pub record Stops (text : List ℕ) (kind : FaultKind) (left : ℕ) : Type 0 where
  pub before : List Token
  pub more : List Token
  pub rest : List ℕ
  pub passed : PassesTokens text before rest
  pub remains : left ≡ length rest
  pub there : AreFormulaTokensOf rest more
  pub stops : run_from_stage (expects []) (before ++ more) ≡ Err (kind, more)

-- the reader reads this from the text
abbrev pub ReadsFormula : List ℕ → Formula → Type 0
ReadsFormula text e = (ts : List Token) × AreFormulaTokensOf text ts × (run_from_stage (expects []) ts ≡ Ok e)

-- the text is read up to the rest, which is behind these tokens, and they lead to the stage
pub record HasTaken (text : List ℕ) (s : Stage) (rest : List ℕ) : Type 0 where
  pub tokens : List Token
  pub passes : (more : List Token) (last : List ℕ) → PassesTokens rest more last → PassesTokens text (tokens ++ more) last
  pub leads : (more : List Token) → run_from_stage (expects []) (tokens ++ more) ≡ run_from_stage s more

abbrev pub IsStopped : List ℕ → ReadError → Type 0
IsStopped text read.Memory = Unit {0}
IsStopped text (read.Fault f) = Stops text f.kind f.left

abbrev pub IsFormulaReading : List ℕ → Result Expression ReadError → Type 0
IsFormulaReading text (Ok e) = ReadsFormula text (formula_view e)
IsFormulaReading text (Err e) = IsStopped text e

-- ---- A whole text

pub record HasRead (text : List ℕ) (forms : Forms) : Type 0 where
  pub rest : List ℕ
  pub begins : header text ≡ Ok (forms.count, rest)
  pub reads : ReadsFormula rest forms.formula

pub record StopsBehind (text : List ℕ) (kind : FaultKind) (left : ℕ) : Type 0 where
  pub count : ℕ
  pub rest : List ℕ
  pub begins : header text ≡ Ok (count, rest)
  pub stops : Stops rest kind left

abbrev pub IsParsedError : List ℕ → ReadError → Type 0
IsParsedError text read.Memory = Unit {0}
IsParsedError text (read.Fault f) = (header text ≡ Err f) ⊎ StopsBehind text f.kind f.left

abbrev pub IsParsed : List ℕ → Result PluralForms ReadError → Type 0
IsParsed text (Ok forms) = HasRead text (forms_of forms)
IsParsed text (Err e) = IsParsedError text e

-- the error, with the place of its fault
abbrev pub error_at : List ℕ → ReadError → error.PluralFormsError
error_at text read.Memory = errors.Memory
error_at text (read.Fault f) = errors.Fault f.kind (length text - f.left)

-- ---- when the left operand decides, for a private contract

-- the value of the left operand, else that of both, which it decides
abbrev pub decided_by : Operator → ℕ → Result ℕ (Option ℕ)
decided_by Or x = cond (is_true x) (Err (Some 1)) (Ok x)
decided_by And x = cond (is_true x) (Ok x) (Err (Some 0))
decided_by o x = Ok x

abbrev pub decided : Operator → Option ℕ → Result ℕ (Option ℕ)
decided o None = Err None
decided o (Some x) = decided_by o x
