-- Not a definition of the subject: a reader of expressions, token by token, for private contracts.
-- That it reads what the grammar says is proved.
use Rattle.std.specs.Prelude.{ℕ, List, [], ◌∷◌, Bool, true, false, cond, nat_eq, nat_le, Option, Some, None, Result, Ok, Err}
use Rattle.gettext_plural.specs.declared.error.FaultKind.{FaultKind}
use Rattle.gettext_plural.specs.declared.error.FaultKind.TheVariants.{ExpectedOperand, ExpectedOperator, Unfinished}
use Rattle.gettext_plural.specs.declared.token.Operator.{Operator}
use Rattle.gettext_plural.specs.declared.token.Token.{Token}
use Rattle.gettext_plural.specs.declared.token.Token.TheVariants.{Number, N, Not, Joint, Question, Colon, Open, Close}
use Rattle.gettext_plural.specs.PluralExpressions.{Formula, number, the_n, negated, joined, chosen, binding}

-- what waits for an operand: a bracket, or an operator with the operands before it
pub data Waiting : Type 0 where
  bracket : Waiting
  negation : Waiting
  left_of : Operator → Formula → Waiting
  question : Formula → Waiting
  colon : Formula → Formula → Waiting

-- what was read: what waits, the innermost first, and the operand behind it, unless one is expected
pub data Stage : Type 0 where
  expects : List Waiting → Stage
  has : List Waiting → Formula → Stage

-- it ends before an operator that binds so much: at 0, before `:`, `)` or the end
abbrev pub closes : ℕ → Waiting → Bool
closes m bracket = false
closes m negation = true
closes m (left_of o a) = nat_le m (binding o)
closes m (question a) = false
closes m (colon a b) = nat_eq m 0

-- with its last operand
abbrev pub filled : Waiting → Formula → Formula
filled bracket e = e
filled negation e = negated e
filled (left_of o a) e = joined o a e
filled (question a) e = e
filled (colon a b) e = chosen a b e

-- all that ends before such an operator is ended
abbrev pub unwind : ℕ → List Waiting → Formula → List Waiting × Formula
unwind m [] e = ([], e)
unwind m (w ∷ ws) e = cond (closes m w) (unwind m ws (filled w e)) (w ∷ ws, e)

abbrev pub jointed : Operator → List Waiting × Formula → Stage
jointed o it = expects (left_of o it.1 ∷ it.0)

abbrev pub questioned : List Waiting × Formula → Stage
questioned it = expects (question it.1 ∷ it.0)

-- the condition of a `?`
abbrev pub condition_in : Waiting → Option Formula
condition_in bracket = None
condition_in negation = None
condition_in (left_of o a) = None
condition_in (question a) = Some a
condition_in (colon a b) = None

abbrev pub colon_with : Option Formula → List Waiting → Formula → Result Stage FaultKind
colon_with None ws b = Err ExpectedOperator
colon_with (Some a) ws b = Ok (expects (colon a b ∷ ws))

abbrev pub colon_stage : List Waiting → Formula → Result Stage FaultKind
colon_stage [] b = Err ExpectedOperator
colon_stage (w ∷ ws) b = colon_with (condition_in w) ws b

abbrev pub coloned : List Waiting × Formula → Result Stage FaultKind
coloned it = colon_stage it.0 it.1

abbrev pub is_bracket : Waiting → Bool
is_bracket bracket = true
is_bracket negation = false
is_bracket (left_of o a) = false
is_bracket (question a) = false
is_bracket (colon a b) = false

abbrev pub close_with : Bool → List Waiting → Formula → Result Stage FaultKind
close_with is_open ws a = cond is_open (Ok (has ws a)) (Err ExpectedOperator)

abbrev pub close_stage : List Waiting → Formula → Result Stage FaultKind
close_stage [] a = Err ExpectedOperator
close_stage (w ∷ ws) a = close_with (is_bracket w) ws a

abbrev pub bracket_closed : List Waiting × Formula → Result Stage FaultKind
bracket_closed it = close_stage it.0 it.1

abbrev pub begin_operand : List Waiting → Token → Result Stage FaultKind
begin_operand ws (Number k) = Ok (has ws (number k))
begin_operand ws N = Ok (has ws the_n)
begin_operand ws Not = Ok (expects (negation ∷ ws))
begin_operand ws Open = Ok (expects (bracket ∷ ws))
begin_operand ws _ = Err ExpectedOperand

abbrev pub follow : List Waiting → Formula → Token → Result Stage FaultKind
follow ws e (Joint o) = Ok (jointed o (unwind (binding o) ws e))
follow ws e Question = Ok (questioned (unwind 1 ws e))
follow ws e Colon = coloned (unwind 0 ws e)
follow ws e Close = bracket_closed (unwind 0 ws e)
follow ws e _ = Err ExpectedOperator

-- what a token does
abbrev pub stage_step : Stage → Token → Result Stage FaultKind
stage_step (expects ws) t = begin_operand ws t
stage_step (has ws e) t = follow ws e t

abbrev pub whole : List Waiting → Formula → Result Formula FaultKind
whole [] e = Ok e
whole (w ∷ ws) e = Err Unfinished

abbrev pub finished : List Waiting × Formula → Result Formula FaultKind
finished it = whole it.0 it.1

-- what the end does
abbrev pub finish : Stage → Result Formula FaultKind
finish (expects ws) = Err ExpectedOperand
finish (has ws e) = finished (unwind 0 ws e)

-- the expression, or a fault and the tokens from where it is on
abbrev pub FormulaOutcome : Type 0
FormulaOutcome = Result Formula (FaultKind × List Token)

abbrev pub ended : Result Formula FaultKind → FormulaOutcome
ended (Ok e) = Ok e
ended (Err kind) = Err (kind, [])

abbrev pub proceed_from_stage : List Token → Result Stage FaultKind → (Stage → FormulaOutcome) → FormulaOutcome
proceed_from_stage ts (Ok s) next = next s
proceed_from_stage ts (Err kind) next = Err (kind, ts)

unfoldable pub run_from_stage : Stage → List Token → FormulaOutcome
run_from_stage s [] = ended (finish s)
run_from_stage s (t ∷ ts) = proceed_from_stage (t ∷ ts) (stage_step s t) (λ next. run_from_stage next ts)
