-- The grammar of conditions over tokens (UTS 35 Part 3, Plural Rules Syntax), what is read from a
-- list of tokens, and which fault it has.
use Rattle.std.specs.Prelude.{◌≡◌, ◌⊎◌, List, [], ◌∷◌, ◌++◌, Option, Some, None, IfSome, is_some, if◌then◌else◌}
use Rattle.std.specs.Option.{option_and_then}
use Rattle.plural_reference.specs.declared.ast.AndCondition.{AndCondition}
use Rattle.plural_reference.specs.declared.ast.Condition.{Condition}
use Rattle.plural_reference.specs.declared.ast.Expression.{Expression}
use Rattle.plural_operands.specs.declared.operand.Operand as operand
use Rattle.plural_operands.specs.declared.operand.Operand.TheVariants as operands
use Rattle.plural_reference.specs.declared.ast.Operator as operator
use Rattle.plural_reference.specs.declared.ast.RangeListItem.{RangeListItem}
use Rattle.plural_reference.specs.declared.ast.RangeListItem.TheVariants as items
use Rattle.plural_reference.specs.declared.ast.Relation.{Relation}
use Rattle.plural_reference.specs.declared.ast.Value.{Value}
use Rattle.plural_reference.specs.declared.error.ParseError.{ParseError}
use Rattle.plural_reference.specs.declared.error.ParseError.TheVariants.{ExpectedAndCondition, ExpectedRelation, ExpectedOperator}
use Rattle.plural_reference.specs.declared.error.ParseError.TheVariants.{ExpectedOperand, ExpectedValue}
use Rattle.plural_reference.specs.declared.token.Token.{Token}
use Rattle.plural_reference.specs.declared.token.Token.TheVariants.{Operand, Operator, Number, Zero, DotDot, Comma, Or, And, Modulo, At, E}
use Rattle.plural_reference.specs.Lexer.{first, last}

-- the value that a token is
abbrev pub token_value : Token → Option Value
token_value (Number n) = Some (record { 0 = n })
token_value Zero = Some (record { 0 = 0 })
token_value _ = None

-- the operand that a token is
abbrev pub operand_of : Token → Option operand.Operand
operand_of (Operand o) = Some o
operand_of E = Some operands.E
operand_of _ = None

-- one or more parts, with the separator between neighbours
abbrev pub Separated : {A : Type 0} → Token → (List Token → A → Type 0) → List Token → List A → Type 0
Separated separator Part tokens [] = ⊥
Separated separator Part tokens (x ∷ []) = Part tokens x
Separated separator Part tokens (x ∷ y ∷ ys) =
    (part : List Token) × (rest : List Token)
    × (tokens ≡ part ++ separator ∷ rest) × Part part x × Separated separator Part rest (y ∷ ys)

-- item = value | value DotDot value
abbrev pub IsItem : List Token → RangeListItem → Type 0
IsItem tokens (items.Value v) = (t : Token) × (tokens ≡ t ∷ []) × (token_value t ≡ Some v)
IsItem tokens (items.Range a b) =
    (t : Token) × (u : Token) × (tokens ≡ t ∷ DotDot ∷ u ∷ []) × (token_value t ≡ Some a) × (token_value u ≡ Some b)

-- a modulus that is present, or none
abbrev pub IsModulus : List Token → Option Value → Type 0
IsModulus tokens None = tokens ≡ []
IsModulus tokens (Some m) = (t : Token) × (tokens ≡ Modulo ∷ t ∷ []) × (token_value t ≡ Some m)

-- expr = (Operand | E) (Modulo value)?
abbrev pub IsExpression : List Token → Expression → Type 0
IsExpression tokens e =
    (t : Token) × (modulus : List Token)
    × (tokens ≡ t ∷ modulus) × (operand_of t ≡ Some e.operand) × IsModulus modulus e.modulus

-- relation = expr Operator range_list
abbrev pub IsRelation : List Token → Relation → Type 0
IsRelation tokens r =
    (left : List Token) × (right : List Token)
    × (tokens ≡ left ++ Operator r.operator ∷ right) × IsExpression left r.expression × Separated Comma IsItem right r.range_list.0

-- and_condition = relation (And relation)*
abbrev pub IsAndCondition : List Token → AndCondition → Type 0
IsAndCondition tokens c = Separated And IsRelation tokens c.0

-- condition = and_condition (Or and_condition)*
abbrev pub IsCondition : List Token → Condition → Type 0
IsCondition tokens c = Separated Or IsAndCondition tokens c.0

-- ---- reading

-- the last item of a condition
abbrev pub last_item : Condition → Option RangeListItem
last_item c = option_and_then (λ r. last r.range_list.0) (option_and_then (λ group. last group.0) (last c.0))

-- a condition whose last item is a single value
abbrev pub EndsInValue : Condition → Type 0
EndsInValue c = (v : Value) × (last_item c ≡ Some (items.Value v))

-- the token continues the condition
abbrev pub Continues : Condition → Token → Type 0
Continues c And = Unit {0}
Continues c Or = Unit {0}
Continues c Comma = Unit {0}
Continues c DotDot = EndsInValue c
Continues c _ = ⊥

-- no token, or At as the first
abbrev pub IsUnconditional : List Token → Type 0
IsUnconditional [] = Unit {0}
IsUnconditional (At ∷ ts) = Unit {0}
IsUnconditional _ = ⊥

-- the condition is read from the longest beginning of the tokens, and the rest is left
abbrev pub ReadsUpTo : List Token → Condition → List Token → Type 0
ReadsUpTo tokens c rest =
    ((c ≡ record { 0 = [] }) × (rest ≡ tokens) × IsUnconditional tokens)
    ⊎ ((spelled : List Token) × (tokens ≡ spelled ++ rest) × IsCondition spelled c × IfSome (first rest) (λ t. ¬ (Continues c t)))

-- the condition is read from the tokens
abbrev pub Reads : List Token → Condition → Type 0
Reads tokens c = (rest : List Token) × ReadsUpTo tokens c rest

-- ---- faults

-- where a beginning of the tokens waits for another token
pub data Place : Type 0 where
  start : Place
  after_or : Place
  after_and : Place
  after_operand : Place
  after_modulo : Place
  after_modulus : Place
  before_value : Place

-- a condition, and then the token
abbrev pub ConditionThen : Token → List Token → Type 0
ConditionThen t tokens = (spelled : List Token) × (c : Condition) × (tokens ≡ spelled ++ t ∷ []) × IsCondition spelled c

-- an operand is expected: at the start, after Or, or after And
abbrev pub IsBeforeOperand : List Token → Type 0
IsBeforeOperand tokens = (tokens ≡ []) ⊎ (ConditionThen Or tokens ⊎ ConditionThen And tokens)

-- an operand is the last token
abbrev pub IsAfterOperand : List Token → Type 0
IsAfterOperand tokens =
    (before : List Token) × (t : Token) × (o : operand.Operand)
    × (tokens ≡ before ++ t ∷ []) × IsBeforeOperand before × (operand_of t ≡ Some o)

-- Modulo after an operand is the last token
abbrev pub IsAfterModulo : List Token → Type 0
IsAfterModulo tokens = (before : List Token) × (tokens ≡ before ++ Modulo ∷ []) × IsAfterOperand before

-- a whole modulus is last
abbrev pub IsAfterModulus : List Token → Type 0
IsAfterModulus tokens =
    (before : List Token) × (t : Token) × (v : Value)
    × (tokens ≡ before ++ t ∷ []) × IsAfterModulo before × (token_value t ≡ Some v)

-- after an operator, after Comma, or after DotDot that follows a single value
abbrev pub IsBeforeValue : List Token → Type 0
IsBeforeValue tokens =
    ((before : List Token) × (o : operator.Operator)
    × (tokens ≡ before ++ Operator o ∷ []) × (IsAfterOperand before ⊎ IsAfterModulus before))
    ⊎ (ConditionThen Comma tokens
    ⊎ ((spelled : List Token) × (c : Condition) × (tokens ≡ spelled ++ DotDot ∷ []) × IsCondition spelled c × EndsInValue c))

-- the tokens are a beginning that waits at the place
abbrev pub Waits : Place → List Token → Type 0
Waits start tokens = tokens ≡ []
Waits after_or tokens = ConditionThen Or tokens
Waits after_and tokens = ConditionThen And tokens
Waits after_operand tokens = IsAfterOperand tokens
Waits after_modulo tokens = IsAfterModulo tokens
Waits after_modulus tokens = IsAfterModulus tokens
Waits before_value tokens = IsBeforeValue tokens

-- the fault where an operand is expected, by the fault at the end or at At
abbrev pub operand_fault : Option ParseError → Option Token → Option ParseError
operand_fault at_end None = at_end
operand_fault at_end (Some At) = at_end
operand_fault at_end (Some t) = if is_some (operand_of t) then None else Some ExpectedOperand

-- the fault where an operator is expected
abbrev pub operator_fault : Option Token → Option ParseError
operator_fault (Some (Operator o)) = None
operator_fault _ = Some ExpectedOperator

-- the fault where a value is expected
abbrev pub value_fault : Option Token → Option ParseError
value_fault None = Some ExpectedValue
value_fault (Some t) = if is_some (token_value t) then None else Some ExpectedValue

-- the fault of the token that follows a place, or of the end
abbrev pub fault : Place → Option Token → Option ParseError
fault start t = operand_fault None t
fault after_or t = operand_fault (Some ExpectedAndCondition) t
fault after_and t = operand_fault (Some ExpectedRelation) t
fault after_operand (Some Modulo) = None
fault after_operand t = operator_fault t
fault after_modulo t = value_fault t
fault after_modulus t = operator_fault t
fault before_value t = value_fault t

-- a beginning of the tokens waits, and what follows it has this fault
abbrev pub Faulty : List Token → ParseError → Type 0
Faulty tokens kind =
    (place : Place) × (before : List Token) × (rest : List Token)
    × (tokens ≡ before ++ rest) × Waits place before × (fault place (first rest) ≡ Some kind)
