-- Not a definition of the subject: a reader of conditions, token by token, for the parser's private
-- contracts. That it returns what the grammar says is proved.
use Rattle.std.specs.Prelude.{List, [], ◌∷◌, ◌++◌, Bool, true, false, Option, Some, None, Result, Ok, Err, ◌≡◌, ◌≢◌}
use Rattle.plural_reference.specs.declared.ast.AndCondition.{AndCondition}
use Rattle.plural_reference.specs.declared.ast.Condition.{Condition}
use Rattle.plural_reference.specs.declared.ast.Expression.{Expression}
use Rattle.plural_operands.specs.declared.operand.Operand as operand
use Rattle.plural_reference.specs.declared.ast.Operator as operator
use Rattle.plural_reference.specs.declared.ast.RangeListItem.{RangeListItem}
use Rattle.plural_reference.specs.declared.ast.RangeListItem.TheVariants as items
use Rattle.plural_reference.specs.declared.ast.Relation.{Relation}
use Rattle.plural_reference.specs.declared.ast.Value.{Value}
use Rattle.plural_reference.specs.declared.error.ParseError.{ParseError}
use Rattle.plural_reference.specs.declared.error.ParseError.TheVariants.{ExpectedAndCondition, ExpectedRelation, ExpectedOperator}
use Rattle.plural_reference.specs.declared.error.ParseError.TheVariants.{ExpectedOperand, ExpectedValue}
use Rattle.plural_reference.specs.declared.token.Token.{Token}
use Rattle.plural_reference.specs.declared.token.Token.TheVariants.{Operator, DotDot, Comma, Or, And, Modulo, At}
use Rattle.plural_reference.specs.Parser.{token_value, operand_of, value_fault, operand_fault, operator_fault, IsUnconditional}
use Rattle.plural_reference.specs.declared.token.Token.TheVariants as token
use Rattle.plural_reference.specs.Lexer.{first}
use Rattle.plural_reference.specs.RelationSinks.{Before, nothing, with_relation, with_group, relation_of_parts}

-- what is complete of the relation that is being read
pub record Opened : Type 0 where
  pub before : Before
  pub expression : Expression
  pub operator : operator.Operator

-- what is expected, and what is complete
pub data State : Type 0 where
  before_operand : Before → State
  after_operand : Before → operand.Operand → State
  after_modulo : Before → operand.Operand → State
  after_modulus : Before → Expression → State
  before_item : Opened → List RangeListItem → State
  after_item : Opened → List RangeListItem → RangeListItem → State
  before_end : Opened → List RangeListItem → Value → State

-- the relation with these items
abbrev pub relation_of : Opened → List RangeListItem → Relation
relation_of o xs = record { expression = o.expression; operator = o.operator; range_list = record { 0 = xs } }

-- the condition that ends here
abbrev pub ended_condition : Before → Condition
ended_condition b = record { 0 = b.groups ++ (record { 0 = b.relations }) ∷ [] }

-- what a token does: it leads on, ends the condition, or is a fault
pub data Move : Type 0 where
  go : State → Move
  finish : Condition → Move
  refuse : ParseError → Move

-- no operand: the end, or At
abbrev pub no_operand : List AndCondition → List Relation → Move
no_operand [] [] = finish (record { 0 = [] })
no_operand (g ∷ gs) [] = refuse ExpectedAndCondition
no_operand gs (r ∷ rs) = refuse ExpectedRelation

-- the token at which an operand is expected
abbrev pub operand_move : Option operand.Operand → Token → Before → Move
operand_move (Some o) t b = go (after_operand b o)
operand_move None At b = no_operand b.groups b.relations
operand_move None _ b = refuse ExpectedOperand

-- the token at which a value is expected
abbrev pub value_move : Option Value → (Value → State) → Move
value_move None next = refuse ExpectedValue
value_move (Some v) next = go (next v)

-- the token at which an operator is expected
abbrev pub operator_move : Token → Before → Expression → Move
operator_move (Operator op) b e = go (before_item (record { before = b; expression = e; operator = op }) [])
operator_move _ b e = refuse ExpectedOperator

-- dots after an item
abbrev pub dots_move : Opened → List RangeListItem → RangeListItem → Move
dots_move o xs (items.Value v) = go (before_end o xs v)
dots_move o xs (items.Range a b) = finish (ended_condition (with_relation o.before (relation_of o (xs ++ (items.Range a b) ∷ []))))

-- a token after an item
abbrev pub item_move : Opened → List RangeListItem → RangeListItem → Token → Move
item_move o xs x And = go (before_operand (with_relation o.before (relation_of o (xs ++ x ∷ []))))
item_move o xs x Or = go (before_operand (with_group (with_relation o.before (relation_of o (xs ++ x ∷ [])))))
item_move o xs x Comma = go (before_item o (xs ++ x ∷ []))
item_move o xs x DotDot = dots_move o xs x
item_move o xs x _ = finish (ended_condition (with_relation o.before (relation_of o (xs ++ x ∷ []))))

-- a token after an operand
abbrev pub operand_next : Token → Before → operand.Operand → Move
operand_next Modulo b o = go (after_modulo b o)
operand_next t b o = operator_move t b (record { operand = o; modulus = None })

-- what a token does
abbrev pub step : State → Token → Move
step (before_operand b) t = operand_move (operand_of t) t b
step (after_operand b o) t = operand_next t b o
step (after_modulo b o) t = value_move (token_value t) (λ v. after_modulus b (record { operand = o; modulus = Some v }))
step (after_modulus b e) t = operator_move t b e
step (before_item o xs) t = value_move (token_value t) (λ v. after_item o xs (items.Value v))
step (after_item o xs x) t = item_move o xs x t
step (before_end o xs v) t = value_move (token_value t) (λ w. after_item o xs (items.Range v w))

-- what the end of the tokens does
abbrev pub at_end : State → Move
at_end (before_operand b) = no_operand b.groups b.relations
at_end (after_operand b o) = refuse ExpectedOperator
at_end (after_modulo b o) = refuse ExpectedValue
at_end (after_modulus b e) = refuse ExpectedOperator
at_end (before_item o xs) = refuse ExpectedValue
at_end (after_item o xs x) = finish (ended_condition (with_relation o.before (relation_of o (xs ++ x ∷ []))))
at_end (before_end o xs v) = refuse ExpectedValue

-- the condition or the fault, and the remaining tokens
abbrev pub Outcome : Type 0
Outcome = Result (Condition × List Token) (ParseError × List Token)

-- what follows a move
abbrev pub proceed : Move → List Token → (State → Outcome) → Outcome
proceed (go s) rest next = next s
proceed (finish c) rest next = Ok (c, rest)
proceed (refuse e) rest next = Err (e, rest)

-- what the reader returns from a state on
unfoldable pub run : State → List Token → Outcome
run s [] = proceed (at_end s) [] (λ _. Err (ExpectedValue, []))
run s (t ∷ ts) = proceed (step s t) (t ∷ ts) (λ next. run next ts)

-- where the reader begins
abbrev pub begin : State
begin = before_operand nothing

-- ---- Not a definition of the subject: what the parts of the parser do, as steps of the reader of
-- conditions. Their private contracts cite it, and no public clause does.

-- no dots follow a single value
abbrev pub NoDots : RangeListItem → List Token → Type 0
NoDots (items.Value v) rest = first rest ≢ Some DotDot
NoDots (items.Range a b) rest = Unit {0}

-- an item is read wherever one is expected
pub record ReadsItem (old : List Token) (x : RangeListItem) (new : List Token) : Type 0 where
  pub run_is : (o : Opened) (xs : List RangeListItem) → run (before_item o xs) old ≡ run (after_item o xs x) new
  pub no_dots : NoDots x new

-- a list with these items is read wherever one is expected; a comma may follow
pub record ReadsItems (old : List Token) (ys : List RangeListItem) (new : List Token) : Type 0 where
  pub front : List RangeListItem
  pub item : RangeListItem
  pub items_are : ys ≡ front ++ item ∷ []
  pub run_is : (o : Opened) → run (before_item o []) old ≡ run (after_item o front item) new
  pub no_dots : NoDots item new

-- from the state the reader comes to the end of a relation, and b is complete
pub record Completes (from : State) (old : List Token) (b : Before) (new : List Token) : Type 0 where
  pub opened : Opened
  pub front : List RangeListItem
  pub item : RangeListItem
  pub run_is : run from old ≡ run (after_item opened front item) new
  pub complete : with_relation opened.before (relation_of opened (front ++ item ∷ [])) ≡ b
  pub no_dots : NoDots item new
  pub no_comma : first new ≢ Some Comma

-- an optional part: it is present, or no operand begins it and nothing is taken
abbrev pub ReadsOption : {A : Type 0} → (List Token → A → List Token → Type 0) → List Token → Option A → List Token → Type 0
ReadsOption Read old None new = IsUnconditional old × (new ≡ old)
ReadsOption Read old (Some x) new = Read old x new

-- an expression is read wherever an operand is expected: an operator after it leads to the items,
-- and any other token is a fault
pub record ReadsExpression (old : List Token) (e : Expression) (new : List Token) : Type 0 where
  pub goes_on : (b : Before) (op : operator.Operator) (rest : List Token) → new ≡ token.Operator op ∷ rest
      → run (before_operand b) old ≡ run (before_item (record { before = b; expression = e; operator = op }) []) rest
  pub stops : (b : Before) → operator_fault (first new) ≡ Some ExpectedOperator → run (before_operand b) old ≡ Err (ExpectedOperator, new)

-- the first token is the value
abbrev pub TakesValue : List Token → Value → List Token → Type 0
TakesValue old v new = (t : Token) × (old ≡ t ∷ new) × (token_value t ≡ Some v)

-- no value comes next, and nothing is taken
abbrev pub NoValue : List Token → List Token → ParseError → Type 0
NoValue old new e = (e ≡ ExpectedValue) × (value_fault (first old) ≡ Some ExpectedValue) × (new ≡ old)

-- no operator comes next, and nothing is taken
abbrev pub NoOperator : List Token → List Token → ParseError → Type 0
NoOperator old new e = (e ≡ ExpectedOperator) × (operator_fault (first old) ≡ Some ExpectedOperator) × (new ≡ old)

-- the first token is the operand
abbrev pub TakesOperand : List Token → operand.Operand → List Token → Type 0
TakesOperand old o new = (t : Token) × (old ≡ t ∷ new) × (operand_of t ≡ Some o)

-- a token that isn't an operand comes next: a fault wherever one is expected; nothing is taken
abbrev pub NoOperand : List Token → List Token → ParseError → Type 0
NoOperand old new e =
    (e ≡ ExpectedOperand) × ((at_end : Option ParseError) → operand_fault at_end (first old) ≡ Some ExpectedOperand) × (new ≡ old)

-- what comes between relations: And, or Or before an and-condition
abbrev pub joint : Bool → Token
joint false = And
joint true = Or

-- what is expected behind it
abbrev pub expected_behind : Bool → ParseError
expected_behind false = ExpectedRelation
expected_behind true = ExpectedAndCondition

-- a relation is read wherever one is expected
abbrev pub ReadsRelation : List Token → Relation → List Token → Type 0
ReadsRelation old r new = (b : Before) → Completes (before_operand b) old (with_relation b r) new

-- a relation with these parts and items is read, or no operand begins one and nothing is taken
abbrev pub ReadsParts : List Token → Option (Expression × operator.Operator) → List RangeListItem → List Token → Type 0
ReadsParts old None items new = IsUnconditional old × (new ≡ old) × (items ≡ [])
ReadsParts old (Some (e, op)) items new = ReadsRelation old (relation_of_parts e op items) new

-- the reader stops with this fault before the remaining tokens, wherever an item is expected
abbrev pub FailsAtItem : List Token → List Token → ParseError → Type 0
FailsAtItem old new e = (o : Opened) (xs : List RangeListItem) → run (before_item o xs) old ≡ Err (e, new)

-- the same wherever a list of items is expected
abbrev pub FailsAtItems : List Token → List Token → ParseError → Type 0
FailsAtItems old new e = (o : Opened) → run (before_item o []) old ≡ Err (e, new)

-- the same wherever an operand is expected
abbrev pub FailsAtOperand : List Token → List Token → ParseError → Type 0
FailsAtOperand old new e = (b : Before) → run (before_operand b) old ≡ Err (e, new)
