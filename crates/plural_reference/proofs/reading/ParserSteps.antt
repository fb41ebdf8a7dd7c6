-- The steps of the parser.
use Rattle.std.proofs.Common.{◌≡◌, ◌≢◌, Bool, true, false, List, [], ◌∷◌, ◌++◌, Some, None, Ok, Err, refl, sym, ap, ◌∙◌}
use Rattle.plural_reference.specs.declared.ast.AndCondition.{AndCondition}
use Rattle.plural_reference.specs.declared.ast.Relation.{Relation}
use Rattle.plural_reference.specs.declared.ast.Expression.{Expression}
use Rattle.plural_operands.specs.declared.operand.Operand as operand
use Rattle.plural_reference.specs.declared.ast.Operator as operator
use Rattle.plural_reference.specs.declared.ast.RangeListItem.{RangeListItem}
use Rattle.plural_reference.specs.declared.ast.RangeListItem.TheVariants as items
use Rattle.plural_reference.specs.declared.ast.Value.{Value}
use Rattle.plural_reference.specs.declared.error.ParseError.{ParseError}
use Rattle.plural_reference.specs.declared.error.ParseError.TheVariants.{ExpectedValue, ExpectedOperand, ExpectedOperator}
use Rattle.plural_reference.specs.declared.error.ParseError.TheVariants.{ExpectedRelation, ExpectedAndCondition}
use Rattle.plural_reference.specs.declared.error.ReadError.{ReadError}
use Rattle.plural_reference.specs.declared.error.ReadError.TheVariants.{Parse, Memory}
use Rattle.plural_reference.specs.Reading.{IsFault}
use Rattle.plural_reference.specs.declared.token.Token.{Token}
use Rattle.plural_reference.specs.declared.token.Token.TheVariants.{Operator, DotDot, Comma, Modulo, And, Or, At}
use Rattle.plural_reference.specs.Lexer.{first}
use Rattle.plural_reference.specs.Parser.{token_value, operand_of, value_fault, operator_fault, IsUnconditional}
use Rattle.plural_reference.specs.RelationSinks.{Before, with_relation, with_group, joined, closed, condition_of}
use Rattle.plural_reference.specs.Inner.Reader.{Opened, State, before_operand, after_operand, before_item, after_item}
use Rattle.plural_reference.specs.Inner.Reader.{relation_of, ended_condition, no_operand, refuse, run, begin}
use Rattle.plural_reference.specs.Inner.Reader.{ReadsItem, ReadsItems, ReadsExpression, NoDots, NoOperand, Completes, ReadsRelation}
use Rattle.plural_reference.specs.Inner.Reader.{FailsAtItem, FailsAtItems, FailsAtOperand}
use Rattle.plural_reference.specs.Inner.Reader.{joint, expected_behind}
use Rattle.plural_reference.proofs.reading.ReaderComplete.{before_item_stop, before_end_stop, after_modulo_stop, operator_stop}
use Rattle.plural_reference.proofs.reading.ReaderComplete.{after_operand_stop, operand_stop}

-- if no value comes next, an item is a fault
pub no_item : (old new : List Token) (o : Opened) (xs : List RangeListItem)
    → value_fault (first old) ≡ Some ExpectedValue → new ≡ old → run (before_item o xs) old ≡ Err (ExpectedValue, new)
no_item old new o xs h e = rw e (before_item_stop o xs old ExpectedValue h)

-- the same after the dots of a range
pub no_end : (old middle after new : List Token) (t : Token) (v : Value) (o : Opened) (xs : List RangeListItem)
    → old ≡ t ∷ middle → token_value t ≡ Some v → middle ≡ DotDot ∷ after → value_fault (first after) ≡ Some ExpectedValue
    → new ≡ after → run (before_item o xs) old ≡ Err (ExpectedValue, new)
unfolding run
no_end old middle after new t v o xs e h f k s = rw (e, h, f, s) (before_end_stop o xs v after ExpectedValue k)

-- two values with dots between them are a range
pub item_range : (old middle after new : List Token) (t u : Token) (v w : Value)
    → old ≡ t ∷ middle → token_value t ≡ Some v → middle ≡ DotDot ∷ after → after ≡ u ∷ new → token_value u ≡ Some w
    → ReadsItem old (items.Range v w) new
unfolding run
item_range old middle after new t u v w e h f g k = record { run_is = λ o xs. rw (e, h, f, g, k) refl; no_dots = tt }

-- a value that no dots follow is an item
pub item_value : (old middle new : List Token) (t : Token) (v : Value)
    → old ≡ t ∷ middle → token_value t ≡ Some v → first middle ≢ Some DotDot → new ≡ middle → ReadsItem old (items.Value v) new
unfolding run
item_value old middle new t v e h f g = record { run_is = λ o xs. rw (e, h, g) refl; no_dots = rw g f }

-- what a parser of an item may be left to show
pub ruleset item_steps = (no_item, no_end, item_range, item_value)

-- ---- lists of items

-- an item is a list of one
pub one_item : (old new : List Token) (x : RangeListItem) → ReadsItem old x new → ReadsItems old (x ∷ []) new
one_item old new x h = record { front = []; item = x; items_are = refl; run_is = λ o. h.run_is o []; no_dots = h.no_dots }

-- an item after Comma joins the list
pub more_items : (old middle after new : List Token) (ys : List RangeListItem) (x : RangeListItem)
    → ReadsItems old ys middle → middle ≡ Comma ∷ after → ReadsItem after x new → ReadsItems old (ys ++ x ∷ []) new
unfolding run
more_items old middle after new ys x h e k = record {
  front = ys;
  item = x;
  items_are = refl;
  run_is = λ o. h.run_is o ∙ ap (run (after_item o h.front h.item)) e ∙ ap (λ zs. run (before_item o zs) after) (sym h.items_are)
      ∙ k.run_is o ys;
  no_dots = k.no_dots;
}

-- a fault of an item is one of the list
pub items_fault : (old middle after new : List Token) (ys : List RangeListItem) (e : ParseError)
    → ReadsItems old ys middle → middle ≡ Comma ∷ after → FailsAtItem after new e → FailsAtItems old new e
unfolding run
items_fault old middle after new ys e h f k o = h.run_is o ∙ ap (run (after_item o h.front h.item)) f ∙ k o (h.front ++ h.item ∷ [])

-- ---- expressions

-- after an operand that no modulus follows
after_operand_fault : (o : operand.Operand) (b : Before) (new : List Token)
    → first new ≢ Some Modulo → operator_fault (first new) ≡ Some ExpectedOperator → run (after_operand b o) new ≡ Err (ExpectedOperator, new)
after_operand_fault o b [] n h = after_operand_stop b o [] ExpectedOperator h
after_operand_fault o b (Modulo ∷ ts) n h = absurd (n refl)
after_operand_fault o b (Operator op ∷ ts) n h = after_operand_stop b o (Operator op ∷ ts) ExpectedOperator h
after_operand_fault o b (_ ∷ ts) n h = after_operand_stop b o (_ ∷ ts) ExpectedOperator h

-- an operand that no Modulo follows is an expression
pub expression_alone : (old new : List Token) (t : Token) (o : operand.Operand)
    → old ≡ t ∷ new → operand_of t ≡ Some o → first new ≢ Some Modulo → ReadsExpression old (record { operand = o; modulus = None }) new
unfolding run
expression_alone old new t o e h n = record {
  goes_on = λ b op rest f. rw (e, h, f) refl;
  stops = λ b f. rw (e, h) (after_operand_fault o b new n f);
}

-- an operand, Modulo and a value are one
pub expression_reduced : (old middle after new : List Token) (t u : Token) (o : operand.Operand) (v : Value)
    → old ≡ t ∷ middle → operand_of t ≡ Some o → middle ≡ Modulo ∷ after → after ≡ u ∷ new → token_value u ≡ Some v
    → ReadsExpression old (record { operand = o; modulus = Some v }) new
unfolding run
expression_reduced old middle after new t u o v e h f g k = record {
  goes_on = λ b op rest l. rw (e, h, f, g, k, l) refl;
  stops = λ b l. rw (e, h, f, g, k) (operator_stop b (record { operand = o; modulus = Some v }) new ExpectedOperator l);
}

-- if no value follows Modulo, that is the fault
pub no_modulus : (old middle after new : List Token) (t : Token) (o : operand.Operand)
    → old ≡ t ∷ middle → operand_of t ≡ Some o → middle ≡ Modulo ∷ after → value_fault (first after) ≡ Some ExpectedValue
    → new ≡ after → FailsAtOperand old new ExpectedValue
unfolding run
no_modulus old middle after new t o e h f k s b = rw (e, h, f, s) (after_modulo_stop b o after ExpectedValue k)

-- a token that isn't an operand is a fault if an operand is expected
pub no_operand_fault : (old new : List Token) (e : ParseError) → NoOperand old new e → FailsAtOperand old new ExpectedOperand
no_operand_fault old new e h b = rw h.2 (operand_stop b None old ExpectedOperand (λ e k. cc) (h.1 None))

-- ---- relations

-- an expression, an operator and a list complete a relation of the group
pub relation_completes : (old middle after new : List Token) (e : Expression) (op : operator.Operator) (ys : List RangeListItem)
    → ReadsExpression old e middle → middle ≡ Operator op ∷ after → ReadsItems after ys new → first new ≢ Some Comma → (b : Before)
    → Completes (before_operand b) old (with_relation b (record { expression = e; operator = op; range_list = record { 0 = ys } })) new
relation_completes old middle after new e op ys h f k n b =
    let o : Opened = record { before = b; expression = e; operator = op } in
    record {
      opened = o;
      front = k.front;
      item = k.item;
      run_is = h.goes_on b op after f ∙ k.run_is o;
      complete = ap (λ xs. with_relation b (relation_of o xs)) (sym k.items_are);
      no_dots = k.no_dots;
      no_comma = n;
    }

-- a fault of the list is one of the relation
pub relation_items_fault : (old middle after new : List Token) (e : Expression) (op : operator.Operator) (kind : ParseError)
    → ReadsExpression old e middle → middle ≡ Operator op ∷ after → FailsAtItems after new kind → FailsAtOperand old new kind
relation_items_fault old middle after new e op kind h f k b = h.goes_on b op after f ∙ k (record { before = b; expression = e; operator = op })

-- ---- groups

-- Comma, dots and then And or Or follow a complete relation
goes_on_and : (from : State) (old middle after : List Token) (b : Before)
    → Completes from old b middle → middle ≡ And ∷ after → run from old ≡ run (before_operand b) after
unfolding run
goes_on_and from old middle after b h e =
    h.run_is ∙ ap (run (after_item h.opened h.front h.item)) e ∙ ap (λ (c : Before). run (before_operand c) after) h.complete

-- after Or an operand is expected, and the group is complete
goes_on_or : (from : State) (old middle after : List Token) (b : Before)
    → Completes from old b middle → middle ≡ Or ∷ after → run from old ≡ run (before_operand (with_group b)) after
unfolding run
goes_on_or from old middle after b h e =
    h.run_is ∙ ap (run (after_item h.opened h.front h.item)) e ∙ ap (λ (c : Before). run (before_operand (with_group c)) after) h.complete

-- after other tokens, the same
completes_from : (from middle_state : State) (old middle new : List Token) (b : Before)
    → run from old ≡ run middle_state middle → Completes middle_state middle b new → Completes from old b new
completes_from from middle_state old middle new b e h = record {
  opened = h.opened;
  front = h.front;
  item = h.item;
  run_is = e ∙ h.run_is;
  complete = h.complete;
  no_dots = h.no_dots;
  no_comma = h.no_comma;
}

-- a relation after And joins the group
more_relations : (from : State) (old middle after new : List Token) (b : Before) (r : Relation)
    → Completes from old b middle → middle ≡ And ∷ after → ((b : Before) → Completes (before_operand b) after (with_relation b r) new)
    → Completes from old (with_relation b r) new
more_relations from old middle after new b r h e k =
    completes_from from (before_operand b) old after new (with_relation b r) (goes_on_and from old middle after b h e) (k b)

-- nothing after And
some_relations : (groups : List AndCondition) (relations : List Relation) (r : Relation)
    → no_operand groups (relations ++ r ∷ []) ≡ refuse ExpectedRelation
some_relations [] [] r = refl
some_relations [] (x ∷ xs) r = refl
some_relations (g ∷ gs) [] r = refl
some_relations (g ∷ gs) (x ∷ xs) r = refl

-- if no operand comes next, the reader stops as it does at the end
unconditional_fault : (b : Before) (rest : List Token) (kind : ParseError)
    → IsUnconditional rest → no_operand b.groups b.relations ≡ refuse kind → run (before_operand b) rest ≡ Err (kind, rest)
unfolding run
unconditional_fault b [] kind u h = rw h refl
unconditional_fault b (At ∷ ts) kind u h = rw h refl
unconditional_fault b (_ ∷ ts) kind u h = absurd u

-- if no relation follows And, a relation is expected
no_relation : (from : State) (old middle after : List Token) (b : Before)
    → Completes from old b middle → middle ≡ And ∷ after → IsUnconditional after → run from old ≡ Err (ExpectedRelation, after)
no_relation from old middle after b h e u =
    goes_on_and from old middle after b h e
    ∙ unconditional_fault b after ExpectedRelation u
    (ap (λ (c : Before). no_operand c.groups c.relations) (sym h.complete)
    ∙ some_relations h.opened.before.groups h.opened.before.relations _)

-- ---- conditions

-- nothing after Or
some_groups : (groups : List AndCondition) (g : AndCondition) → no_operand (groups ++ g ∷ []) [] ≡ refuse ExpectedAndCondition
some_groups [] g = refl
some_groups (k ∷ ks) g = refl

-- a relation behind Or begins a group
next_group : (old middle after new : List Token) (b : Before) (r : Relation)
    → Completes begin old b middle → middle ≡ Or ∷ after → ReadsRelation after r new
    → Completes begin old (with_relation (with_group b) r) new
next_group old middle after new b r h e k =
    completes_from begin (before_operand (with_group b)) old after new (with_relation (with_group b) r)
    (goes_on_or begin old middle after b h e) (k (with_group b))

-- a relation behind either is read too
pub joins : (is_after_or : Bool) (old middle after new : List Token) (b : Before) (r : Relation)
    → Completes begin old b middle → middle ≡ joint is_after_or ∷ after → ReadsRelation after r new
    → Completes begin old (joined is_after_or b r) new
joins false old middle after new b r h e k = more_relations begin old middle after new b r h e k
joins true old middle after new b r h e k = next_group old middle after new b r h e k

-- a fault of a relation behind either is one of the condition
pub joint_fault : (is_after_or : Bool) (old middle after new : List Token) (b : Before) (kind : ParseError)
    → Completes begin old b middle → middle ≡ joint is_after_or ∷ after → FailsAtOperand after new kind
    → run begin old ≡ Err (kind, new)
joint_fault false old middle after new b kind h e k = goes_on_and begin old middle after b h e ∙ k b
joint_fault true old middle after new b kind h e k = goes_on_or begin old middle after b h e ∙ k (with_group b)

-- if no relation is behind either, one is expected there
pub nothing_joins : (is_after_or : Bool) (old middle after : List Token) (b : Before)
    → Completes begin old b middle → middle ≡ joint is_after_or ∷ after → IsUnconditional after
    → run begin old ≡ Err (expected_behind is_after_or, after)
nothing_joins false old middle after b h e u = no_relation begin old middle after b h e u
nothing_joins true old middle after b h e u =
    goes_on_or begin old middle after b h e
    ∙ unconditional_fault (with_group b) after ExpectedAndCondition u (some_groups b.groups _)

-- nothing goes on
ends : (o : Opened) (front : List RangeListItem) (item : RangeListItem) (rest : List Token)
    → NoDots item rest → first rest ≢ Some Comma → first rest ≢ Some And → first rest ≢ Some Or
    → run (after_item o front item) rest ≡ Ok (ended_condition (with_relation o.before (relation_of o (front ++ item ∷ []))), rest)
unfolding run
ends o front item [] d c a r = refl
ends o front item (And ∷ ts) d c a r = absurd (a refl)
ends o front item (Or ∷ ts) d c a r = absurd (r refl)
ends o front item (Comma ∷ ts) d c a r = absurd (c refl)
ends o front (items.Value v) (DotDot ∷ ts) d c a r = absurd (d refl)
ends o front (items.Range x y) (DotDot ∷ ts) d c a r = refl
ends o front item (_ ∷ ts) d c a r = refl

-- an and-condition with a relation is part of the condition
closed_is : (groups : List AndCondition) (relations : List Relation) (r : Relation)
    → closed groups (relations ++ r ∷ []) ≡ groups ++ (record { 0 = relations ++ r ∷ [] }) ∷ []
closed_is groups [] r = refl
closed_is groups (x ∷ xs) r = refl

-- relations that neither And nor Or follows are the condition
pub condition_is : (old new : List Token) (b : Before)
    → Completes begin old b new → first new ≢ Some And → first new ≢ Some Or → run begin old ≡ Ok (condition_of b, new)
condition_is old new b h a r =
    h.run_is
    ∙ ends h.opened h.front h.item new h.no_dots h.no_comma a r
    ∙ ap (λ (xs : List AndCondition). Ok (record { 0 = xs }, new))
    (sym (closed_is h.opened.before.groups h.opened.before.relations (relation_of h.opened (h.front ++ h.item ∷ []))))
    ∙ ap (λ (c : Before). Ok (condition_of c, new)) h.complete

-- no token, or At as the first, is the empty condition
pub no_condition : (old new : List Token) → IsUnconditional old → new ≡ old → run begin old ≡ Ok (record { 0 = [] }, new)
unfolding run
no_condition [] new u e = rw e refl
no_condition (At ∷ ts) new u e = rw e refl
no_condition (_ ∷ ts) new u e = absurd u

-- ---- what an error passes on

-- a fault of a part is a fault of the whole, and out of memory stays out of memory
pub passes_on : (Q Q' : ParseError → Type 0) (e : ReadError) → IsFault Q e → ((kind : ParseError) → Q kind → Q' kind) → IsFault Q' e
passes_on Q Q' (Parse kind) h f = f kind h
passes_on Q Q' Memory h f = tt
