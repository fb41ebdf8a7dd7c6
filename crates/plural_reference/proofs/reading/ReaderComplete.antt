-- What the grammar spells is read, and a fault is returned: the tokens of a condition lead the
-- reader to its end, and those of a waiting place lead it to a state that refuses what follows.
-- From the grammar to the reader; Readings and RuleReadings cite the two last facts, ParserSteps
-- the fault at each state, and the proofs on samples that of the last of a list.
use Rattle.std.proofs.Common.{◌≡◌, List, [], ◌∷◌, ◌++◌, Option, Some, None, Ok, Err, refl, sym, ap, ◌∙◌, subst, append_assoc, inl, inr}
use Rattle.std.specs.Prelude.{IfSome, is_some, if◌then◌else◌}
use Rattle.plural_reference.specs.declared.ast.RangeListItem.{RangeListItem}
use Rattle.plural_reference.specs.declared.ast.RangeListItem.TheVariants as items
use Rattle.plural_reference.specs.declared.ast.Relation.{Relation}
use Rattle.plural_reference.specs.declared.ast.AndCondition.{AndCondition}
use Rattle.plural_reference.specs.declared.ast.Condition.{Condition}
use Rattle.plural_reference.specs.declared.ast.Value.{Value}
use Rattle.plural_operands.specs.declared.operand.Operand as operand
use Rattle.plural_reference.specs.declared.ast.Operator as operator
use Rattle.plural_reference.specs.declared.ast.Expression.{Expression}
use Rattle.plural_reference.specs.declared.token.Token.{Token}
use Rattle.plural_reference.specs.declared.token.Token.TheVariants.{Operator, DotDot, Comma, Or, And, Modulo, At}
use Rattle.plural_reference.specs.declared.error.ParseError.{ParseError}
use Rattle.plural_reference.specs.declared.error.ParseError.TheVariants.{ExpectedValue, ExpectedAndCondition, ExpectedRelation}
use Rattle.plural_reference.specs.Parser as places
use Rattle.plural_reference.specs.Lexer.{first, last}
use Rattle.plural_reference.specs.Parser.{token_value, operand_of, IsItem, IsExpression, IsModulus, IsRelation, IsAndCondition}
use Rattle.plural_reference.specs.Parser.{IsCondition, Separated, Continues, EndsInValue, IsUnconditional, ReadsUpTo, Faulty}
use Rattle.plural_reference.specs.Parser.{last_item, ConditionThen, IsBeforeOperand, IsAfterOperand, IsAfterModulo, IsAfterModulus}
use Rattle.plural_reference.specs.Parser.{IsBeforeValue, Waits, fault, operand_fault, operator_fault, value_fault}
use Rattle.plural_reference.specs.RelationSinks.{Before, with_relation, with_group}
use Rattle.plural_reference.specs.Inner.Reader.{Opened, State, before_operand, after_operand, after_modulo, after_modulus}
use Rattle.plural_reference.specs.Inner.Reader.{before_item, after_item, before_end, relation_of}
use Rattle.plural_reference.specs.Inner.Reader.{ended_condition, refuse, value_move, proceed, run, begin, Outcome, no_operand}
use Rattle.plural_reference.specs.FaultPlaces.{FaultyAt}

-- if an item is expected, the tokens of an item lead to the state after it
pub run_item : (o : Opened) (xs : List RangeListItem) (tokens : List Token) (x : RangeListItem) (rest : List Token)
    → IsItem tokens x → run (before_item o xs) (tokens ++ rest) ≡ run (after_item o xs x) rest
unfolding run
run_item o xs tokens (items.Value v) rest h = rw (h.1, h.2) refl
run_item o xs tokens (items.Range a b) rest h = rw (h.2, h.3, h.4) refl

-- the items of a relation lead to the last one
pub record LeadsToItem (o : Opened) (xs : List RangeListItem) (tokens : List Token) (ys : List RangeListItem) : Type 0 where
  pub front : List RangeListItem
  pub item : RangeListItem
  pub run_is : (rest : List Token) → run (before_item o xs) (tokens ++ rest) ≡ run (after_item o front item) rest
  pub items_are : front ++ item ∷ [] ≡ xs ++ ys

-- items with commas between them lead to the last one
pub run_items : (o : Opened) (xs : List RangeListItem) (tokens : List Token) (ys : List RangeListItem)
    → Separated Comma IsItem tokens ys → LeadsToItem o xs tokens ys
unfolding run
run_items o xs tokens [] h = absurd h
run_items o xs tokens (y ∷ []) h = record { front = xs; item = y; run_is = λ rest. run_item o xs tokens y rest h; items_are = refl }
run_items o xs tokens (y ∷ z ∷ zs) h =
    let more : LeadsToItem o (xs ++ y ∷ []) h.1 (z ∷ zs) = run_items o (xs ++ y ∷ []) h.1 (z ∷ zs) h.4 in
    record {
      front = more.front;
      item = more.item;
      run_is = λ rest.
          ap (run (before_item o xs)) (ap (λ l. l ++ rest) h.2 ∙ append_assoc h.0 (Comma ∷ h.1) rest)
          ∙ run_item o xs h.0 y (Comma ∷ (h.1 ++ rest)) h.3
          ∙ more.run_is rest;
      items_are = more.items_are ∙ append_assoc xs (y ∷ []) (z ∷ zs);
    }

-- tokens lead from a state to the last item of a relation, after which b is complete
pub record Leads (from : State) (tokens : List Token) (b : Before) : Type 0 where
  pub opened : Opened
  pub front : List RangeListItem
  pub item : RangeListItem
  pub run_is : (rest : List Token) → run from (tokens ++ rest) ≡ run (after_item opened front item) rest
  pub complete : with_relation opened.before (relation_of opened (front ++ item ∷ [])) ≡ b

-- an operand, a modulus or none, and an operator lead to the state that expects the first item
run_left_by : (b : Before) (tokens : List Token) (o : operand.Operand) (m : Option Value) (op : operator.Operator)
    (rest : List Token)
    → IsExpression tokens (record { operand = o; modulus = m })
    → run (before_operand b) (tokens ++ Operator op ∷ rest)
    ≡ run (before_item (record { before = b; expression = record { operand = o; modulus = m }; operator = op }) [])
    rest
unfolding run
run_left_by b tokens o None op rest h = rw (h.2, h.3, h.4) refl
run_left_by b tokens o (Some v) op rest h = rw (h.2, h.3, h.4.1, h.4.2) refl

-- the left side of a relation with its operator leads to the state that expects the first item
pub run_left : (b : Before) (tokens : List Token) (e : Expression) (op : operator.Operator) (rest : List Token)
    → IsExpression tokens e
    → run (before_operand b) (tokens ++ Operator op ∷ rest)
    ≡ run (before_item (record { before = b; expression = e; operator = op }) []) rest
run_left b tokens e op rest h = run_left_by b tokens e.operand e.modulus op rest h

-- the tokens of a relation lead to its last item, and complete it
pub run_relation : (b : Before) (tokens : List Token) (r : Relation) → IsRelation tokens r
    → Leads (before_operand b) tokens (with_relation b r)
run_relation b tokens r h =
    let o : Opened = record { before = b; expression = r.expression; operator = r.operator } in
    let more : LeadsToItem o [] h.1 r.range_list.0 = run_items o [] h.1 r.range_list.0 h.4 in
    record {
      opened = o;
      front = more.front;
      item = more.item;
      run_is = λ rest.
          ap (run (before_operand b)) (ap (λ l. l ++ rest) h.2 ∙ append_assoc h.0 (Operator r.operator ∷ h.1) rest)
          ∙ run_left b h.0 r.expression r.operator (h.1 ++ rest) h.3
          ∙ more.run_is rest;
      complete = ap (λ xs. with_relation b (relation_of o xs)) more.items_are;
    }

-- And after a complete relation leads to the state that expects the operand of the next one
pub leads_and : (from : State) (tokens : List Token) (b : Before) (rest : List Token) → Leads from tokens b
    → run from (tokens ++ And ∷ rest) ≡ run (before_operand b) rest
unfolding run
leads_and from tokens b rest l = l.run_is (And ∷ rest) ∙ ap (λ (c : Before). run (before_operand c) rest) l.complete

-- the same of Or, which completes the group
pub leads_or : (from : State) (tokens : List Token) (b : Before) (rest : List Token) → Leads from tokens b
    → run from (tokens ++ Or ∷ rest) ≡ run (before_operand (with_group b)) rest
unfolding run
leads_or from tokens b rest l = l.run_is (Or ∷ rest) ∙ ap (λ (c : Before). run (before_operand (with_group c)) rest) l.complete

-- what leads on from a state leads on from any state that comes to it
pub leads_from : (from middle : State) (tokens more : List Token) (all : List Token) (b : Before)
    → ((rest : List Token) → run from (all ++ rest) ≡ run middle (more ++ rest)) → Leads middle more b
    → Leads from all b
leads_from from middle tokens more all b h l = record {
  opened = l.opened;
  front = l.front;
  item = l.item;
  run_is = λ rest. h rest ∙ l.run_is rest;
  complete = l.complete;
}

-- relations with And between them lead to the last item of the last one, and complete the group
pub run_relations : (b : Before) (tokens : List Token) (rs : List Relation) → Separated And IsRelation tokens rs
    → Leads (before_operand b) tokens (record { groups = b.groups; relations = b.relations ++ rs })
run_relations b tokens [] h = absurd h
run_relations b tokens (r ∷ []) h = run_relation b tokens r h
run_relations b tokens (r ∷ s ∷ rs) h =
    let one : Leads (before_operand b) h.0 (with_relation b r) = run_relation b h.0 r h.3 in
    let more : Leads (before_operand (with_relation b r)) h.1
    (record { groups = b.groups; relations = (b.relations ++ r ∷ []) ++ s ∷ rs }) =
    run_relations (with_relation b r) h.1 (s ∷ rs) h.4 in
    subst (λ (xs : List Relation). Leads (before_operand b) tokens (record { groups = b.groups; relations = xs }))
    (append_assoc b.relations (r ∷ []) (s ∷ rs))
    (leads_from (before_operand b) (before_operand (with_relation b r)) h.0 h.1 tokens _
    (λ rest. ap (run (before_operand b)) (ap (λ l. l ++ rest) h.2 ∙ append_assoc h.0 (And ∷ h.1) rest)
    ∙ leads_and _ h.0 (with_relation b r) (h.1 ++ rest) one)
    more)

-- tokens lead to the end of a condition
pub record LeadsToCondition (from : State) (tokens : List Token) (c : Condition) : Type 0 where
  pub before : Before
  pub leads : Leads from tokens before
  pub condition_is : ended_condition before ≡ c

-- groups with Or between them lead to the end of the condition that they complete
pub run_groups : (groups : List AndCondition) (tokens : List Token) (gs : List AndCondition)
    → Separated Or IsAndCondition tokens gs
    → LeadsToCondition (before_operand (record { groups = groups; relations = [] })) tokens
    (record { 0 = groups ++ gs })
run_groups groups tokens [] h = absurd h
run_groups groups tokens (g ∷ []) h =
    record {
      before = record { groups = groups; relations = g.0 };
      leads = run_relations (record { groups = groups; relations = [] }) tokens g.0 h;
      condition_is = refl;
    }
run_groups groups tokens (g ∷ k ∷ ks) h =
    let done : Before = record { groups = groups; relations = g.0 } in
    let one : Leads (before_operand (record { groups = groups; relations = [] })) h.0 done =
    run_relations (record { groups = groups; relations = [] }) h.0 g.0 h.3 in
    let more : LeadsToCondition (before_operand (with_group done)) h.1 (record { 0 = (groups ++ g ∷ []) ++ k ∷ ks }) =
    run_groups (groups ++ g ∷ []) h.1 (k ∷ ks) h.4 in
    record {
      before = more.before;
      leads = leads_from _ (before_operand (with_group done)) h.0 h.1 tokens _
          (λ rest. ap (run (before_operand (record { groups = groups; relations = [] })))
          (ap (λ l. l ++ rest) h.2 ∙ append_assoc h.0 (Or ∷ h.1) rest)
          ∙ leads_or _ h.0 done (h.1 ++ rest) one)
          more.leads;
      condition_is = more.condition_is ∙ ap (λ (l : List AndCondition). record { 0 = l }) (append_assoc groups (g ∷ []) (k ∷ ks));
    }

-- the tokens of a condition lead from the beginning to its end
pub run_condition : (tokens : List Token) (c : Condition) → IsCondition tokens c → LeadsToCondition begin tokens c
run_condition tokens c h = run_groups [] tokens c.0 h

-- ---- the end of a condition

-- the last of a list with x at its end is x
pub last-push : {A : Type 0} (xs : List A) (x : A) → last (xs ++ x ∷ []) ≡ Some x
last-push [] x = refl
last-push (y ∷ []) x = refl
last-push (y ∷ z ∷ zs) x = last-push (z ∷ zs) x

-- the last item of a condition that an item completes is that item
pub last_item-complete : (o : Opened) (front : List RangeListItem) (item : RangeListItem)
    → last_item (ended_condition (with_relation o.before (relation_of o (front ++ item ∷ [])))) ≡ Some item
last_item-complete o front item = rw (last-push, last-push, last-push) refl

-- a token that doesn't continue the condition ends it after an item, and so does the end
pub run_ends : (o : Opened) (front : List RangeListItem) (item : RangeListItem) (rest : List Token)
    → IfSome (first rest)
    (λ t. ¬ (Continues (ended_condition (with_relation o.before (relation_of o (front ++ item ∷ [])))) t))
    → run (after_item o front item) rest
    ≡ Ok (ended_condition (with_relation o.before (relation_of o (front ++ item ∷ []))), rest)
unfolding run
run_ends o front item [] h = refl
run_ends o front item (And ∷ ts) h = absurd (h tt)
run_ends o front item (Or ∷ ts) h = absurd (h tt)
run_ends o front item (Comma ∷ ts) h = absurd (h tt)
run_ends o front (items.Value v) (DotDot ∷ ts) h = absurd (h (v, last_item-complete o front (items.Value v)))
run_ends o front (items.Range a b) (DotDot ∷ ts) h = refl
run_ends o front item (_ ∷ ts) h = refl

-- for the end or At at the beginning, the condition without groups is returned
unconditional_run : (tokens : List Token) → IsUnconditional tokens → run begin tokens ≡ Ok (record { 0 = [] }, tokens)
unfolding run
unconditional_run [] h = refl
unconditional_run (At ∷ ts) h = refl
unconditional_run (_ ∷ ts) h = absurd h

-- what the grammar reads is returned
pub reads_run : (tokens : List Token) (c : Condition) (rest : List Token) → ReadsUpTo tokens c rest → run begin tokens ≡ Ok (c, rest)
unfolding run
reads_run tokens c rest (inl h) = unconditional_run tokens h.2 ∙ ap Ok ((λ i. (sym h.0 i, sym h.1 i)))
reads_run tokens c rest (inr h) =
    let to : LeadsToCondition begin h.0 c = run_condition h.0 c h.2 in
    let is_c : ended_condition
    (with_relation to.leads.opened.before
    (relation_of to.leads.opened (to.leads.front ++ to.leads.item ∷ [])))
    ≡ c =
    ap ended_condition to.leads.complete ∙ to.condition_is in
    ap (run begin) h.1 ∙ to.leads.run_is rest
    ∙ run_ends _ _ _ rest (subst (λ (d : Condition). IfSome (first rest) (λ t. ¬ (Continues d t))) (sym is_c) h.3)
    ∙ ap (λ (d : Condition). Ok (d, rest)) is_c

-- ---- faults

-- these tokens lead from the beginning to the state
abbrev Arrives : List Token → State → Type 0
Arrives p s = (rest : List Token) → run begin (p ++ rest) ≡ run s rest

-- what leads to a state leads on with one more token
arrives_more : (p before : List Token) (t : Token) (s next : State) → p ≡ before ++ t ∷ [] → Arrives before s
    → ((rest : List Token) → run s (t ∷ rest) ≡ run next rest) → Arrives p next
arrives_more p before t s next e h k rest =
    ap (run begin) (ap (λ l. l ++ rest) e ∙ append_assoc before (t ∷ []) rest) ∙ h (t ∷ rest) ∙ k rest

-- a condition and Or lead to the state that expects the operand of a new group
arrives_or : (p : List Token) → ConditionThen Or p → (b : Before) × Arrives p (before_operand (with_group b))
arrives_or p h =
    let to : LeadsToCondition begin h.0 h.1 = run_condition h.0 h.1 h.3 in (
      to.before,
      λ rest. ap (run begin) (ap (λ l. l ++ rest) h.2 ∙ append_assoc h.0 (Or ∷ []) rest)
          ∙ leads_or begin h.0 to.before rest to.leads,
    )

-- a condition and And lead to the state that expects the operand of a further relation
arrives_and : (p : List Token) → ConditionThen And p → (b : Before) × (r : Relation) × Arrives p (before_operand (with_relation b r))
arrives_and p h =
    let to : LeadsToCondition begin h.0 h.1 = run_condition h.0 h.1 h.3 in (
      to.leads.opened.before,
      relation_of to.leads.opened (to.leads.front ++ to.leads.item ∷ []),
      λ rest. ap (run begin) (ap (λ l. l ++ rest) h.2 ∙ append_assoc h.0 (And ∷ []) rest)
          ∙ leads_and begin h.0 to.before rest to.leads
          ∙ ap (λ (b : Before). run (before_operand b) rest) (sym to.leads.complete),
    )

-- tokens that await an operand lead to such a state
arrives_before_operand : (p : List Token) → IsBeforeOperand p → (b : Before) × Arrives p (before_operand b)
arrives_before_operand p (inl h) = (record { groups = []; relations = [] }, λ rest. ap (λ l. run begin (l ++ rest)) h)
arrives_before_operand p (inr (inl h)) = let a = arrives_or p h in (with_group a.0, a.1)
arrives_before_operand p (inr (inr h)) = let a = arrives_and p h in (with_relation a.0 a.1, a.2)

-- an operand leads to the state after it
operand_next_run : (b : Before) (t : Token) (o : operand.Operand) (rest : List Token) → operand_of t ≡ Some o
    → run (before_operand b) (t ∷ rest) ≡ run (after_operand b o) rest
unfolding run
operand_next_run b t o rest h = rw h refl

-- tokens that end in an operand lead to the state after it
arrives_after_operand : (p : List Token) → IsAfterOperand p → (b : Before) × (o : operand.Operand) × Arrives p (after_operand b o)
arrives_after_operand p h =
    let a = arrives_before_operand h.0 h.4 in
    (a.0, h.2, arrives_more p h.0 h.1 _ _ h.3 a.1 (λ rest. operand_next_run a.0 h.1 h.2 rest h.5))

-- Modulo after an operand leads to the state that expects a modulus
modulo_next_run : (b : Before) (o : operand.Operand) (rest : List Token)
    → run (after_operand b o) (Modulo ∷ rest) ≡ run (after_modulo b o) rest
unfolding run
modulo_next_run b o rest = refl

-- tokens that end in an operand and Modulo lead there
arrives_after_modulo : (p : List Token) → IsAfterModulo p → (b : Before) × (o : operand.Operand) × Arrives p (after_modulo b o)
arrives_after_modulo p h =
    let a = arrives_after_operand h.0 h.2 in
    (a.0, a.1, arrives_more p h.0 Modulo _ _ h.1 a.2 (modulo_next_run a.0 a.1))

-- a modulus leads to the state after the whole expression
modulus_next_run : (b : Before) (o : operand.Operand) (t : Token) (v : Value) (rest : List Token) → token_value t ≡ Some v
    → run (after_modulo b o) (t ∷ rest) ≡ run (after_modulus b (record { operand = o; modulus = Some v })) rest
unfolding run
modulus_next_run b o t v rest h = rw h refl

-- tokens that end in a whole modulus lead there
arrives_after_modulus : (p : List Token) → IsAfterModulus p → (b : Before) × (e : Expression) × Arrives p (after_modulus b e)
arrives_after_modulus p h =
    let a = arrives_after_modulo h.0 h.4 in (
      a.0,
      record { operand = a.1; modulus = Some h.2 },
      arrives_more p h.0 h.1 _ _ h.3 a.2 (λ rest. modulus_next_run a.0 a.1 h.1 h.2 rest h.5),
    )

-- ---- the fault at each state

-- if an operand is expected, the fault of what follows is returned, given the fault at the end
pub operand_stop : (b : Before) (ended : Option ParseError) (rest : List Token) (kind : ParseError)
    → ((e : ParseError) → ended ≡ Some e → no_operand b.groups b.relations ≡ refuse e)
    → operand_fault ended (first rest) ≡ Some kind → run (before_operand b) rest ≡ Err (kind, rest)
unfolding run
operand_stop b ended [] kind stop h = rw (stop kind h) refl
operand_stop b ended (At ∷ ts) kind stop h = rw (stop kind h) refl
operand_stop b ended (_ ∷ ts) kind stop h = cc

-- if an operator is expected, the fault of what follows is returned
pub operator_stop : (b : Before) (e : Expression) (rest : List Token) (kind : ParseError)
    → operator_fault (first rest) ≡ Some kind → run (after_modulus b e) rest ≡ Err (kind, rest)
unfolding run
operator_stop b e [] kind h = cc
operator_stop b e (Operator op ∷ ts) kind h = cc
operator_stop b e (_ ∷ ts) kind h = cc

-- after an operand, the fault of what follows is returned
pub after_operand_stop : (b : Before) (o : operand.Operand) (rest : List Token) (kind : ParseError)
    → fault places.after_operand (first rest) ≡ Some kind → run (after_operand b o) rest ≡ Err (kind, rest)
unfolding run
after_operand_stop b o [] kind h = cc
after_operand_stop b o (Modulo ∷ ts) kind h = cc
after_operand_stop b o (Operator op ∷ ts) kind h = cc
after_operand_stop b o (_ ∷ ts) kind h = cc

-- if a value is expected, a token that is no value gives a fault
value_stopped : (v : Option Value) (next : Value → State) (ts : List Token) (kind : ParseError) (k : State → Outcome)
    → (if is_some v then None else Some ExpectedValue) ≡ Some kind → proceed (value_move v next) ts k ≡ Err (kind, ts)
value_stopped None next ts kind k h = cc
value_stopped (Some v) next ts kind k h = cc

-- if a modulus is expected, the fault of what follows is returned
pub after_modulo_stop : (b : Before) (o : operand.Operand) (rest : List Token) (kind : ParseError)
    → value_fault (first rest) ≡ Some kind → run (after_modulo b o) rest ≡ Err (kind, rest)
unfolding run
after_modulo_stop b o [] kind h = cc
after_modulo_stop b o (t ∷ ts) kind h = value_stopped (token_value t) _ (t ∷ ts) kind _ h

-- if an item is expected, the fault of what follows is returned
pub before_item_stop : (o : Opened) (xs : List RangeListItem) (rest : List Token) (kind : ParseError)
    → value_fault (first rest) ≡ Some kind → run (before_item o xs) rest ≡ Err (kind, rest)
unfolding run
before_item_stop o xs [] kind h = cc
before_item_stop o xs (t ∷ ts) kind h = value_stopped (token_value t) _ (t ∷ ts) kind _ h

-- if the end of a range is expected, the fault of what follows is returned
pub before_end_stop : (o : Opened) (xs : List RangeListItem) (v : Value) (rest : List Token) (kind : ParseError)
    → value_fault (first rest) ≡ Some kind → run (before_end o xs v) rest ≡ Err (kind, rest)
unfolding run
before_end_stop o xs v [] kind h = cc
before_end_stop o xs v (t ∷ ts) kind h = value_stopped (token_value t) _ (t ∷ ts) kind _ h

-- the end after Or is the fault ExpectedAndCondition
no_operand_or : (groups : List AndCondition) (g : AndCondition) → no_operand (groups ++ g ∷ []) [] ≡ refuse ExpectedAndCondition
no_operand_or [] g = refl
no_operand_or (k ∷ ks) g = refl

-- the end after And is the fault ExpectedRelation
no_operand_and : (groups : List AndCondition) (relations : List Relation) (r : Relation)
    → no_operand groups (relations ++ r ∷ []) ≡ refuse ExpectedRelation
no_operand_and [] [] r = refl
no_operand_and [] (x ∷ xs) r = refl
no_operand_and (g ∷ gs) [] r = refl
no_operand_and (g ∷ gs) (x ∷ xs) r = refl

-- an operator after a modulus leads to the first item
operator_next_run : (b : Before) (e : Expression) (op : operator.Operator) (rest : List Token)
    → run (after_modulus b e) (Operator op ∷ rest)
    ≡ run (before_item (record { before = b; expression = e; operator = op }) []) rest
unfolding run
operator_next_run b e op rest = refl

-- an operator directly after an operand leads to the first item
operand_operator_run : (b : Before) (o : operand.Operand) (op : operator.Operator) (rest : List Token)
    → run (after_operand b o) (Operator op ∷ rest)
    ≡ run
    (before_item (record { before = b; expression = record { operand = o; modulus = None }; operator = op }) [])
    rest
unfolding run
operand_operator_run b o op rest = refl

-- Comma after an item leads to the next item
comma_next_run : (o : Opened) (front : List RangeListItem) (item : RangeListItem) (rest : List Token)
    → run (after_item o front item) (Comma ∷ rest) ≡ run (before_item o (front ++ item ∷ [])) rest
unfolding run
comma_next_run o front item rest = refl

-- DotDot after a single value leads to the end of the range
dots_next_run : (o : Opened) (front : List RangeListItem) (v : Value) (rest : List Token)
    → run (after_item o front (items.Value v)) (DotDot ∷ rest) ≡ run (before_end o front v) rest
unfolding run
dots_next_run o front v rest = refl

-- a state that wants a value
data WantsValue : State → Type 0 where
  wants_item : (o : Opened) (xs : List RangeListItem) → WantsValue (before_item o xs)
  wants_end : (o : Opened) (xs : List RangeListItem) (v : Value) → WantsValue (before_end o xs v)

-- such a state returns the fault of what follows
wants_stop : (s : State) → WantsValue s → (rest : List Token) (kind : ParseError) → value_fault (first rest) ≡ Some kind
    → run s rest ≡ Err (kind, rest)
wants_stop _ (wants_item o xs) rest kind h = before_item_stop o xs rest kind h
wants_stop _ (wants_end o xs v) rest kind h = before_end_stop o xs v rest kind h

-- an item that is known to be a single value is that value
value_item : (item : RangeListItem) (v : Value) → Some item ≡ Some (items.Value v) → item ≡ items.Value v
value_item item v h = cc

-- tokens that await a value lead to such a state
arrives_before_value : (p : List Token) → IsBeforeValue p → (s : State) × WantsValue s × Arrives p s
arrives_before_value p (inl (before, op, e, inl h)) =
    let a = arrives_after_operand before h in
    (_, wants_item _ _, arrives_more p before (Operator op) _ _ e a.2 (operand_operator_run a.0 a.1 op))
arrives_before_value p (inl (before, op, e, inr h)) =
    let a = arrives_after_modulus before h in
    (_, wants_item _ _, arrives_more p before (Operator op) _ _ e a.2 (operator_next_run a.0 a.1 op))
arrives_before_value p (inr (inl (spelled, c, e, h))) =
    let to : LeadsToCondition begin spelled c = run_condition spelled c h in
    (_, wants_item _ _, arrives_more p spelled Comma _ _ e to.leads.run_is (comma_next_run to.leads.opened to.leads.front to.leads.item))
arrives_before_value p (inr (inr (spelled, c, e, h, (v, is_value)))) =
    let to : LeadsToCondition begin spelled c = run_condition spelled c h in
    let is_c = ap ended_condition to.leads.complete ∙ to.condition_is in
    let item_is : to.leads.item ≡ items.Value v =
    value_item to.leads.item v
    (sym (last_item-complete to.leads.opened to.leads.front to.leads.item) ∙ ap last_item is_c ∙ is_value) in (
      _,
      wants_end _ _ _,
      arrives_more p spelled DotDot _ _ e to.leads.run_is
          (λ rest. ap (λ (x : RangeListItem). run (after_item to.leads.opened to.leads.front x) (DotDot ∷ rest))
          item_is
          ∙ dots_next_run to.leads.opened to.leads.front v rest),
    )

-- after tokens that wait at a place, the fault of the next token at that place is returned
waits_run : (place : places.Place) (before rest : List Token) (kind : ParseError) → Waits place before
    → fault place (first rest) ≡ Some kind → run begin (before ++ rest) ≡ Err (kind, rest)
waits_run places.start before rest kind w h =
    ap (λ l. run begin (l ++ rest)) w
    ∙ operand_stop (record { groups = []; relations = [] }) None rest kind (λ e k. cc) h
waits_run places.after_or before rest kind w h =
    let a = arrives_or before w in
    a.1 rest
    ∙ operand_stop (with_group a.0) (Some ExpectedAndCondition) rest kind
    (λ e k. no_operand_or a.0.groups _
    ∙ ap (λ o. elim o [ None ↦ refuse ExpectedAndCondition | Some x ↦ refuse x ]) k)
    h
waits_run places.after_and before rest kind w h =
    let a = arrives_and before w in
    a.2 rest
    ∙ operand_stop (with_relation a.0 a.1) (Some ExpectedRelation) rest kind
    (λ e k. no_operand_and a.0.groups a.0.relations a.1
    ∙ ap (λ o. elim o [ None ↦ refuse ExpectedRelation | Some x ↦ refuse x ]) k)
    h
waits_run places.after_operand before rest kind w h =
    let a = arrives_after_operand before w in a.2 rest ∙ after_operand_stop a.0 a.1 rest kind h
waits_run places.after_modulo before rest kind w h =
    let a = arrives_after_modulo before w in a.2 rest ∙ after_modulo_stop a.0 a.1 rest kind h
waits_run places.after_modulus before rest kind w h = let a = arrives_after_modulus before w in a.2 rest ∙ operator_stop a.0 a.1 rest kind h
waits_run places.before_value before rest kind w h = let a = arrives_before_value before w in a.2 rest ∙ wants_stop a.0 a.1 rest kind h

-- a fault of the tokens is returned, and what it leaves
pub faulty_run : (tokens : List Token) (kind : ParseError) (rest : List Token) → FaultyAt tokens kind rest → run begin tokens ≡ Err (kind, rest)
faulty_run tokens kind rest h = ap (run begin) h.2 ∙ waits_run h.0 h.1 rest kind h.3 h.4
