-- What the reader of conditions returns is what the grammar says: the tokens so far spell what its
-- state holds as complete, so the condition that it ends with is read, and a fault that it stops
-- with is theirs. Readings, Answered, the worked rows and RuleReadings cite the last lemma,
-- SampleSound those on parts with separators after them.
use Rattle.std.proofs.Common.{◌≡◌, List, [], ◌∷◌, ◌++◌, Option, Some, None, Ok, Err, refl, sym, ap, ◌∙◌, subst, append_assoc, inl, inr}
use Rattle.std.proofs.lemmas.List.{append-nil}
use Rattle.plural_reference.specs.declared.ast.RangeListItem.{RangeListItem}
use Rattle.plural_reference.specs.declared.ast.RangeListItem.TheVariants as items
use Rattle.plural_reference.specs.declared.ast.Relation.{Relation}
use Rattle.plural_reference.specs.declared.ast.AndCondition.{AndCondition}
use Rattle.plural_reference.specs.declared.ast.Value.{Value}
use Rattle.plural_operands.specs.declared.operand.Operand as operand
use Rattle.plural_reference.specs.declared.ast.Expression.{Expression}
use Rattle.plural_reference.specs.declared.token.Token.{Token}
use Rattle.plural_reference.specs.declared.token.Token.TheVariants.{Operand, Operator, Number, Zero, DotDot, Comma, Or, And, Modulo, At, E}
use Rattle.plural_reference.specs.declared.error.ParseError.{ParseError}
use Rattle.plural_reference.specs.declared.error.ParseError.TheVariants.{ExpectedValue, ExpectedAndCondition}
use Rattle.plural_reference.specs.declared.error.ParseError.TheVariants.{ExpectedRelation, ExpectedOperand}
use Rattle.plural_reference.specs.Parser as places
use Rattle.plural_reference.specs.Parser.{token_value, operand_of, IsItem, IsExpression, IsModulus, IsRelation, IsAndCondition}
use Rattle.plural_reference.specs.Parser.{IsCondition, Separated, Continues, EndsInValue, IsUnconditional, ReadsUpTo}
use Rattle.plural_reference.specs.FaultPlaces.{FaultyAt}
use Rattle.plural_reference.specs.Parser.{last_item, ConditionThen, IsBeforeOperand, IsAfterOperand, IsAfterModulo, IsAfterModulus}
use Rattle.plural_reference.specs.Parser.{IsBeforeValue, Waits, fault, operand_fault, operator_fault, value_fault}
use Rattle.plural_reference.specs.RelationSinks.{Before, with_relation, with_group}
use Rattle.plural_reference.specs.Inner.Reader.{Opened, State, before_operand, after_operand, after_modulo, after_modulus}
use Rattle.plural_reference.specs.Inner.Reader.{before_item, after_item, before_end, relation_of}
use Rattle.plural_reference.specs.Inner.Reader.{ended_condition, Move, go, finish, refuse, operand_move, item_move, dots_move}
use Rattle.plural_reference.specs.Inner.Reader.{operator_move, operand_next, step, at_end, proceed, run, begin, Outcome, no_operand}
use Rattle.plural_reference.proofs.reading.ReaderComplete.{last_item-complete}

-- parts, each with the separator after it
abbrev pub Terminated : {A : Type 0} → Token → (List Token → A → Type 0) → List Token → List A → Type 0
Terminated separator Part tokens [] = tokens ≡ []
Terminated separator Part tokens (x ∷ xs) =
    (part : List Token) × (rest : List Token) × (tokens ≡ part ++ separator ∷ rest) × Part part x
    × Terminated separator Part rest xs

-- parts with separators after them, and a last part, are parts with separators between them
pub Separated-last : {A : Type 0} (separator : Token) (Part : List Token → A → Type 0) (a b : List Token) (xs : List A)
    (x : A)
    → Terminated separator Part a xs → Part b x → Separated separator Part (a ++ b) (xs ++ x ∷ [])
Separated-last separator Part a b [] x h k = subst (λ l. Part (l ++ b) x) (sym h) k
Separated-last separator Part a b (y ∷ []) x h k = (
  h.0,
  h.1 ++ b,
  ap (λ l. l ++ b) h.2 ∙ append_assoc h.0 (separator ∷ h.1) b,
  h.3,
  Separated-last separator Part h.1 b [] x h.4 k,
)
Separated-last separator Part a b (y ∷ z ∷ zs) x h k = (
  h.0,
  h.1 ++ b,
  ap (λ l. l ++ b) h.2 ∙ append_assoc h.0 (separator ∷ h.1) b,
  h.3,
  Separated-last separator Part h.1 b (z ∷ zs) x h.4 k,
)

-- parts with separators after them, and one more of these
pub Terminated-push : {A : Type 0} (separator : Token) (Part : List Token → A → Type 0) (a b : List Token) (xs : List A)
    (x : A)
    → Terminated separator Part a xs → Part b x → Terminated separator Part (a ++ (b ++ separator ∷ [])) (xs ++ x ∷ [])
Terminated-push separator Part a b [] x h k = (b, [], ap (λ l. l ++ (b ++ separator ∷ [])) h, k, refl)
Terminated-push separator Part a b (y ∷ ys) x h k = (
  h.0,
  h.1 ++ (b ++ separator ∷ []),
  ap (λ l. l ++ (b ++ separator ∷ [])) h.2 ∙ append_assoc h.0 (separator ∷ h.1) (b ++ separator ∷ []),
  h.3,
  Terminated-push separator Part h.1 b ys x h.4 k,
)

-- ---- what the tokens so far spell, by the state that they lead to

-- whole groups, each with Or after it, and relations of the next group, each with And after it
pub record SpellsBefore (p : List Token) (b : Before) : Type 0 where
  pub group_tokens : List Token
  pub relation_tokens : List Token
  pub whole : p ≡ group_tokens ++ relation_tokens
  pub groups : Terminated Or IsAndCondition group_tokens b.groups
  pub relations : Terminated And IsRelation relation_tokens b.relations

-- the same, and then an expression and an operator
pub record SpellsOpened (p : List Token) (o : Opened) : Type 0 where
  pub before_tokens : List Token
  pub expression_tokens : List Token
  pub whole : p ≡ before_tokens ++ (expression_tokens ++ Operator o.operator ∷ [])
  pub before : SpellsBefore before_tokens o.before
  pub expression : IsExpression expression_tokens o.expression

-- the same, and then items, each with Comma after it
pub record SpellsItems (p : List Token) (o : Opened) (xs : List RangeListItem) : Type 0 where
  pub opened_tokens : List Token
  pub item_tokens : List Token
  pub whole : p ≡ opened_tokens ++ item_tokens
  pub opened : SpellsOpened opened_tokens o
  pub items : Terminated Comma IsItem item_tokens xs

-- the same, and then an item
pub record SpellsItem (p : List Token) (o : Opened) (xs : List RangeListItem) (x : RangeListItem) : Type 0 where
  pub items_tokens : List Token
  pub item_tokens : List Token
  pub whole : p ≡ items_tokens ++ item_tokens
  pub items : SpellsItems items_tokens o xs
  pub item : IsItem item_tokens x

-- a relation that is complete
pub record SpellsRelation (p : List Token) (b : Before) (r : Relation) : Type 0 where
  pub before_tokens : List Token
  pub relation_tokens : List Token
  pub whole : p ≡ before_tokens ++ relation_tokens
  pub before : SpellsBefore before_tokens b
  pub relation : IsRelation relation_tokens r

-- an item that ends its list completes the relation
pub relation_done : (p : List Token) (o : Opened) (xs : List RangeListItem) (x : RangeListItem) → SpellsItem p o xs x
    → SpellsRelation p o.before (relation_of o (xs ++ x ∷ []))
relation_done p o xs x h =
    let i = h.item_tokens in
    let it = h.items.item_tokens in
    let e = h.items.opened.expression_tokens in
    record {
      before_tokens = h.items.opened.before_tokens;
      relation_tokens = e ++ Operator o.operator ∷ (it ++ i);
      whole = h.whole ∙ ap (λ l. l ++ i) (h.items.whole ∙ ap (λ l. l ++ it) h.items.opened.whole) ∙ simp append_assoc;
      before = h.items.opened.before;
      relation = (e, it ++ i, refl, h.items.opened.expression, Separated-last Comma IsItem it i xs x h.items.items h.item);
    }

-- a complete relation completes a condition, with the relations and groups before it
pub condition_done : (p : List Token) (b : Before) (r : Relation)
    → SpellsRelation p b r → IsCondition p (ended_condition (with_relation b r))
condition_done p b r h =
    subst (λ l. IsCondition l (ended_condition (with_relation b r)))
    (sym
    (h.whole
    ∙ ap (λ l. l ++ h.relation_tokens) h.before.whole
    ∙ append_assoc h.before.group_tokens h.before.relation_tokens h.relation_tokens))
    (Separated-last Or IsAndCondition h.before.group_tokens (h.before.relation_tokens ++ h.relation_tokens) b.groups
    (record { 0 = b.relations ++ r ∷ [] }) h.before.groups
    (Separated-last And IsRelation h.before.relation_tokens h.relation_tokens b.relations r h.before.relations h.relation))

-- a complete relation and And: the relation joins those of the open group
pub and_done : (p : List Token) (b : Before) (r : Relation) → SpellsRelation p b r → SpellsBefore (p ++ And ∷ []) (with_relation b r)
and_done p b r h = record {
  group_tokens = h.before.group_tokens;
  relation_tokens = h.before.relation_tokens ++ (h.relation_tokens ++ And ∷ []);
  whole = ap (λ l. l ++ And ∷ []) (h.whole ∙ ap (λ l. l ++ h.relation_tokens) h.before.whole) ∙ simp append_assoc;
  groups = h.before.groups;
  relations = Terminated-push And IsRelation h.before.relation_tokens h.relation_tokens b.relations r h.before.relations h.relation;
}

-- a complete relation and Or: the group is complete, and joins those before it
pub or_done : (p : List Token) (b : Before) (r : Relation) → SpellsRelation p b r
    → SpellsBefore (p ++ Or ∷ []) (with_group (with_relation b r))
or_done p b r h = record {
  group_tokens = h.before.group_tokens ++ ((h.before.relation_tokens ++ h.relation_tokens) ++ Or ∷ []);
  relation_tokens = [];
  whole = ap (λ l. l ++ Or ∷ []) (h.whole ∙ ap (λ l. l ++ h.relation_tokens) h.before.whole) ∙ (simp append_assoc) ∙ sym (append-nil _);
  groups =
      Terminated-push Or IsAndCondition h.before.group_tokens (h.before.relation_tokens ++ h.relation_tokens) b.groups
      (record { 0 = b.relations ++ r ∷ [] }) h.before.groups
      (Separated-last And IsRelation h.before.relation_tokens h.relation_tokens b.relations r h.before.relations h.relation);
  relations = refl;
}

-- ---- the states

-- the tokens so far lead to the state
abbrev pub Spells : List Token → State → Type 0
Spells p (before_operand b) = SpellsBefore p b
Spells p (after_operand b o) = (q : List Token) × (t : Token) × (p ≡ q ++ t ∷ []) × SpellsBefore q b × (operand_of t ≡ Some o)
Spells p (after_modulo b o) = (q : List Token) × (t : Token) × (p ≡ q ++ t ∷ Modulo ∷ []) × SpellsBefore q b × (operand_of t ≡ Some o)
Spells p (after_modulus b e) =
    (q : List Token) × (t : Token) × (u : Token) × (v : Value) × (p ≡ q ++ t ∷ Modulo ∷ u ∷ []) × SpellsBefore q b
    × (operand_of t ≡ Some e.operand) × (token_value u ≡ Some v) × (e.modulus ≡ Some v)
Spells p (before_item o xs) = SpellsItems p o xs
Spells p (after_item o xs x) = SpellsItem p o xs x
Spells p (before_end o xs v) = (q : List Token) × (t : Token) × (p ≡ q ++ t ∷ DotDot ∷ []) × SpellsItems q o xs × (token_value t ≡ Some v)

-- what is said of tokens by an outcome
abbrev pub Said : List Token → Outcome → Type 0
Said tokens (Ok (c, rest)) = ReadsUpTo tokens c rest
Said tokens (Err (kind, rest)) = FaultyAt tokens kind rest

-- what is said of a move, if the tokens p lead to a state and the token t follows
abbrev pub SaidOfMove : List Token → Token → List Token → Move → Type 0
SaidOfMove p t ts (go next) = Spells (p ++ t ∷ []) next
SaidOfMove p t ts (finish c) = ReadsUpTo (p ++ t ∷ ts) c (t ∷ ts)
SaidOfMove p t ts (refuse kind) = FaultyAt (p ++ t ∷ ts) kind (t ∷ ts)

-- what is said when the rest ends the reading
abbrev pub SaidOf : List Token → List Token → Move → Type 0
SaidOf tokens rest (go next) = ⊥
SaidOf tokens rest (finish c) = ReadsUpTo tokens c rest
SaidOf tokens rest (refuse kind) = FaultyAt tokens kind rest

-- parts with separators after them are separated parts and one more separator
pub Terminated-front : {A : Type 0} (separator : Token) (Part : List Token → A → Type 0) (tokens : List Token) (x : A)
    (xs : List A)
    → Terminated separator Part tokens (x ∷ xs)
    → (q : List Token) × (tokens ≡ q ++ separator ∷ []) × Separated separator Part q (x ∷ xs)
Terminated-front separator Part tokens x [] h = (h.0, h.2 ∙ ap (λ l. h.0 ++ separator ∷ l) h.4, h.3)
Terminated-front separator Part tokens x (y ∷ ys) h =
    let more = Terminated-front separator Part h.1 y ys h.4 in (
      h.0 ++ separator ∷ more.0,
      h.2 ∙ ap (λ l. h.0 ++ separator ∷ l) more.1 ∙ sym (append_assoc h.0 (separator ∷ more.0) (separator ∷ [])),
      (h.0, more.0, refl, h.3, more.2),
    )

-- ---- waiting places

-- an operand is expected at the start, or after a condition with Or or And
data OperandPlace (p : List Token) : List AndCondition → List Relation → Type 0 where
  at_start : p ≡ [] → OperandPlace p [] []
  behind_or : (g : AndCondition) (gs : List AndCondition) → ConditionThen Or p → OperandPlace p (g ∷ gs) []
  behind_and : (gs : List AndCondition) (r : Relation) (rs : List Relation) → ConditionThen And p → OperandPlace p gs (r ∷ rs)

-- if an operand is expected, what is complete decides at which of these places the tokens are
operand_place : (p : List Token) (groups : List AndCondition) (relations : List Relation)
    → SpellsBefore p (record { groups = groups; relations = relations }) → OperandPlace p groups relations
operand_place p [] [] h = at_start (h.whole ∙ (λ i. h.groups i ++ h.relations i))
operand_place p (g ∷ gs) [] h =
    let f = Terminated-front Or IsAndCondition h.group_tokens g gs h.groups in
    behind_or g gs (f.0, record { 0 = g ∷ gs }, h.whole ∙ (λ i. f.1 i ++ h.relations i) ∙ append-nil (f.0 ++ Or ∷ []), f.2)
operand_place p groups (r ∷ rs) h =
    let f = Terminated-front And IsRelation h.relation_tokens r rs h.relations in
    behind_and groups r rs (
      h.group_tokens ++ f.0,
      record { 0 = groups ++ (record { 0 = r ∷ rs }) ∷ [] },
      h.whole ∙ ap (λ l. h.group_tokens ++ l) f.1 ∙ sym (append_assoc h.group_tokens f.0 (And ∷ [])),
      Separated-last Or IsAndCondition h.group_tokens f.0 groups (record { 0 = r ∷ rs }) h.groups f.2,
    )

-- the end or At after And is the fault ExpectedRelation
and_place : (p : List Token) (rest : List Token) → ConditionThen And p → IsUnconditional rest → FaultyAt (p ++ rest) ExpectedRelation rest
and_place p [] c u = (places.after_and, p, refl, c, refl)
and_place p (At ∷ ts) c u = (places.after_and, p, refl, c, refl)
and_place p (_ ∷ ts) c u = absurd u

-- the end or At, if an operand is expected: no condition at the start, and a fault after Or and And
said_no_operand : (p : List Token) (groups : List AndCondition) (relations : List Relation) (rest : List Token)
    → OperandPlace p groups relations → IsUnconditional rest → SaidOf (p ++ rest) rest (no_operand groups relations)
said_no_operand p [] [] rest (at_start e) u = inl (refl, ap (λ l. l ++ rest) (sym e), subst (λ l. IsUnconditional (l ++ rest)) (sym e) u)
said_no_operand p (g ∷ gs) [] [] (behind_or g' gs' c) u = (places.after_or, p, refl, c, refl)
said_no_operand p (g ∷ gs) [] (At ∷ ts) (behind_or g' gs' c) u = (places.after_or, p, refl, c, refl)
said_no_operand p (g ∷ gs) [] (_ ∷ ts) (behind_or g' gs' c) u = absurd u
said_no_operand p groups (r ∷ rs) rest (behind_and groups' r' rs' c) u = and_place p rest c u

-- what is said when a token ends the reading is said of the move
move_said : (p : List Token) (t : Token) (ts : List Token) (m : Move) → SaidOf (p ++ t ∷ ts) (t ∷ ts) m → SaidOfMove p t ts m
move_said p t ts (go s) h = absurd h
move_said p t ts (finish c) h = h
move_said p t ts (refuse kind) h = h

-- if an operand is expected, any other token than an operand or At is the fault ExpectedOperand
bad_operand : (p : List Token) (groups : List AndCondition) (relations : List Relation) (t : Token) (ts : List Token)
    → OperandPlace p groups relations → ((e : Option ParseError) → operand_fault e (Some t) ≡ Some ExpectedOperand)
    → FaultyAt (p ++ t ∷ ts) ExpectedOperand (t ∷ ts)
bad_operand p groups relations t ts (at_start e) h = (places.start, p, refl, e, h None)
bad_operand p groups relations t ts (behind_or g gs c) h = (places.after_or, p, refl, c, h (Some ExpectedAndCondition))
bad_operand p groups relations t ts (behind_and gs r rs c) h = (places.after_and, p, refl, c, h (Some ExpectedRelation))

-- each such place awaits an operand
before_operand_is : (p : List Token) (groups : List AndCondition) (relations : List Relation)
    → OperandPlace p groups relations → IsBeforeOperand p
before_operand_is p groups relations (at_start e) = inl e
before_operand_is p groups relations (behind_or g gs c) = inr (inl c)
before_operand_is p groups relations (behind_and gs r rs c) = inr (inr c)

-- after whole groups and relations, with their Or and And, an operand is expected
spells_operand_is : (p : List Token) (b : Before) → SpellsBefore p b → IsBeforeOperand p
spells_operand_is p b h = before_operand_is p b.groups b.relations (operand_place p b.groups b.relations h)

-- if an operand is expected, the next token is one, ends the condition, or is a fault
said_operand : (p : List Token) (b : Before) (t : Token) (ts : List Token) → SpellsBefore p b
    → SaidOfMove p t ts (operand_move (operand_of t) t b)
said_operand p b (Operand o) ts h = (p, Operand o, refl, h, refl)
said_operand p b E ts h = (p, E, refl, h, refl)
said_operand p b At ts h =
    move_said p At ts _ (said_no_operand p b.groups b.relations (At ∷ ts) (operand_place p b.groups b.relations h) tt)
said_operand p b _ ts h = bad_operand p b.groups b.relations _ ts (operand_place p b.groups b.relations h) (λ _. refl)

-- after an operand, the next token is Modulo, an operator, or a fault
said_operand_next : (p : List Token) (b : Before) (o : operand.Operand) (t : Token) (ts : List Token)
    → Spells p (after_operand b o) → SaidOfMove p t ts (operand_next t b o)
said_operand_next p b o Modulo ts h = (h.0, h.1, ap (λ l. l ++ Modulo ∷ []) h.2 ∙ append_assoc h.0 (h.1 ∷ []) (Modulo ∷ []), h.3, h.4)
said_operand_next p b o (Operator op) ts h = record {
  opened_tokens = p ++ Operator op ∷ [];
  item_tokens = [];
  whole = sym (append-nil _);
  opened =
      record {
        before_tokens = h.0;
        expression_tokens = h.1 ∷ [];
        whole = ap (λ l. l ++ Operator op ∷ []) h.2 ∙ append_assoc h.0 (h.1 ∷ []) (Operator op ∷ []);
        before = h.3;
        expression = (h.1, [], refl, h.4, refl);
      };
  items = refl;
}
said_operand_next p b o _ ts h = (places.after_operand, p, refl, (h.0, h.1, o, h.2, spells_operand_is h.0 b h.3, h.4), refl)

-- an operand and Modulo wait for a modulus
is_after_modulo : (p q : List Token) (t : Token) (o : operand.Operand) (b : Before) → p ≡ q ++ t ∷ Modulo ∷ []
    → SpellsBefore q b → operand_of t ≡ Some o → IsAfterModulo p
is_after_modulo p q t o b e h k =
    (q ++ t ∷ [], e ∙ sym (append_assoc q (t ∷ []) (Modulo ∷ [])), (q, t, o, refl, spells_operand_is q b h, k))

-- if a modulus is expected, the next token is one, or a fault
said_modulus : (p : List Token) (b : Before) (o : operand.Operand) (t : Token) (ts : List Token)
    → Spells p (after_modulo b o) → SaidOfMove p t ts (step (after_modulo b o) t)
said_modulus p b o (Number n) ts h = (
  h.0,
  h.1,
  Number n,
  record { 0 = n },
  ap (λ l. l ++ Number n ∷ []) h.2 ∙ append_assoc h.0 (h.1 ∷ Modulo ∷ []) (Number n ∷ []),
  h.3,
  h.4,
  refl,
  refl,
)
said_modulus p b o Zero ts h = (
  h.0,
  h.1,
  Zero,
  record { 0 = 0 },
  ap (λ l. l ++ Zero ∷ []) h.2 ∙ append_assoc h.0 (h.1 ∷ Modulo ∷ []) (Zero ∷ []),
  h.3,
  h.4,
  refl,
  refl,
)
said_modulus p b o _ ts h = (places.after_modulo, p, refl, is_after_modulo p h.0 h.1 o b h.2 h.3 h.4, refl)

-- an operand, Modulo and a modulus wait for an operator
is_after_modulus : (p : List Token) (b : Before) (e : Expression) → Spells p (after_modulus b e) → IsAfterModulus p
is_after_modulus p b e h = (
  h.0 ++ h.1 ∷ Modulo ∷ [],
  h.2,
  h.3,
  h.4 ∙ sym (append_assoc h.0 (h.1 ∷ Modulo ∷ []) (h.2 ∷ [])),
  is_after_modulo _ h.0 h.1 e.operand b refl h.5 h.6,
  h.7,
)

-- if an operator is expected, the next token is one, or a fault
said_operator : (p : List Token) (b : Before) (e : Expression) (t : Token) (ts : List Token)
    → Spells p (after_modulus b e) → SaidOfMove p t ts (operator_move t b e)
said_operator p b e (Operator op) ts h = record {
  opened_tokens = p ++ Operator op ∷ [];
  item_tokens = [];
  whole = sym (append-nil _);
  opened =
      record {
        before_tokens = h.0;
        expression_tokens = h.1 ∷ Modulo ∷ h.2 ∷ [];
        whole = ap (λ l. l ++ Operator op ∷ []) h.4 ∙ append_assoc h.0 (h.1 ∷ Modulo ∷ h.2 ∷ []) (Operator op ∷ []);
        before = h.5;
        expression = (
          h.1,
          Modulo ∷ h.2 ∷ [],
          refl,
          h.6,
          subst (IsModulus (Modulo ∷ h.2 ∷ [])) (sym h.8) (h.2, refl, h.7),
        );
      };
  items = refl;
}
said_operator p b e _ ts h = (places.after_modulus, p, refl, is_after_modulus p b e h, refl)

-- after an operator a value is expected, with or without a modulus before it
operator_place : (p : List Token) (o : Opened) → SpellsOpened p o → (m : Option Value) → o.expression.modulus ≡ m → IsBeforeValue p
operator_place p o h None e =
    let x = h.expression in
    let no_modulus : x.1 ≡ [] = subst (IsModulus x.1) e x.4 in
    inl (
      h.before_tokens ++ h.expression_tokens,
      o.operator,
      h.whole ∙ sym (append_assoc h.before_tokens h.expression_tokens _),
      inl (
        h.before_tokens,
        x.0,
        o.expression.operand,
        ap (λ l. h.before_tokens ++ l) (x.2 ∙ ap (λ l. x.0 ∷ l) no_modulus),
        spells_operand_is h.before_tokens o.before h.before,
        x.3,
      ),
    )
operator_place p o h (Some v) e =
    let x = h.expression in
    let modulus : IsModulus x.1 (Some v) = subst (IsModulus x.1) e x.4 in
    inl (
      h.before_tokens ++ h.expression_tokens,
      o.operator,
      h.whole ∙ sym (append_assoc h.before_tokens h.expression_tokens _),
      inr
          (is_after_modulus _ o.before o.expression (
            h.before_tokens,
            x.0,
            modulus.0,
            v,
            ap (λ l. h.before_tokens ++ l) (x.2 ∙ ap (λ l. x.0 ∷ l) modulus.1),
            h.before,
            x.3,
            modulus.2,
            e,
          )),
    )

-- items with a comma after the last one end in a condition and Comma
comma_place : (p : List Token) (o : Opened) (x : RangeListItem) (xs : List RangeListItem) → SpellsItems p o (x ∷ xs) → ConditionThen Comma p
comma_place p o x xs h =
    let f = Terminated-front Comma IsItem h.item_tokens x xs h.items in
    let b = h.opened.before_tokens in
    let e = h.opened.expression_tokens in
    let r : Relation = relation_of o (x ∷ xs) in (
      b ++ (e ++ Operator o.operator ∷ f.0),
      ended_condition (with_relation o.before r),
      h.whole
          ∙ ap (λ l. l ++ h.item_tokens) h.opened.whole
          ∙ ap (λ l. (b ++ (e ++ Operator o.operator ∷ [])) ++ l) f.1
          ∙ (simp append_assoc),
      condition_done _ o.before r
          (record {
            before_tokens = b;
            relation_tokens = e ++ Operator o.operator ∷ f.0;
            whole = refl;
            before = h.opened.before;
            relation = (e, f.0, refl, h.opened.expression, f.2);
          }),
    )

-- if an item is expected, after an operator or a comma, a value is expected
before_value_is : (p : List Token) (o : Opened) (xs : List RangeListItem) → SpellsItems p o xs → IsBeforeValue p
before_value_is p o [] h =
    subst IsBeforeValue (sym (h.whole ∙ ap (λ l. h.opened_tokens ++ l) h.items ∙ append-nil h.opened_tokens))
    (operator_place h.opened_tokens o h.opened o.expression.modulus refl)
before_value_is p o (x ∷ xs) h = inr (inl (comma_place p o x xs h))

-- if an item is expected, the next token is its first value, or a fault
said_item : (p : List Token) (o : Opened) (xs : List RangeListItem) (t : Token) (ts : List Token) → SpellsItems p o xs
    → SaidOfMove p t ts (step (before_item o xs) t)
said_item p o xs (Number n) ts h =
    record { items_tokens = p; item_tokens = Number n ∷ []; whole = refl; items = h; item = (Number n, refl, refl) }
said_item p o xs Zero ts h = record { items_tokens = p; item_tokens = Zero ∷ []; whole = refl; items = h; item = (Zero, refl, refl) }
said_item p o xs _ ts h = (places.before_value, p, refl, before_value_is p o xs h, refl)

-- an item that ends its list completes a condition
item_done : (p : List Token) (o : Opened) (xs : List RangeListItem) (x : RangeListItem) → SpellsItem p o xs x
    → IsCondition p (ended_condition (with_relation o.before (relation_of o (xs ++ x ∷ []))))
item_done p o xs x h = condition_done p o.before _ (relation_done p o xs x h)

-- a range isn't a single value
range_is_no_value : (a b v : Value) → Some (items.Range a b) ≡ Some (items.Value v) → ⊥
range_is_no_value a b v h = cc

-- after an item, DotDot makes a range of a single value, and ends the condition after a range
said_dots : (p : List Token) (o : Opened) (xs : List RangeListItem) (x : RangeListItem) (ts : List Token)
    → SpellsItem p o xs x → SaidOfMove p DotDot ts (dots_move o xs x)
said_dots p o xs (items.Value v) ts h = (
  h.items_tokens,
  h.item.0,
  ap (λ l. l ++ DotDot ∷ []) (h.whole ∙ ap (λ l. h.items_tokens ++ l) h.item.1)
      ∙ append_assoc h.items_tokens (h.item.0 ∷ []) (DotDot ∷ []),
  h.items,
  h.item.2,
)
said_dots p o xs (items.Range a b) ts h =
    inr (
      p,
      refl,
      item_done p o xs (items.Range a b) h,
      λ k. range_is_no_value a b k.0 (sym (last_item-complete o xs (items.Range a b)) ∙ k.1),
    )

-- after an item, And, Or, Comma and perhaps DotDot continue, and any other token ends the condition
said_after_item : (p : List Token) (o : Opened) (xs : List RangeListItem) (x : RangeListItem) (t : Token)
    (ts : List Token)
    → SpellsItem p o xs x → SaidOfMove p t ts (item_move o xs x t)
said_after_item p o xs x And ts h = and_done p o.before _ (relation_done p o xs x h)
said_after_item p o xs x Or ts h = or_done p o.before _ (relation_done p o xs x h)
said_after_item p o xs x Comma ts h = record {
  opened_tokens = h.items.opened_tokens;
  item_tokens = h.items.item_tokens ++ (h.item_tokens ++ Comma ∷ []);
  whole = ap (λ l. l ++ Comma ∷ []) (h.whole ∙ ap (λ l. l ++ h.item_tokens) h.items.whole) ∙ (simp append_assoc);
  opened = h.items.opened;
  items = Terminated-push Comma IsItem h.items.item_tokens h.item_tokens xs x h.items.items h.item;
}
said_after_item p o xs x DotDot ts h = said_dots p o xs x ts h
said_after_item p o xs x _ ts h = inr (p, refl, item_done p o xs x h, λ k. k)

-- after a single value and DotDot a value is expected
dots_place : (p : List Token) (o : Opened) (xs : List RangeListItem) (v : Value) → Spells p (before_end o xs v) → IsBeforeValue p
dots_place p o xs v h = inr (inr (
  h.0 ++ h.1 ∷ [],
  ended_condition (with_relation o.before (relation_of o (xs ++ (items.Value v) ∷ []))),
  h.2 ∙ sym (append_assoc h.0 (h.1 ∷ []) (DotDot ∷ [])),
  item_done _ o xs (items.Value v)
      (record { items_tokens = h.0; item_tokens = h.1 ∷ []; whole = refl; items = h.3; item = (h.1, refl, h.4) }),
  (v, last_item-complete o xs (items.Value v)),
))

-- if the end of a range is expected, the next token is one, or a fault
said_range_end : (p : List Token) (o : Opened) (xs : List RangeListItem) (v : Value) (t : Token) (ts : List Token)
    → Spells p (before_end o xs v) → SaidOfMove p t ts (step (before_end o xs v) t)
said_range_end p o xs v (Number n) ts h =
    record {
      items_tokens = h.0;
      item_tokens = h.1 ∷ DotDot ∷ Number n ∷ [];
      whole = ap (λ l. l ++ Number n ∷ []) h.2 ∙ append_assoc h.0 (h.1 ∷ DotDot ∷ []) (Number n ∷ []);
      items = h.3;
      item = (h.1, Number n, refl, h.4, refl);
    }
said_range_end p o xs v Zero ts h =
    record {
      items_tokens = h.0;
      item_tokens = h.1 ∷ DotDot ∷ Zero ∷ [];
      whole = ap (λ l. l ++ Zero ∷ []) h.2 ∙ append_assoc h.0 (h.1 ∷ DotDot ∷ []) (Zero ∷ []);
      items = h.3;
      item = (h.1, Zero, refl, h.4, refl);
    }
said_range_end p o xs v _ ts h = (places.before_value, p, refl, dots_place p o xs v h, refl)

-- whatever the state, the next token leads on, ends the condition or is a fault as the grammar says
said_step : (p : List Token) (s : State) (t : Token) (ts : List Token) → Spells p s → SaidOfMove p t ts (step s t)
said_step p (before_operand b) t ts h = said_operand p b t ts h
said_step p (after_operand b o) t ts h = said_operand_next p b o t ts h
said_step p (after_modulo b o) t ts h = said_modulus p b o t ts h
said_step p (after_modulus b e) t ts h = said_operator p b e t ts h
said_step p (before_item o xs) t ts h = said_item p o xs t ts h
said_step p (after_item o xs x) t ts h = said_after_item p o xs x t ts h
said_step p (before_end o xs v) t ts h = said_range_end p o xs v t ts h

-- whatever the state, the end of the tokens ends the condition or is a fault as the grammar says
said_end : (p : List Token) (s : State) → Spells p s → SaidOf (p ++ []) [] (at_end s)
said_end p (before_operand b) h = said_no_operand p b.groups b.relations [] (operand_place p b.groups b.relations h) tt
said_end p (after_operand b o) h = (places.after_operand, p, refl, (h.0, h.1, o, h.2, spells_operand_is h.0 b h.3, h.4), refl)
said_end p (after_modulo b o) h = (places.after_modulo, p, refl, is_after_modulo p h.0 h.1 o b h.2 h.3 h.4, refl)
said_end p (after_modulus b e) h = (places.after_modulus, p, refl, is_after_modulus p b e h, refl)
said_end p (before_item o xs) h = (places.before_value, p, refl, before_value_is p o xs h, refl)
said_end p (after_item o xs x) h = inr (p, refl, item_done p o xs x h, tt)
said_end p (before_end o xs v) h = (places.before_value, p, refl, dots_place p o xs v h, refl)

-- what is said of the move at the end is said of the result
said_at_end : (tokens : List Token) (m : Move) → SaidOf tokens [] m → Said tokens (proceed m [] (λ _. Err (ExpectedValue, [])))
said_at_end tokens (go s) h = absurd h
said_at_end tokens (finish c) h = h
said_at_end tokens (refuse kind) h = h

-- what is said of a move, and of the result from the next state, is said of the result from this
-- one
said_move : (p : List Token) (t : Token) (ts : List Token) (m : Move) → SaidOfMove p t ts m
    → ((next : State) → Spells (p ++ t ∷ []) next → Said ((p ++ t ∷ []) ++ ts) (run next ts))
    → Said (p ++ t ∷ ts) (proceed m (t ∷ ts) (λ next. run next ts))
said_move p t ts (go s) h k = subst (λ l. Said l (run s ts)) (append_assoc p (t ∷ []) ts) (k s h)
said_move p t ts (finish c) h k = h
said_move p t ts (refuse kind) h k = h

-- from every state on, what the reader returns is what the grammar says
pub said_run : (p ts : List Token) (s : State) → Spells p s → Said (p ++ ts) (run s ts)
unfolding run
said_run p [] s h = said_at_end (p ++ []) (at_end s) (said_end p s h)
said_run p (t ∷ ts) s h = said_move p t ts (step s t) (said_step p s t ts h) (λ next k. said_run (p ++ t ∷ []) ts next k)

-- what the reader returns is read, or is a fault of the tokens
pub said : (tokens : List Token) → Said tokens (run begin tokens)
said tokens = said_run [] tokens begin (record { group_tokens = []; relation_tokens = []; whole = refl; groups = refl; relations = refl })
