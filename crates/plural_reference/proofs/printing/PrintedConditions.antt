-- The tokens of a printed condition spell it: item by item, relation by relation, group by group.
-- From spellable conditions to their printed texts; PrintedBack cites it.
use Rattle.std.proofs.Common.{◌≡◌, ◌≢◌, ℕ, List, [], ◌∷◌, ◌++◌, Option, Some, None, refl, sym, ap, ◌∙◌, append_assoc, inl, inr, arith}
use Rattle.std.proofs.lemmas.Bool.{eqb-false}
use Rattle.std.proofs.lemmas.List.Elements.{All-weaker, recursion_from_All}
use Rattle.std.specs.Prelude.{IfSome, codes}
use Rattle.plural_reference.specs.declared.ast.AndCondition.{AndCondition}
use Rattle.plural_reference.specs.declared.ast.Condition.{Condition}
use Rattle.plural_reference.specs.declared.ast.Expression.{Expression}
use Rattle.plural_operands.specs.declared.operand.Operand as operand
use Rattle.plural_operands.specs.declared.operand.Operand.TheVariants as operands
use Rattle.plural_reference.specs.declared.ast.Operator as operator
use Rattle.plural_reference.specs.declared.ast.Operator.TheVariants.{Eq, NotEq}
use Rattle.plural_reference.specs.declared.ast.RangeListItem.{RangeListItem}
use Rattle.plural_reference.specs.declared.ast.RangeListItem.TheVariants as items
use Rattle.plural_reference.specs.declared.ast.Relation.{Relation}
use Rattle.plural_reference.specs.declared.ast.Value.{Value}
use Rattle.plural_reference.specs.declared.token.Token.{Token}
use Rattle.plural_reference.specs.declared.token.Token.TheVariants.{Operand, Operator, DotDot, Comma, Or, And, Modulo, At, E}
use Rattle.plural_reference.specs.Lexer.{first}
use Rattle.plural_reference.specs.Parser.{operand_of, IsItem, IsModulus, IsExpression, IsRelation}
use Rattle.plural_reference.specs.Parser.{IsAndCondition, IsCondition, Continues, IsUnconditional, ReadsUpTo}
use Rattle.plural_reference.specs.PrintingLaws.{FitsToken, IsSpellableItem, IsSpellableRelation, IsSpellableGroup, IsSpellable}
use Rattle.plural_reference.specs.Inner.Scan.{tokens_of, tokens_from}
use Rattle.plural_reference.specs.Serializer.{joined, prefixed, value_text, operator_text, expression_text}
use Rattle.plural_operands.specs.Operands.{operand_text}
use Rattle.plural_reference.specs.Serializer.{item_text, relation_text, and_condition_text, condition_text}
use Rattle.plural_reference.proofs.tokens.Alone.{i_alone}
use Rattle.plural_reference.proofs.printing.PrintedTokens.{below_digits, Scans, scans_then, Spells, joined_spells, EndsRun, number_spells}

-- one byte is not two that differ
some_apart : (x y : ℕ) (o : Option ℕ) → x ≢ y → o ≡ Some x → o ≡ Some y → ⊥
some_apart x y o h e f = let same : x ≡ y = cc in h same

-- ---- items

-- the printed text of an item spells it
item_spells : (x : RangeListItem) → IsSpellableItem x → Spells EndsRun IsItem (item_text x) x
unfolding tokens_from
item_spells (items.Value v) h = number_spells v.0 h
item_spells (items.Range a b) h =
    let low : Spells EndsRun IsItem (value_text a) (items.Value a) = number_spells a.0 h.0 in
    let high : Spells EndsRun IsItem (value_text b) (items.Value b) = number_spells b.0 h.1 in
    let dots : Scans EndsRun (codes "..") (DotDot ∷ []) = record { gives = λ rest f. refl } in
    record {
      tokens = (low.tokens ++ DotDot ∷ []) ++ high.tokens;
      part = (low.part.0, high.part.0, λ i. (low.part.1 i ++ DotDot ∷ []) ++ high.part.1 i, low.part.2, high.part.2);
      scans = record {
        gives = λ rest f.
            ap tokens_of
            (append_assoc (value_text a ++ codes "..") (value_text b) rest
            ∙ append_assoc (value_text a) (codes "..") (value_text b ++ rest))
            ∙ low.scans.gives _ (below_digits 46 (omega arith))
            ∙ ap (λ ts. low.tokens ++ DotDot ∷ ts) (high.scans.gives rest f)
            ∙ sym
            (append_assoc (low.tokens ++ DotDot ∷ []) high.tokens (tokens_of rest)
            ∙ append_assoc low.tokens (DotDot ∷ []) (high.tokens ++ tokens_of rest));
      };
    }

-- ---- expressions

-- a rest that begins with a space
abbrev BeginsWithSpace : List ℕ → Type 0
BeginsWithSpace rest = first rest ≡ Some 32

-- a rest that begins with a space may follow a number
space_ends : (rest : List ℕ) → BeginsWithSpace rest → EndsRun rest
space_ends rest h = rw h (below_digits 32 (omega arith))

-- the letter of an operand is one token before a space, that of the operand
operand_spells : (o : operand.Operand) → (t : Token) × (operand_of t ≡ Some o) × Scans BeginsWithSpace (operand_text o) (t ∷ [])
unfolding tokens_from
operand_spells operands.N = (Operand operands.N, refl, record { gives = λ rest f. refl })
operand_spells operands.I = (
  Operand operands.I,
  refl,
  record { gives = λ rest f. i_alone 105 rest refl (some_apart 32 110 (first rest) (eqb-false 32 110 refl) f) },
)
operand_spells operands.V = (Operand operands.V, refl, record { gives = λ rest f. refl })
operand_spells operands.W = (Operand operands.W, refl, record { gives = λ rest f. refl })
operand_spells operands.F = (Operand operands.F, refl, record { gives = λ rest f. refl })
operand_spells operands.T = (Operand operands.T, refl, record { gives = λ rest f. refl })
operand_spells operands.C = (Operand operands.C, refl, record { gives = λ rest f. refl })
operand_spells operands.E = (E, refl, record { gives = λ rest f. refl })

-- the printed text of a modulus spells it; it is empty if the modulus is absent
modulus_spells : (m : Option Value) → IfSome m FitsToken → Spells BeginsWithSpace IsModulus (prefixed (codes " % ") value_text m) m
unfolding tokens_from
modulus_spells None h = record { tokens = []; part = refl; scans = record { gives = λ rest f. refl } }
modulus_spells (Some v) h =
    let value : Spells EndsRun IsItem (value_text v) (items.Value v) = number_spells v.0 h in
    record {
      tokens = Modulo ∷ value.tokens;
      part = (value.part.0, ap (λ ts. Modulo ∷ ts) value.part.1, value.part.2);
      scans = record { gives = λ rest f. ap (λ ts. Modulo ∷ ts) (value.scans.gives rest (space_ends rest f)) };
    }

-- a space follows an operand, with or without a modulus
modulus_follows : (m : Option Value) (rest : List ℕ) → BeginsWithSpace rest → BeginsWithSpace (prefixed (codes " % ") value_text m ++ rest)
modulus_follows None rest h = h
modulus_follows (Some v) rest h = refl

-- the printed text of an expression spells it
expression_spells : (e : Expression) → IfSome e.modulus FitsToken → Spells BeginsWithSpace IsExpression (expression_text e) e
expression_spells e h =
    let left = operand_spells e.operand in
    let right : Spells BeginsWithSpace IsModulus (prefixed (codes " % ") value_text e.modulus) e.modulus = modulus_spells e.modulus h in
    record {
      tokens = left.0 ∷ right.tokens;
      part = (left.0, right.tokens, refl, left.1, right.part);
      scans =
          scans_then BeginsWithSpace BeginsWithSpace (operand_text e.operand)
          (prefixed (codes " % ") value_text e.modulus) (left.0 ∷ []) right.tokens left.2 right.scans
          (modulus_follows e.modulus);
    }

-- ---- relations

-- an operator between spaces is one token
operator_gives : (op : operator.Operator) (rest : List ℕ) → tokens_of (32 ∷ (operator_text op ++ 32 ∷ rest)) ≡ Operator op ∷ tokens_of rest
unfolding tokens_from
operator_gives Eq rest = refl
operator_gives NotEq rest = refl

-- the five texts of a relation and a rest, joined from the left and from the right
regrouped : (a b c d e rest : List ℕ) → ((((a ++ b) ++ c) ++ d) ++ e) ++ rest ≡ a ++ (b ++ (c ++ (d ++ (e ++ rest))))
regrouped a b c d e rest = simp append_assoc

-- the printed text of a relation spells it
relation_spells : (r : Relation) → IsSpellableRelation r → Spells EndsRun IsRelation (relation_text r) r
unfolding tokens_from
relation_spells r h =
    let left : Spells BeginsWithSpace IsExpression (expression_text r.expression) r.expression = expression_spells r.expression h.0 in
    let right = joined_spells EndsRun IsItem item_text (codes ", ") Comma (λ rest. refl)
    (λ rest. below_digits 44 (omega arith)) r.range_list.0 h.1
    (recursion_from_All (λ x. Spells EndsRun IsItem (item_text x) x) r.range_list.0
    (All-weaker IsSpellableItem (λ x. Spells EndsRun IsItem (item_text x) x) item_spells r.range_list.0 h.2)) in
    record {
      tokens = left.tokens ++ Operator r.operator ∷ right.tokens;
      part = (left.tokens, right.tokens, refl, left.part, right.part);
      scans = record {
        gives = λ rest f.
            ap tokens_of
            (regrouped (expression_text r.expression) (codes " ") (operator_text r.operator) (codes " ")
            (joined (codes ", ") item_text r.range_list.0) rest)
            ∙ left.scans.gives _ refl
            ∙ ap (λ ts. left.tokens ++ ts) (operator_gives r.operator _ ∙ ap (λ ts. Operator r.operator ∷ ts) (right.scans.gives rest f))
            ∙ sym (append_assoc left.tokens (Operator r.operator ∷ right.tokens) (tokens_of rest));
      };
    }

-- ---- conditions

-- the printed text of an and-condition spells it
group_spells : (g : AndCondition) → IsSpellableGroup g → Spells EndsRun IsAndCondition (and_condition_text g) g
unfolding tokens_from
group_spells g h =
    let all = joined_spells EndsRun IsRelation relation_text (codes " and ") And (λ rest. refl)
    (λ rest. below_digits 32 (omega arith)) g.0 h.0
    (recursion_from_All (λ r. Spells EndsRun IsRelation (relation_text r) r) g.0
    (All-weaker IsSpellableRelation (λ r. Spells EndsRun IsRelation (relation_text r) r) relation_spells g.0
    h.1)) in
    record { tokens = all.tokens; part = all.part; scans = all.scans }

-- the printed text of a condition with some group spells it
condition_spells : (c : Condition) → c.0 ≢ [] → IsSpellable c → Spells EndsRun IsCondition (condition_text c) c
unfolding tokens_from
condition_spells c some h =
    let all = joined_spells EndsRun IsAndCondition and_condition_text (codes " or ") Or (λ rest. refl)
    (λ rest. below_digits 32 (omega arith)) c.0 some
    (recursion_from_All (λ g. Spells EndsRun IsAndCondition (and_condition_text g) g) c.0
    (All-weaker IsSpellableGroup (λ g. Spells EndsRun IsAndCondition (and_condition_text g) g) group_spells c.0
    h)) in
    record { tokens = all.tokens; part = all.part; scans = all.scans }

-- neither the end nor At continues a condition
at_ends : (c : Condition) (rest : List Token) → IsUnconditional rest → IfSome (first rest) (λ t. ¬ (Continues c t))
at_ends c [] h = tt
at_ends c (At ∷ ts) h = λ k. k
at_ends c (_ ∷ ts) h = absurd h

-- the tokens of a printed condition, which is read from them before At or the end
pub record ReadsBack (c : Condition) : Type 0 where
  pub tokens : List Token
  pub scans : Scans EndsRun (condition_text c) tokens
  pub reads : (rest : List Token) → IsUnconditional rest → ReadsUpTo (tokens ++ rest) c rest

-- a spellable condition of these groups has such tokens
reads_groups_back : (groups : List AndCondition) → IsSpellable (record { 0 = groups }) → ReadsBack (record { 0 = groups })
reads_groups_back [] h = record { tokens = []; scans = record { gives = λ rest f. refl }; reads = λ rest u. inl (refl, refl, u) }
reads_groups_back (g ∷ gs) h =
    let spelled : Spells EndsRun IsCondition (condition_text (record { 0 = g ∷ gs })) (record { 0 = g ∷ gs }) =
    condition_spells (record { 0 = g ∷ gs }) (λ e. cc) h in
    record {
      tokens = spelled.tokens;
      scans = spelled.scans;
      reads = λ rest u. inr (spelled.tokens, refl, spelled.part, at_ends (record { 0 = g ∷ gs }) rest u);
    }

-- the tokens of the printed text of a spellable condition are read as it, before At or the end
pub condition_reads_back : (c : Condition) → IsSpellable c → ReadsBack c
condition_reads_back c h = reads_groups_back c.0 h
