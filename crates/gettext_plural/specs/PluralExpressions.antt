-- The expressions of a `Plural-Forms`, and how tokens spell them: by the grammar of C, in which
-- operators that bind alike group to the left, and `? :` groups to the right.
--     Spells level tokens e
--     IsPluralExpression text e
use Rattle.std.specs.Prelude.{ℕ, suc, List, [], ◌∷◌, ◌++◌}
use Rattle.gettext_plural.specs.declared.token.Operator.{Operator}
use Rattle.gettext_plural.specs.declared.token.Operator.TheVariants.{Or, And, Equal, Unequal, Below, Above, AtMost, AtLeast, Plus, Minus, Times, Over, Remainder}
use Rattle.gettext_plural.specs.declared.token.Token.{Token}
use Rattle.gettext_plural.specs.declared.token.Token.TheVariants.{Number, N, Not, Joint, Question, Colon, Open, Close}
use Rattle.gettext_plural.specs.PluralTokens.{AreFormulaTokensOf}

pub data Formula : Type 0 where
  number : ℕ → Formula
  the_n : Formula
  negated : Formula → Formula
  joined : Operator → Formula → Formula → Formula
  -- `condition ? yes : no`
  chosen : Formula → Formula → Formula → Formula

-- how tightly an operator binds its operands
abbrev pub binding : Operator → ℕ
binding Or = 1
binding And = 2
binding Equal = 3
binding Unequal = 3
binding Below = 4
binding Above = 4
binding AtMost = 4
binding AtLeast = 4
binding Plus = 5
binding Minus = 5
binding Times = 6
binding Over = 6
binding Remainder = 6

-- the tokens spell the expression at a level: at 0 any, from 1 to 6 all but choices and operators
-- that bind less, at 7 negations and what needs no brackets, at 8 only that
pub data Spells : ℕ → List Token → Formula → Type 0 where
  spells_number : (k : ℕ) → Spells 8 (Number k ∷ []) (number k)
  spells_n : Spells 8 (N ∷ []) the_n
  spells_brackets : (ts : List Token) (e : Formula) → Spells 0 ts e → Spells 8 (Open ∷ (ts ++ Close ∷ [])) e
  spells_negation : (ts : List Token) (e : Formula) → Spells 7 ts e → Spells 7 (Not ∷ ts) (negated e)
  spells_join : (o : Operator) (left right : List Token) (a b : Formula) → Spells (binding o) left a → Spells (suc (binding o)) right b
      → Spells (binding o) (left ++ Joint o ∷ right) (joined o a b)
  spells_choice : (first second third : List Token) (a b c : Formula) → Spells 1 first a → Spells 0 second b → Spells 0 third c
      → Spells 0 (first ++ Question ∷ (second ++ Colon ∷ third)) (chosen a b c)
  spells_tighter : (level : ℕ) (ts : List Token) (e : Formula) → Spells (suc level) ts e → Spells level ts e

-- the tokens of the text, up to its end, spell the expression
abbrev pub IsPluralExpression : List ℕ → Formula → Type 0
IsPluralExpression text e = (tokens : List Token) × AreFormulaTokensOf text tokens × Spells 0 tokens e

-- what a `Plural-Forms` says: how many forms there are, and the expression for the index
pub record Forms : Type 0 where
  pub count : ℕ
  pub formula : Formula
