-- The levels of the grammar, and what waits at them.
use Rattle.std.proofs.Common.{◌≡◌, ℕ, zero, suc, ◌+◌, ◌-◌, ◌<◌, ◌≤◌, List, ◌∷◌, true, false, nat_eq, refl, sym, subst, ⊎_elim, arith}
use Rattle.std.proofs.lemmas.Bool.{cond-false, cond-true}
use Rattle.std.proofs.lemmas.Bool.Decides.{eqb_tells, leb_tells}
use Rattle.std.specs.Prelude.{nat_le}
use Rattle.gettext_plural.specs.declared.token.Operator.{Operator}
use Rattle.gettext_plural.specs.declared.token.Operator.TheVariants.{Or, And, Equal, Unequal, Below, Above, AtMost, AtLeast, Plus, Minus, Times, Over, Remainder}
use Rattle.gettext_plural.specs.declared.token.Token.{Token}
use Rattle.gettext_plural.specs.PluralExpressions.{Formula, joined, chosen, binding, Spells, spells_tighter}
use Rattle.gettext_plural.specs.Inner.PluralMachine.{Waiting, left_of, colon, unwind}

pub binding_low : (o : Operator) → 1 ≤ binding o
binding_low Or = omega arith
binding_low And = omega arith
binding_low Equal = omega arith
binding_low Unequal = omega arith
binding_low Below = omega arith
binding_low Above = omega arith
binding_low AtMost = omega arith
binding_low AtLeast = omega arith
binding_low Plus = omega arith
binding_low Minus = omega arith
binding_low Times = omega arith
binding_low Over = omega arith
binding_low Remainder = omega arith

pub binding_high : (o : Operator) → binding o ≤ 6
binding_high Or = omega arith
binding_high And = omega arith
binding_high Equal = omega arith
binding_high Unequal = omega arith
binding_high Below = omega arith
binding_high Above = omega arith
binding_high AtMost = omega arith
binding_high AtLeast = omega arith
binding_high Plus = omega arith
binding_high Minus = omega arith
binding_high Times = omega arith
binding_high Over = omega arith
binding_high Remainder = omega arith

-- a test that holds, and one that doesn't
pub le_is_true : (m n : ℕ) → m ≤ n → nat_le m n ≡ true
le_is_true m n le = ⊎_elim (λ yes. yes.0) (λ no. absurd (omega (arith, no.1, le))) (leb_tells m n)

pub le_is_false : (m n : ℕ) → n < m → nat_le m n ≡ false
le_is_false m n lt = ⊎_elim (λ yes. absurd (omega (arith, yes.1, lt))) (λ no. no.0) (leb_tells m n)

pub zero_is_false : (m : ℕ) → 1 ≤ m → nat_eq m 0 ≡ false
zero_is_false m le = ⊎_elim (λ yes. absurd (omega (arith, yes.1, le))) (λ no. no.0) (eqb_tells m 0)

-- what is spelled at a level is spelled at each below
loosened_by : (k l m : ℕ) (ts : List Token) (e : Formula) → l ≡ k + m → Spells l ts e → Spells m ts e
loosened_by zero l m ts e is s = let same : l ≡ m = omega arith in subst (λ (x : ℕ). Spells x ts e) same s
loosened_by (suc k) l m ts e is s = spells_tighter m ts e (loosened_by k l (suc m) ts e (omega arith) s)

pub loosened : (l m : ℕ) (ts : List Token) (e : Formula) → m ≤ l → Spells l ts e → Spells m ts e
loosened l m ts e le s = loosened_by (l - m) l m ts e (omega arith) s

-- an operator that waits ends before one that binds no more, and stays before one that binds more
pub left_ends : (m : ℕ) (o : Operator) (a : Formula) (ws : List Waiting) (e : Formula) → m ≤ binding o
    → unwind m (left_of o a ∷ ws) e ≡ unwind m ws (joined o a e)
left_ends m o a ws e le = cond-true (nat_le m (binding o)) _ _ (le_is_true m (binding o) le)

pub left_stays : (m : ℕ) (o : Operator) (a : Formula) (ws : List Waiting) (e : Formula) → binding o < m
    → unwind m (left_of o a ∷ ws) e ≡ (left_of o a ∷ ws, e)
left_stays m o a ws e lt = cond-false (nat_le m (binding o)) _ _ (le_is_false m (binding o) lt)

-- a choice that waits stays before each operator
pub colon_stays : (m : ℕ) (a b : Formula) (ws : List Waiting) (e : Formula) → 1 ≤ m → unwind m (colon a b ∷ ws) e ≡ (colon a b ∷ ws, e)
colon_stays m a b ws e le = cond-false (nat_eq m 0) _ _ (zero_is_false m le)

pub colon_ends : (m : ℕ) (a b : Formula) (ws : List Waiting) (e : Formula) → m ≤ 0
    → unwind m (colon a b ∷ ws) e ≡ unwind m ws (chosen a b e)
colon_ends m a b ws e le =
    let is : m ≡ 0 = omega arith in
    let P : ℕ → Type 0 = λ x. unwind x (colon a b ∷ ws) e ≡ unwind x ws (chosen a b e) in
    subst P (sym is) refl
