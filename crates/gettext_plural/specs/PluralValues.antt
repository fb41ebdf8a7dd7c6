-- The value of an expression at a number, as C computes it in 64 bits without a sign, and the index
-- of a number's form.
--     formula_value e n      none after a division by 0
--     index_of forms n
use Rattle.std.specs.Prelude.{ℕ, ◌+◌, ◌*◌, ◌-◌, ◌/◌, ◌%◌, ◌^◌, Bool, cond, not, ◌&&◌, ◌||◌, nat_eq, nat_lt, nat_le, Option, Some, None, Result, Ok, Err}
use Rattle.gettext_plural.specs.declared.error.IndexError.{IndexError}
use Rattle.gettext_plural.specs.declared.error.IndexError.TheVariants.{DividesByZero, TooLarge}
use Rattle.gettext_plural.specs.declared.token.Operator.{Operator}
use Rattle.gettext_plural.specs.declared.token.Operator.TheVariants.{Or, And, Equal, Unequal, Below, Above, AtMost, AtLeast, Plus, Minus, Times, Over, Remainder}
use Rattle.gettext_plural.specs.PluralExpressions.{Formula, number, the_n, negated, joined, chosen, Forms}

-- ---- Operators

-- 1 for true, 0 for false
abbrev pub truth : Bool → ℕ
truth is_true = cond is_true 1 0

abbrev pub is_true : ℕ → Bool
is_true x = not (nat_eq x 0)

abbrev pub quotient_of : ℕ → ℕ → Option ℕ
quotient_of x y = cond (nat_eq y 0) None (Some (x / y))

abbrev pub remainder_of : ℕ → ℕ → Option ℕ
remainder_of x y = cond (nat_eq y 0) None (Some (x % y))

-- of the values of both operands
abbrev pub applied : Operator → ℕ → ℕ → Option ℕ
applied Or x y = Some (truth (is_true x || is_true y))
applied And x y = Some (truth (is_true x && is_true y))
applied Equal x y = Some (truth (nat_eq x y))
applied Unequal x y = Some (truth (not (nat_eq x y)))
applied Below x y = Some (truth (nat_lt x y))
applied Above x y = Some (truth (nat_lt y x))
applied AtMost x y = Some (truth (nat_le x y))
applied AtLeast x y = Some (truth (nat_le y x))
applied Plus x y = Some ((x + y) % 2 ^ 64)
applied Minus x y = Some ((x + (2 ^ 64 - y)) % 2 ^ 64)
applied Times x y = Some ((x * y) % 2 ^ 64)
applied Over x y = quotient_of x y
applied Remainder x y = remainder_of x y

-- ---- Expressions

-- what follows from a value, if there is one
abbrev pub if_value : Option ℕ → (ℕ → Option ℕ) → Option ℕ
if_value None next = None
if_value (Some x) next = next x

-- the right operand is left out if the left one decides
abbrev pub joined_value : Operator → ℕ → Option ℕ → Option ℕ
joined_value Or x right = cond (is_true x) (Some 1) (if_value right (λ y. Some (truth (is_true y))))
joined_value And x right = cond (is_true x) (if_value right (λ y. Some (truth (is_true y)))) (Some 0)
joined_value o x right = if_value right (λ y. applied o x y)

abbrev pub formula_value : Formula → ℕ → Option ℕ
formula_value (number k) n = Some k
formula_value the_n n = Some n
formula_value (negated a) n = if_value (formula_value a n) (λ x. Some (truth (nat_eq x 0)))
formula_value (joined o a b) n = if_value (formula_value a n) (λ x. joined_value o x (formula_value b n))
formula_value (chosen a b c) n = if_value (formula_value a n) (λ x. cond (is_true x) (formula_value b n) (formula_value c n))

-- ---- The index

-- a value below the number of forms
abbrev pub below : ℕ → ℕ → Result ℕ IndexError
below count value = cond (nat_lt value count) (Ok value) (Err (TooLarge value))

abbrev pub index_if : ℕ → Option ℕ → Result ℕ IndexError
index_if count None = Err DividesByZero
index_if count (Some value) = below count value

abbrev pub index_of : Forms → ℕ → Result ℕ IndexError
index_of forms n = index_if forms.count (formula_value forms.formula n)
