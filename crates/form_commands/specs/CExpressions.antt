-- Expressions of C over an unsigned integer n: what there is of them in the line for gettext, how
-- they are written, and what they mean. A remainder binds more than a comparison, that more than
-- `&&`, that more than `||`, and that more than `? :`.
--     c_condition_text condition      what a condition is written as: conjunctions of atoms, with
--         `||` between them
--     condition_value n condition      whether it isn't 0
--     choice_text place conditions      conditions, each with `?` and its place, and the last place
--     choice_value place n conditions      the place of the first condition that isn't 0, else the
--         last one
use Rattle.std.specs.Prelude.{ℕ, ◌+◌, ◌==◌, List, [], ◌∷◌, ◌++◌, map, flat_map, codes, Bool, not, nat_lt, nat_le, if◌then◌else◌}
use Rattle.std.specs.Fmt.{decimal}
use Rattle.icu_plurals.specs.Truth.{remainder, some_group}

-- ---- A comparison

pub data Sign : Type 0 where
  equal : Sign
  unequal : Sign
  below : Sign
  above : Sign
  at_most : Sign
  at_least : Sign

abbrev pub comparison_sign_text : Sign → List ℕ
comparison_sign_text equal = codes " == "
comparison_sign_text unequal = codes " != "
comparison_sign_text below = codes " < "
comparison_sign_text above = codes " > "
comparison_sign_text at_most = codes " <= "
comparison_sign_text at_least = codes " >= "

abbrev pub sign_value : Sign → ℕ → ℕ → Bool
sign_value equal a b = a == b
sign_value unequal a b = not (a == b)
sign_value below a b = nat_lt a b
sign_value above a b = nat_lt b a
sign_value at_most a b = nat_le a b
sign_value at_least a b = nat_le b a

-- of n, or of its remainder by a modulus, with a number; a modulus 0 is none
pub record Comparison : Type 0 where
  pub modulus : ℕ
  pub sign : Sign
  pub number : ℕ

abbrev pub term_text : ℕ → List ℕ
term_text modulus = if modulus == 0 then codes "n" else (codes "n % " ++ decimal modulus)

abbrev pub comparison_text : Comparison → List ℕ
comparison_text comparison = term_text comparison.modulus ++ comparison_sign_text comparison.sign ++ decimal comparison.number

abbrev pub comparison_value : ℕ → Comparison → Bool
comparison_value n comparison = sign_value comparison.sign (remainder comparison.modulus n) comparison.number

-- ---- Texts joined by others

abbrev pub joined_by : List ℕ → List (List ℕ) → List ℕ
joined_by separator [] = []
joined_by separator (text ∷ texts) = text ++ flat_map (λ next. separator ++ next) texts

-- with `&&`: 1, if there is none
abbrev pub and_text : List (List ℕ) → List ℕ
and_text [] = codes "1"
and_text (text ∷ texts) = joined_by (codes " && ") (text ∷ texts)

-- with `||`: 0, if there is none
abbrev pub or_text : List (List ℕ) → List ℕ
or_text [] = codes "0"
or_text (text ∷ texts) = joined_by (codes " || ") (text ∷ texts)

-- ---- A condition

-- a comparison, or conjunctions of comparisons with `||` between them, in brackets
pub data Atom : Type 0 where
  compared : Comparison → Atom
  bracketed : List (List Comparison) → Atom

abbrev pub atom_text : Atom → List ℕ
atom_text (compared comparison) = comparison_text comparison
atom_text (bracketed conjunctions) = codes "(" ++ (or_text (map (λ all. and_text (map comparison_text all)) conjunctions) ++ codes ")")

abbrev pub atom_value : ℕ → Atom → Bool
atom_value n (compared comparison) = comparison_value n comparison
atom_value n (bracketed conjunctions) = some_group (comparison_value n) conjunctions

abbrev pub c_condition_text : List (List Atom) → List ℕ
c_condition_text condition = or_text (map (λ all. and_text (map atom_text all)) condition)

abbrev pub condition_value : ℕ → List (List Atom) → Bool
condition_value n condition = some_group (atom_value n) condition

-- ---- A choice

abbrev pub choice_text : ℕ → List (List (List Atom)) → List ℕ
choice_text place [] = decimal place
choice_text place (condition ∷ conditions) =
    c_condition_text condition ++ (codes " ? " ++ (decimal place ++ (codes " : " ++ choice_text (place + 1) conditions)))

abbrev pub choice_value : ℕ → ℕ → List (List (List Atom)) → ℕ
choice_value place n [] = place
choice_value place n (condition ∷ conditions) = if condition_value n condition then place else choice_value (place + 1) n conditions
