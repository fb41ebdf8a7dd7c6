-- The number of a word of digits.
use Rattle.std.proofs.Common.{◌≡◌, ℕ, zero, suc, List, Bool, true, false, not, ◌&&◌, ◌==◌, ◌<◌, ◌≤◌, ◌^◌, length, Result, Ok, Err}
use Rattle.std.proofs.Common.{arith, refl, cond, nat_lt, inl, inr, rules}
use Rattle.std.proofs.lemmas.Bool.{cases_lt, le-ltb}
use Rattle.std.specs.Char.{is_ascii_digit}
use Rattle.std.specs.List.{list_all}
use Rattle.std.specs.Str.Parse.{digits_value, ParsesUnsigned}
use Rattle.std.proofs.lemmas.Str.Parse.{IsNumeralModel, numerals_by_value, parse_digits}
use Rattle.icu_plurals.specs.declared.DecimalError.TheVariants.{Syntax, Limit}
use Rattle.plural_queries.specs.NumberWords.{is_numeral, integer_of}
use Rattle.plural_queries.specs.declared.error.RunError.{RunError}
use Rattle.plural_queries.specs.declared.error.RunError.TheVariants.{Number}

-- a numeral is a list of digits, with their value
digits : IsNumeralModel (λ ds. list_all is_ascii_digit ds ≡ true) (digits_value 10)
digits = numerals_by_value _ (search rules)

-- if a conjunction is true, both its parts are
both_true : (a b : Bool) → (a && b) ≡ true → (a ≡ true) × (b ≡ true)
both_true true b h = (refl, h)
both_true false b h = cc

-- a length that isn't 0 is more than 0
some_length : (n : ℕ) → not (n == 0) ≡ true → 0 < n
some_length zero h = cc
some_length (suc n) h = omega arith

-- a well-formed word whose value is at least 2 ^ 64 is over the limit
limit_of : (b : Bool) (n : ℕ) → b ≡ true → 2 ^ 64 ≤ n
    → ◌≡◌ {A = Result ℕ RunError} (cond (not b) (Err (Number Syntax)) (cond (nat_lt n (2 ^ 64)) (Ok n) (Err (Number Limit))))
    (Err (Number Limit))
limit_of b n h le = rw (h, le-ltb n (2 ^ 64) le) refl

-- a word of digits that is no 64-bit number is over the limit
pub over_limit : {E : Type 0} (word : List ℕ) (e : E)
    → ParsesUnsigned 64 10 word (Err e) → is_numeral word ≡ true → integer_of word ≡ Err (Number Limit)
over_limit word e parsed numeral =
    let parts : (not (length word == 0) ≡ true) × (list_all is_ascii_digit word ≡ true) = both_true _ _ numeral in
    let none : (0 < length word) × (digits_value 10 word < 2 ^ 64) → ⊥ = parse_digits digits 64 word (Err e) parsed parts.1 in
    let some : 0 < length word = some_length (length word) parts.0 in
    elim (cases_lt (digits_value 10 word) (2 ^ 64)) [
      | inl below ↦ absurd (none (some, below))
      | inr above ↦ limit_of (is_numeral word) (digits_value 10 word) numeral above
    ]
