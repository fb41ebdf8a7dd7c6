-- A number that its first digit opened: that digit, one digit more, and its end.
use Rattle.std.proofs.Common.{◌≡◌, ◌≤◌, ◌<◌, ◌+◌, ◌-◌, ◌*◌, ℕ, List, [], ◌∷◌, false, length, get_or, refl, sym, ap, ◌∙◌, arith}
use Rattle.std.proofs.lemmas.Str.{digit_value_digit}
use Rattle.std.specs.Char.{IsAsciiDigit, is_ascii_digit, digit_value}
use Rattle.plural_reference.specs.Inner.Scan.{in_number, number_token, tokens_from, tokens_of}
use Rattle.plural_reference.specs.Inner.BehindFirst.{rest_from, behind_first}
use Rattle.plural_reference.proofs.tokens.ScanComplete.{begin_digit, digit_yes}

-- the value of a digit
value_of_digit : (d : ℕ) → IsAsciiDigit d → digit_value d ≡ d - 48
value_of_digit d h = let value : digit_value d + 48 ≡ d = digit_value_digit d h in omega arith

-- the first digit opens a number
pub number_opens : (d : ℕ) (rest : List ℕ) → 49 ≤ d → d ≤ 57 → tokens_from (in_number (d - 48)) rest ≡ tokens_of (d ∷ rest)
unfolding tokens_from
number_opens d rest low high =
    let digit : IsAsciiDigit d = (omega arith, high) in
    let value : d - 48 ≡ 0 * 10 + digit_value d = omega (arith, value_of_digit d digit) in
    let opened : tokens_of (d ∷ rest) ≡ tokens_from (in_number (0 * 10 + digit_value d)) rest = rw (begin_digit d digit (omega arith)) refl in
    ap (λ n. tokens_from (in_number n) rest) value ∙ sym opened

-- a digit more is added to it
pub number_goes_on : (n d : ℕ) (rest : List ℕ) → IsAsciiDigit d
    → tokens_from (in_number (n * 10 + (d - 48))) rest ≡ tokens_from (in_number n) (d ∷ rest)
unfolding tokens_from
number_goes_on n d rest digit =
    let value : n * 10 + (d - 48) ≡ n * 10 + digit_value d = omega (arith, value_of_digit d digit) in
    let read : tokens_from (in_number n) (d ∷ rest) ≡ tokens_from (in_number (n * 10 + digit_value d)) rest = rw (digit_yes d digit) refl in
    ap (λ m. tokens_from (in_number m) rest) value ∙ sym read

-- the end of the text ends it
pub number_ends : (n : ℕ) (rest : List ℕ) → length rest < 1 → tokens_from (in_number n) rest ≡ number_token n ∷ tokens_of rest
unfolding tokens_from
number_ends n [] short = refl
number_ends n (b ∷ bs) short = absurd (omega (arith, short))

-- and so does a byte that is no digit
pub number_stops : (n : ℕ) (rest : List ℕ) → 1 ≤ length rest → is_ascii_digit (get_or rest 0 0) ≡ false
    → tokens_from (in_number n) rest ≡ number_token n ∷ tokens_of rest
unfolding tokens_from
number_stops n [] some other = absurd (omega (arith, some))
number_stops n (b ∷ bs) some other = rw other refl

-- ---- the bytes behind it

pub number_opens_behind : (d : ℕ) (rest : List ℕ) → 49 ≤ d → d ≤ 57 → rest_from (in_number (d - 48)) rest ≡ behind_first (d ∷ rest)
unfolding rest_from
number_opens_behind d rest low high =
    let digit : IsAsciiDigit d = (omega arith, high) in
    let value : d - 48 ≡ 0 * 10 + digit_value d = omega (arith, value_of_digit d digit) in
    let opened : behind_first (d ∷ rest) ≡ rest_from (in_number (0 * 10 + digit_value d)) rest = rw (begin_digit d digit (omega arith)) refl in
    ap (λ n. rest_from (in_number n) rest) value ∙ sym opened

pub number_goes_on_behind : (n d : ℕ) (rest : List ℕ) → IsAsciiDigit d
    → rest_from (in_number (n * 10 + (d - 48))) rest ≡ rest_from (in_number n) (d ∷ rest)
unfolding rest_from
number_goes_on_behind n d rest digit =
    let value : n * 10 + (d - 48) ≡ n * 10 + digit_value d = omega (arith, value_of_digit d digit) in
    let read : rest_from (in_number n) (d ∷ rest) ≡ rest_from (in_number (n * 10 + digit_value d)) rest = rw (digit_yes d digit) refl in
    ap (λ m. rest_from (in_number m) rest) value ∙ sym read

pub number_ends_behind : (n : ℕ) (rest : List ℕ) → length rest < 1 → rest_from (in_number n) rest ≡ rest
unfolding rest_from
number_ends_behind n [] short = refl
number_ends_behind n (b ∷ bs) short = absurd (omega (arith, short))

pub number_stops_behind : (n : ℕ) (rest : List ℕ) → 1 ≤ length rest → is_ascii_digit (get_or rest 0 0) ≡ false
    → rest_from (in_number n) rest ≡ rest
unfolding rest_from
number_stops_behind n [] some other = absurd (omega (arith, some))
number_stops_behind n (b ∷ bs) some other = rw other refl
