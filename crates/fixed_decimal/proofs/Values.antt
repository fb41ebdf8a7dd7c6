-- Digits and the numbers that they write.
use Rattle.std.proofs.Common.{◌≡◌, ℕ, suc, ◌+◌, ◌*◌, ◌^◌, ◌<◌, ◌≤◌, List, [], ◌∷◌, ◌++◌, sym, ◌∙◌, ap, length, take, arith, get_or}
use Rattle.std.proofs.Common.{length-append}
use Rattle.std.proofs.lemmas.Nat.{pow-add}
use Rattle.std.proofs.Math.Nat.{pow-suc, mul-le-mul_right, pow-le-pow_right}
use Rattle.std.proofs.lemmas.Str.{digit_value_digit}
use Rattle.std.specs.Char.{digit_value}
use Rattle.std.specs.Str.Parse.{digits_value_after}
use Rattle.std.proofs.lemmas.List.{take_more, length-take-le}
use Rattle.fixed_decimal.specs.Digits.{value_of, AreDigits, text_of, ReadAlike}
use Rattle.fixed_decimal.proofs.Spans.{AreDigits-take}

-- x (A B) + (V B + W) is (x A + V) B + W
regroup : (x a b v w p : ℕ) → p ≡ a * b → x * p + (v * b + w) ≡ (x * a + v) * b + w
regroup x a b v w p e = rw e (omega arith)

-- Digits before others count as many powers of ten more as these are.
pub value_of-append : (xs ys : List ℕ) → value_of (xs ++ ys) ≡ value_of xs * 10 ^ length ys + value_of ys
value_of-append [] ys = omega arith
value_of-append (x ∷ xs) ys =
    let e : length (xs ++ ys) ≡ length xs + length ys = length-append xs ys in
    let p : 10 ^ length (xs ++ ys) ≡ 10 ^ length xs * 10 ^ length ys = ap (λ n. 10 ^ n) e ∙ pow-add 10 (length xs) (length ys) in
    ap (λ n. x * 10 ^ length (xs ++ ys) + n) (value_of-append xs ys) ∙ regroup x _ _ (value_of xs) (value_of ys) _ p

-- nine times a power and less than one more is below ten times it
top_below : (d p v q : ℕ) → d < 10 → v < p → q ≡ p * 10 → d * p + v < q
top_below d p v q h k e = let m : d * p ≤ 9 * p = mul-le-mul_right p (omega arith) in omega arith

-- Digits write less than the power of ten of their length.
pub value_of-below : (ds : List ℕ) → AreDigits ds → value_of ds < 10 ^ length ds
value_of-below [] h = omega arith
value_of-below (d ∷ ds) h = top_below d (10 ^ length ds) (value_of ds) _ h.0 (value_of-below ds h.1) (pow-suc 10 (length ds))

-- the value of few digits
pub value_of-most : (ds : List ℕ) (n : ℕ) → AreDigits ds → length ds ≤ n → value_of ds < 10 ^ n
value_of-most ds n h k =
    let ten : 0 < 10 = omega arith in
    let more : 10 ^ length ds ≤ 10 ^ n = pow-le-pow_right ten k in
    let l : value_of ds < 10 ^ length ds = value_of-below ds h in
    omega arith

-- ---- digits that are read one by one

-- One digit more is ten times the number, and the digit.
pub value_of-more : (ds : List ℕ) (i : ℕ) → i < length ds → value_of (take (i + 1) ds) ≡ value_of (take i ds) * 10 + get_or ds i 0
value_of-more ds i h = ap value_of (take_more ds i 0 h) ∙ value_of-append (take i ds) (get_or ds i 0 ∷ []) ∙ omega arith

-- A number of at most 18 digits stays below 10 ^ 18 with the next one.
pub value_of-next : (ds : List ℕ) (i number : ℕ) → AreDigits ds → length ds ≤ 18 → i < length ds
    → number ≡ value_of (take i ds) → number * 10 + get_or ds i 0 < 10 ^ 18
value_of-next ds i number digits few inside is =
    let more : number * 10 + get_or ds i 0 ≡ value_of (take (i + 1) ds) = ap (λ n. n * 10 + get_or ds i 0) is
    ∙ sym (value_of-more ds i inside) in
    let short : length (take (i + 1) ds) ≤ 18 = omega (arith, length-take-le (i + 1) ds (omega arith)) in
    let below : value_of (take (i + 1) ds) < 10 ^ 18 = value_of-most (take (i + 1) ds) 18 (AreDigits-take (i + 1) ds digits) short in
    omega arith

-- ---- digits as std reads them

-- (10 n + d) P + v is n (10 P) + (d P + v)
one_behind : (n d p q v : ℕ) → q ≡ p * 10 → (n * 10 + d) * p + v ≡ n * q + (d * p + v)
one_behind n d p q v e = rw e (omega arith)

-- Behind a number each digit is read as ten times what is before it, and itself.
read_behind : (n : ℕ) (ds : List ℕ) → AreDigits ds → digits_value_after 10 n (text_of ds) ≡ n * 10 ^ length ds + value_of ds
read_behind n [] h = omega arith
read_behind n (d ∷ ds) h =
    let below : d < 10 = h.0 in
    let read : digit_value (48 + d) + 48 ≡ 48 + d = digit_value_digit (48 + d) (omega arith, omega arith) in
    let same : digit_value (48 + d) ≡ d = omega arith in
    ap (λ k. digits_value_after 10 (n * 10 + k) (text_of ds)) same
    ∙ read_behind (n * 10 + d) ds h.1
    ∙ one_behind n d (10 ^ length ds) (10 ^ suc (length ds)) (value_of ds) (pow-suc 10 (length ds))

-- So the text of digits is read as their number.
pub read_alike : ReadAlike
read_alike ds h = read_behind 0 ds h ∙ omega arith
