-- Digits as numbers.
use Rattle.std.proofs.Common.{◌≡◌, ℕ, zero, suc, ◌+◌, ◌-◌, ◌*◌, ◌/◌, ◌%◌, ◌^◌, ◌<◌, ◌≤◌, List, [], ◌∷◌, ◌++◌, sym, ◌∙◌, ap, subst, length}
use Rattle.std.proofs.Common.{take, drop, arith, get_or, length-append, length-drop, lit<}
use Rattle.std.proofs.lemmas.List.{take-append-drop}
use Rattle.std.proofs.lemmas.Nat.{pow-add, mod-mul-add, div-mul-add}
use Rattle.std.proofs.Math.Nat.{pow-suc, mul-le-mul_right, one-le-pow}
use Rattle.fixed_decimal.specs.Digits.{value_of, AreDigits}

-- x (A B) + (V B + W) is (x A + V) B + W
regroup : (x a b v w p : ℕ) → p ≡ a * b → x * p + (v * b + w) ≡ (x * a + v) * b + w
regroup x a b v w p e = rw e (omega arith)

-- Digits before others count as many powers of ten more as these are.
pub value_of-append : (xs ys : List ℕ) → value_of (xs ++ ys) ≡ value_of xs * 10 ^ length ys + value_of ys
value_of-append [] ys = omega arith
value_of-append (x ∷ xs) ys =
    let e : length (xs ++ ys) ≡ length xs + length ys = length-append xs ys in
    let p : 10 ^ length (xs ++ ys) ≡ 10 ^ length xs * 10 ^ length ys = ap (λ n. 10 ^ n) e ∙ pow-add 10 (length xs) (length ys) in
    ap (λ n. x * 10 ^ length (xs ++ ys) + n) (value_of-append xs ys) ∙ regroup x _ _ (value_of xs) (value_of ys) _ p

-- nine times a power and less than one more is below ten times it
top_below : (d p v q : ℕ) → d < 10 → v < p → q ≡ p * 10 → d * p + v < q
top_below d p v q h k e = let m : d * p ≤ 9 * p = mul-le-mul_right p (omega arith) in omega arith

-- Digits write less than the power of ten of their length.
pub value_of-below : (ds : List ℕ) → AreDigits ds → value_of ds < 10 ^ length ds
value_of-below [] h = omega arith
value_of-below (d ∷ ds) h = top_below d (10 ^ length ds) (value_of ds) _ h.0 (value_of-below ds h.1) (pow-suc 10 (length ds))

-- Digits before digits are digits.
pub AreDigits-append : (xs ys : List ℕ) → AreDigits xs → AreDigits ys → AreDigits (xs ++ ys)
AreDigits-append [] ys h k = k
AreDigits-append (x ∷ xs) ys h k = (h.0, AreDigits-append xs ys h.1 k)

-- Digits stay digits if the first of them are left out.
pub AreDigits-drop : (n : ℕ) (ds : List ℕ) → AreDigits ds → AreDigits (drop n ds)
AreDigits-drop zero ds h = h
AreDigits-drop (suc n) [] h = h
AreDigits-drop (suc n) (d ∷ ds) h = AreDigits-drop n ds h.1

-- So they do if the last are.
pub AreDigits-take : (n : ℕ) (ds : List ℕ) → AreDigits ds → AreDigits (take n ds)
AreDigits-take zero ds h = tt
AreDigits-take (suc n) [] h = tt
AreDigits-take (suc n) (d ∷ ds) h = (h.0, AreDigits-take n ds h.1)

-- Without the last digits a number is the quotient by their power of ten.
pub value_of-append-div : (xs ys : List ℕ) → AreDigits ys → value_of (xs ++ ys) / 10 ^ length ys ≡ value_of xs
value_of-append-div xs ys h =
    rw (value_of-append xs ys) (div-mul-add (value_of xs) (10 ^ length ys) (value_of ys) (value_of-below ys h))

-- The last digits write the remainder by it.
pub value_of-append-mod : (xs ys : List ℕ) → AreDigits ys → value_of (xs ++ ys) % 10 ^ length ys ≡ value_of ys
value_of-append-mod xs ys h =
    rw (value_of-append xs ys) (mod-mul-add (value_of xs) (10 ^ length ys) (value_of ys) (value_of-below ys h))

-- the last n digits write the remainder by 10 ^ n
pub value_of-drop : (ds : List ℕ) (n : ℕ) → AreDigits ds → n ≤ length ds → value_of (drop (length ds - n) ds) ≡ value_of ds % 10 ^ n
value_of-drop ds n h k =
    let last : List ℕ = drop (length ds - n) ds in
    let e : length last ≡ n = length-drop (length ds - n) ds ∙ omega arith in
    let m : value_of (take (length ds - n) ds ++ last) % 10 ^ length last ≡ value_of last
    = value_of-append-mod (take (length ds - n) ds) last (AreDigits-drop (length ds - n) ds h) in
    sym (subst (λ (j : ℕ). value_of ds % 10 ^ j ≡ value_of last) e
    (subst (λ (l : List ℕ). value_of l % 10 ^ length last ≡ value_of last) (take-append-drop (length ds - n) ds) m))

-- A power of ten is above 0.
pub power_above : (j : ℕ) → 0 < 10 ^ j
power_above j = one-le-pow j 10 (lit< tt)

-- ---- a table of powers

-- each number is ten times the one before, and the first is p
abbrev pub ArePowers : ℕ → List ℕ → Type 0
ArePowers p [] = Unit {0}
ArePowers p (n ∷ ns) = (n ≡ p) × ArePowers (p * 10) ns

-- Its numbers are p times the powers of ten.
pub power_at : (p : ℕ) (ns : List ℕ) (k : ℕ) → ArePowers p ns → k < length ns → get_or ns k 0 ≡ p * 10 ^ k
power_at p [] k h b = absurd (omega arith)
power_at p (n ∷ ns) zero h b = h.0 ∙ omega arith
power_at p (n ∷ ns) (suc k) h b = power_at (p * 10) ns k h.1 (omega arith) ∙ ten_times p (10 ^ k) (10 ^ suc k) (pow-suc 10 k)
  where
    ten_times : (p q r : ℕ) → r ≡ q * 10 → p * 10 * q ≡ p * r
    ten_times p q r e = rw e (omega arith)
