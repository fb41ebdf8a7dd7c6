-- A number is rounded to one number.
use Rattle.std.proofs.Common.{◌≡◌, ◌≢◌, ℕ, zero, suc, ◌+◌, ◌-◌, ◌*◌, ◌^◌, ◌<◌, ◌≤◌, inl, inr, List, [], ◌∷◌, ◌++◌, refl, sym, ◌∙◌, ap}
use Rattle.std.proofs.Common.{subst, length, take, drop, arith, get_or, length-append, ℤ}
use Rattle.std.proofs.lemmas.Bool.{cases_lt}
use Rattle.std.proofs.lemmas.List.{take-append-le, drop-append-le, take_all}
use Rattle.std.proofs.Math.Nat.{one-le-pow, mul-le-mul_right, mul-lt-mul_of_pos_right, pow-le-pow_right}
use Rattle.fixed_decimal.specs.Digits.{value_of, AreDigits}
use Rattle.fixed_decimal.specs.Places.{Places, IsWritten}
use Rattle.fixed_decimal.specs.FractionEnds.{places_down_to}
use Rattle.fixed_decimal.specs.Rounding.{zeros_below, units_of, IsChosen, IsRounded, OneRounding}
use Rattle.fixed_decimal.specs.declared.rounding.RoundingMode.{RoundingMode}
use Rattle.fixed_decimal.proofs.Spans.{AreDigits-append, same_places}
use Rattle.fixed_decimal.proofs.Values.{value_of-below}
use Rattle.fixed_decimal.proofs.Chosen.{one_chosen}

-- Two sums of a digit's part and less than its unit are equal only part by part.
first_equal : (d e p v w : ℕ) → v < p → w < p → d * p + v ≡ e * p + w → d ≡ e
first_equal d e p v w h k s =
    elim (cases_lt d e) [
      | inl less ↦ absurd (less_not p d e v w less h s)
      | inr most ↦ elim (cases_lt e d) [ inl more ↦ absurd (less_not p e d w v more k (sym s)) | inr least ↦ omega arith ]
    ]
  where
    less_not : (p d e v w : ℕ) → d < e → v < p → d * p + v ≡ e * p + w → ⊥
    less_not p d e v w less h s =
        let apart : (d + 1) * p ≤ e * p = mul-le-mul_right p (omega arith) in
        omega arith

-- As many digits that write the same number are the same.
same_digits : (xs ys : List ℕ) → AreDigits xs → AreDigits ys → length xs ≡ length ys → value_of xs ≡ value_of ys → xs ≡ ys
same_digits [] [] h k l v = refl
same_digits [] (y ∷ ys) h k l v = absurd (omega arith)
same_digits (x ∷ xs) [] h k l v = absurd (omega arith)
same_digits (x ∷ xs) (y ∷ ys) h k l v =
    let m : length xs ≡ length ys = omega arith in
    let p : 10 ^ length xs ≡ 10 ^ length ys = ap (λ n. 10 ^ n) m in
    let a : value_of xs < 10 ^ length xs = value_of-below xs h.1 in
    let b : value_of ys < 10 ^ length ys = value_of-below ys k.1 in
    let b_same : value_of ys < 10 ^ length xs = omega arith in
    let s : x * 10 ^ length xs + value_of xs ≡ y * 10 ^ length xs + value_of ys
    = v ∙ ap (λ n. y * n + value_of ys) (sym p) in
    let e : x ≡ y = first_equal x y (10 ^ length xs) (value_of xs) (value_of ys) a b_same s in
    let t : x * 10 ^ length xs ≡ y * 10 ^ length xs = ap (λ n. n * 10 ^ length xs) e in
    let r : value_of xs ≡ value_of ys = omega arith in
    ap (λ n. n ∷ xs) e ∙ ap (λ ns. y ∷ ns) (same_digits xs ys h.1 k.1 m r)

-- Digits that begin with another digit than 0 write no less than fewer digits may.
value_of-least : (ds : List ℕ) (n : ℕ) → n < length ds → get_or ds 0 0 ≢ 0 → 10 ^ n ≤ value_of ds
value_of-least [] n h some = absurd (omega arith)
value_of-least (d ∷ ds) n h some =
    let ten : 0 < 10 = omega arith in
    let p : 10 ^ n ≤ 10 ^ length ds = pow-le-pow_right ten (omega arith) in
    let m : 1 * 10 ^ length ds ≤ d * 10 ^ length ds = mul-le-mul_right (10 ^ length ds) (omega arith) in
    omega arith

-- With as many fraction digits, and without a zero in front of the integer digits, the same value
-- has as many integer digits, at most.
no_more : (a b c d : List ℕ) → length b ≡ length d → AreDigits (a ++ b) → 0 < length a
    → (get_or c 0 0 ≡ 0 → length c ≡ 1) → value_of (a ++ b) ≡ value_of (c ++ d) → length c ≤ length a
no_more a b c d l h some first v =
    elim (cases_lt (length a) (length c)) [
      | inl less ↦
          (let no_zero : get_or c 0 0 ≢ 0 = λ z. (let one : length c ≡ 1 = first z in omega arith) in
          let la : length (a ++ b) ≡ length a + length b = length-append a b in
          let lc : length (c ++ d) ≡ length c + length d = length-append c d in
          let low : 10 ^ length (a ++ b) ≤ value_of (c ++ d)
          = value_of-least (c ++ d) (length (a ++ b)) (omega arith) (λ z. no_zero (sym (front c d (omega arith)) ∙ z)) in
          let high : value_of (a ++ b) < 10 ^ length (a ++ b) = value_of-below (a ++ b) h in
          absurd (omega arith))
      | inr most ↦ most
    ]
  where
    front : (c d : List ℕ) → 0 < length c → get_or (c ++ d) 0 0 ≡ get_or c 0 0
    front [] d h = absurd (omega arith)
    front (x ∷ c) d h = refl

-- a sum of units is cancelled
cancel : (a b p : ℕ) → 0 < p → a * p ≡ b * p → a ≡ b
cancel a b p some e =
    elim (cases_lt a b) [
      | inl less ↦ (let l : a * p < b * p = mul-lt-mul_of_pos_right less some in absurd (omega arith))
      | inr most ↦ elim (cases_lt b a) [
        | inl more ↦ (let l : b * p < a * p = mul-lt-mul_of_pos_right more some in absurd (omega arith))
        | inr least ↦ omega arith
      ]
    ]

-- Two written numbers of one value, with as many fraction digits, and without zeros in front, are
-- the same.
same_written : (y z : Places) → IsWritten y → IsWritten z → length y.fraction ≡ length z.fraction
    → (get_or y.whole 0 0 ≡ 0 → length y.whole ≡ 1) → (get_or z.whole 0 0 ≡ 0 → length z.whole ≡ 1) → units_of y ≡ units_of z → y ≡ z
same_written y z h k l first other v =
    let hd : AreDigits (y.whole ++ y.fraction) = AreDigits-append y.whole y.fraction h.whole h.fraction in
    let kd : AreDigits (z.whole ++ z.fraction) = AreDigits-append z.whole z.fraction k.whole k.fraction in
    let le : length z.whole ≤ length y.whole = no_more y.whole y.fraction z.whole z.fraction l hd h.nonempty other v in
    let ge : length y.whole ≤ length z.whole = no_more z.whole z.fraction y.whole y.fraction (sym l) kd k.nonempty first (sym v) in
    let w : length y.whole ≡ length z.whole = omega arith in
    let la : length (y.whole ++ y.fraction) ≡ length y.whole + length y.fraction = length-append y.whole y.fraction in
    let lb : length (z.whole ++ z.fraction) ≡ length z.whole + length z.fraction = length-append z.whole z.fraction in
    let e : y.whole ++ y.fraction ≡ z.whole ++ z.fraction = same_digits _ _ hd kd (omega arith) v in
    same_places y.whole z.whole y.fraction z.fraction
    (sym (front y.whole y.fraction) ∙ ap (λ n. take n (y.whole ++ y.fraction)) w ∙ ap (λ ds. take (length z.whole) ds) e ∙ front z.whole z.fraction)
    (sym (back y.whole y.fraction) ∙ ap (λ n. drop n (y.whole ++ y.fraction)) w ∙ ap (λ ds. drop (length z.whole) ds) e ∙ back z.whole z.fraction)
  where
    front : (a b : List ℕ) → take (length a) (a ++ b) ≡ a
    front [] b = refl
    front (x ∷ a) b = ap (λ t. x ∷ t) (front a b)

    back : (a b : List ℕ) → drop (length a) (a ++ b) ≡ b
    back [] b = refl
    back (x ∷ a) b = back a b

-- So two roundings of a number by one mode to one place are the same.
pub one_rounding : OneRounding
one_rounding m k x y z h i =
    let u : ℕ = 10 ^ (zeros_below k + length x.fraction) in
    let a : ℕ = units_of x * 10 ^ places_down_to k in
    let hc : IsChosen m h.multiple u a (h.multiple * u)
    = subst (λ b. IsChosen m h.multiple u a b) h.is_multiple
    (subst (λ n. IsChosen m h.multiple u (units_of x * 10 ^ n) (units_of y * 10 ^ length x.fraction)) h.fraction h.chosen) in
    let ic : IsChosen m i.multiple u a (i.multiple * u)
    = subst (λ b. IsChosen m i.multiple u a b) i.is_multiple
    (subst (λ n. IsChosen m i.multiple u (units_of x * 10 ^ n) (units_of z * 10 ^ length x.fraction)) i.fraction i.chosen) in
    let unit : 1 ≤ u = one-le-pow (zeros_below k + length x.fraction) 10 (omega arith) in
    let one : h.multiple ≡ i.multiple = one_chosen m h.multiple i.multiple u a unit hc ic in
    let part : 1 ≤ 10 ^ length x.fraction = one-le-pow (length x.fraction) 10 (omega arith) in
    let v : units_of y ≡ units_of z
    = cancel (units_of y) (units_of z) (10 ^ length x.fraction) part (h.is_multiple ∙ ap (λ n. n * u) one ∙ sym i.is_multiple) in
    same_written y z h.written i.written (h.fraction ∙ sym i.fraction) h.no_leading_zero i.no_leading_zero v
