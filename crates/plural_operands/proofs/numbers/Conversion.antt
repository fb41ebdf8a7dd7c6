-- How the operands of a decimal are computed.
use Rattle.std.proofs.Common.{◌≡◌, ℕ, zero, suc, ◌+◌, ◌-◌, ◌*◌, ◌/◌, ◌%◌, ◌^◌, ◌<◌, ◌≤◌, inl, inr, List, [], ◌∷◌, ◌++◌, refl, sym, ◌∙◌}
use Rattle.std.proofs.Common.{ap, subst, length, take, drop, arith, get_or, ℤ, pos, negsuc, ◌-ℤ◌, lit<, length-append}
use Rattle.std.proofs.Common.{length-drop, length-take, append_assoc, cond, min}
use Rattle.std.proofs.lemmas.Bool.{cases_lt, le-leb, lt-leb}
use Rattle.std.proofs.lemmas.Nat.{pow-add, div-add-mod'}
use Rattle.std.proofs.lemmas.Nat.Gcd.{mod-eq-zero_of_dvd, dvd_trans}
use Rattle.std.proofs.Math.Nat.{pow-suc, dvd-mul_right, dvd_of_mul-dvd-mul_right, mul-div_cancel, pow-le-pow_right}
use Rattle.std.proofs.lemmas.List.{get_or-reverse, get_or-append-add, get_or-append_right, append-nil}
use Rattle.std.proofs.lemmas.List.{take-append-le, take_all, drop-append-le}
use Rattle.std.proofs.lemmas.Int.{ints}
use Rattle.std.proofs.Math.Seq.{drop-cons, drop-append_seam}
use Rattle.std.proofs.Math.ListN.{get_or-eq_default, get_or-append}
use Rattle.std.specs.Int.{◌∣◌}
use Rattle.fixed_decimal.specs.Digits.{value_of}
use Rattle.fixed_decimal.specs.Places.{Places, digit_at, digits_from, shift_right}
use Rattle.plural_operands.specs.Operands.{Operands, HasFraction, kept_whole}
use Rattle.plural_operands.proofs.numbers.Numbers.{power_above}

-- What at most 18 digits write is below 10 ^ 18.
pub below_limit : (number n : ℕ) → number < 10 ^ n → n ≤ 18 → number < 10 ^ 18
below_limit number n h k = let p : 10 ^ n ≤ 10 ^ 18 = pow-le-pow_right (lit< tt) k in omega arith

-- ---- trailing zeros

-- A trailing zero less, and the power of ten that is left out is one higher.
pub one_zero_less : (number shown left written : ℕ) → 0 < left → left ≤ shown → written ≡ number * 10 ^ (shown - left)
    → number % 10 ≡ 0 → written ≡ number / 10 * 10 ^ (shown - (left - 1))
one_zero_less number shown left written p h e z =
    let k : shown - (left - 1) ≡ suc (shown - left) = omega arith in
    let q : number / 10 * 10 + number % 10 ≡ number = div-add-mod' number 10 in
    let n : number ≡ number / 10 * 10 = omega arith in
    e ∙ ap (λ m. m * 10 ^ (shown - left)) n
    ∙ regroup (number / 10) (10 ^ (shown - left)) _ (ap (λ j. 10 ^ j) k ∙ pow-suc 10 (shown - left))
  where
    regroup : (a p q : ℕ) → q ≡ p * 10 → a * 10 * p ≡ a * q
    regroup a p q e = rw e (omega arith)

-- What is left is the quotient by that power.
pub quotient : (number shown left written : ℕ) → written ≡ number * 10 ^ (shown - left) → number ≡ written / 10 ^ (shown - left)
quotient number shown left written e = sym (ap (λ m. m / 10 ^ (shown - left)) e ∙ mul-div_cancel number (power_above (shown - left)))

-- If the last digit isn't 0, no higher power divides the number.
pub no_fewer : (number shown left written : ℕ) → left ≤ shown → written ≡ number * 10 ^ (shown - left)
    → (number % 10 ≡ 0 → ⊥) → (k : ℕ) → 10 ^ (shown - k) ∣ written → left ≤ k
no_fewer number shown left written h e last k d =
    elim (cases_lt k left) [
      | inl below ↦
          let a : 1 + (left - k - 1) + (shown - left) ≡ shown - k = omega arith in
          let p : 10 ^ (shown - k) ≡ 10 ^ (1 + (left - k - 1)) * 10 ^ (shown - left) = ap (λ j. 10 ^ j) (sym a)
          ∙ pow-add 10 (1 + (left - k - 1)) (shown - left) in
          let both : 10 ^ (1 + (left - k - 1)) * 10 ^ (shown - left) ∣ number * 10 ^ (shown - left)
          = subst (λ (m : ℕ). m ∣ number * 10 ^ (shown - left)) p (subst (λ (m : ℕ). 10 ^ (shown - k) ∣ m) e d) in
          let part : 10 ^ (1 + (left - k - 1)) ∣ number
          = dvd_of_mul-dvd-mul_right (10 ^ (1 + (left - k - 1))) (power_above (shown - left)) both in
          let ten : 10 ∣ 10 ^ (1 + (left - k - 1))
          = subst (λ (m : ℕ). 10 ∣ m) (sym (pow-add 10 1 (left - k - 1))) (dvd-mul_right 10 (10 ^ (left - k - 1))) in
          absurd (last (mod-eq-zero_of_dvd 10 (dvd_trans 10 ten part)))
      | inr above ↦ above
    ]

-- ---- the digits of a shifted number

-- the digit at an index from the front on
pub digit_at_index : (x : Places) (j : ℕ) (z : ℤ) → z ≡ (pos (length x.whole) -ℤ pos 1) -ℤ pos j
    → digit_at x z ≡ get_or (x.whole ++ x.fraction) j 0
digit_at_index x j (pos k) e =
    let n : k + 1 + j ≡ length x.whole = omega (arith, ints) in
    let m : length x.whole - 1 - k ≡ j = omega arith in
    get_or-reverse x.whole k 0 (omega arith) ∙ ap (λ i. get_or x.whole i 0) m ∙ sym (get_or-append x.whole x.fraction 0 j (omega arith))
digit_at_index x j (negsuc k) e =
    let n : j ≡ length x.whole + k = omega (arith, ints) in
    sym (ap (λ i. get_or (x.whole ++ x.fraction) i 0) n ∙ get_or-append-add x.whole x.fraction k 0)

-- a shift to the right only adds zeros at the end
same_digits_once : (whole fraction : List ℕ) (j : ℕ)
    → get_or ((whole ++ get_or fraction 0 0 ∷ []) ++ drop 1 fraction) j 0 ≡ get_or (whole ++ fraction) j 0
same_digits_once whole [] j =
    elim (cases_lt j (length whole)) [
      | inl inside ↦
          ap (λ l. get_or l j 0) (append-nil (whole ++ 0 ∷ [])) ∙ get_or-append whole (0 ∷ []) 0 j inside
          ∙ ap (λ l. get_or l j 0) (sym (append-nil whole))
      | inr past ↦
          ap (λ l. get_or l j 0) (append-nil (whole ++ 0 ∷ []))
          ∙ get_or-append_right whole (0 ∷ []) (length whole) j 0 refl past
          ∙ none (j - length whole)
          ∙ sym (ap (λ l. get_or l j 0) (append-nil whole) ∙ get_or-eq_default whole 0 past)
    ]
  where
    none : (i : ℕ) → get_or {A = ℕ} (0 ∷ []) i 0 ≡ 0
    none zero = refl
    none (suc i) = refl
same_digits_once whole (f ∷ fs) j = ap (λ l. get_or l j 0) (append_assoc whole (f ∷ []) fs)

-- The digits stay in their order at each shift.
pub same_digits : (e : ℕ) (x : Places) (j : ℕ)
    → get_or ((shift_right e x).whole ++ (shift_right e x).fraction) j 0 ≡ get_or (x.whole ++ x.fraction) j 0
same_digits zero x j = refl
same_digits (suc e) x j = same_digits_once (shift_right e x).whole (shift_right e x).fraction j ∙ same_digits e x j

-- A shift to the right adds as many integer places as it goes.
pub length-whole : (e : ℕ) (x : Places) → length (shift_right e x).whole ≡ length x.whole + e
length-whole zero x = omega arith
length-whole (suc e) x =
    let k : length (shift_right e x).whole ≡ length x.whole + e = length-whole e x in
    length-append (shift_right e x).whole (get_or (shift_right e x).fraction 0 0 ∷ []) ∙ omega arith

-- It takes as many fraction places, as far as there are any.
pub length-fraction : (e : ℕ) (x : Places) → length (shift_right e x).fraction ≡ length x.fraction - e
length-fraction zero x = omega arith
length-fraction (suc e) x =
    let k : length (shift_right e x).fraction ≡ length x.fraction - e = length-fraction e x in
    length-drop 1 (shift_right e x).fraction ∙ omega arith

-- Digits from a place on are those of the shifted number, as far as it has places.
pub digits_from-part : (e : ℕ) (x : Places) (a n : ℕ)
    → a + n ≤ length ((shift_right e x).whole ++ (shift_right e x).fraction)
    → digits_from x a n ≡ take n (drop a ((shift_right e x).whole ++ (shift_right e x).fraction))
digits_from-part e x a zero h = refl
digits_from-part e x a (suc n) h =
    let all : List ℕ = (shift_right e x).whole ++ (shift_right e x).fraction in
    ap (λ d. d ∷ digits_from x (suc a) n) (sym (same_digits e x a))
    ∙ ap (λ ds. get_or all a 0 ∷ ds) (digits_from-part e x (suc a) n (omega arith))
    ∙ ap (λ ds. take (suc n) ds) (sym (drop-cons all a 0 (omega arith)))

-- the last m integer digits
pub last_digits : (w f : List ℕ) (m : ℕ) → m ≤ length w → take m (drop (length w - m) (w ++ f)) ≡ drop (length w - m) w
last_digits w f m h =
    let l : length (drop (length w - m) w) ≡ m = length-drop (length w - m) w ∙ omega arith in
    ap (λ ds. take m ds) (drop-append-le (length w - m) w f (omega arith))
    ∙ take-append-le m (drop (length w - m) w) f (omega arith)
    ∙ take_all m (drop (length w - m) w) (omega arith)

-- The first n fraction digits.
pub first_fraction_digits : (w f : List ℕ) (n : ℕ) → take n (drop (length w) (w ++ f)) ≡ take n f
first_fraction_digits w f n = ap (λ ds. take n ds) (drop-append_seam w f)

-- ---- the two sides

-- The last m integer digits are those that start m places before the end of the integer digits.
pub last_from : (e : ℕ) (x : Places) (m : ℕ) → m ≤ length (shift_right e x).whole
    → digits_from x (length (shift_right e x).whole - m) m ≡ drop (length (shift_right e x).whole - m) (shift_right e x).whole
last_from e x m h =
    let y : Places = shift_right e x in
    let a : length (y.whole ++ y.fraction) ≡ length y.whole + length y.fraction = length-append y.whole y.fraction in
    digits_from-part e x (length y.whole - m) m (omega arith) ∙ last_digits y.whole y.fraction m h

-- The first n fraction digits are those from the first place after the integer digits on.
pub first_from : (e : ℕ) (x : Places) (n : ℕ) → n ≤ length (shift_right e x).fraction
    → digits_from x (length (shift_right e x).whole) n ≡ take n (shift_right e x).fraction
first_from e x n h =
    let y : Places = shift_right e x in
    let a : length (y.whole ++ y.fraction) ≡ length y.whole + length y.fraction = length-append y.whole y.fraction in
    digits_from-part e x (length y.whole) n (omega arith) ∙ first_fraction_digits y.whole y.fraction n

-- At most 18 integer digits are kept as they are.
pub short_whole : (e : ℕ) (x : Places) (m i : ℕ) → m ≡ length (shift_right e x).whole → m ≤ 18
    → i ≡ value_of (digits_from x (length (shift_right e x).whole - m) m) → i ≡ kept_whole (shift_right e x).whole
short_whole e x m i k h v =
    let w : List ℕ = (shift_right e x).whole in
    let z : length w - m ≡ 0 = omega arith in
    v ∙ ap value_of (last_from e x m (omega arith) ∙ ap (λ j. drop j w) z)
    ∙ sym (ap (λ b. cond b (value_of w) (value_of (drop (length w - 18) w) + 10 ^ 18)) (le-leb (length w) 18 (omega arith)))

-- Of more digits, the last 18 are kept, plus 10 ^ 18.
pub long_whole : (e : ℕ) (x : Places) (m i : ℕ) → m ≡ 18 → 18 < length (shift_right e x).whole
    → i ≡ value_of (digits_from x (length (shift_right e x).whole - m) m) + 10 ^ 18 → i ≡ kept_whole (shift_right e x).whole
long_whole e x m i k h v =
    let w : List ℕ = (shift_right e x).whole in
    v ∙ ap (λ ds. value_of ds + 10 ^ 18) (last_from e x m (omega arith) ∙ ap (λ j. drop (length w - j) w) k)
    ∙ sym (ap (λ b. cond b (value_of w) (value_of (drop (length w - 18) w) + 10 ^ 18)) (lt-leb (length w) 18 h))

-- Of the fraction the first 18 digits are kept, or all if there are fewer.
pub kept_fraction_of : (e : ℕ) (x : Places) (n f : ℕ) → n ≡ min (length (shift_right e x).fraction) 18
    → f ≡ value_of (digits_from x (length (shift_right e x).whole) n)
    → (n ≡ length (take 18 (shift_right e x).fraction)) × (f ≡ value_of (take 18 (shift_right e x).fraction))
kept_fraction_of e x n f k v =
    let fs : List ℕ = (shift_right e x).fraction in
    let l : length (take 18 fs) ≡ min 18 (length fs) = length-take 18 fs in (
      omega arith,
      v ∙ ap value_of (first_from e x n (omega arith) ∙ same_part fs n k),
    )
  where
    same_part : (fs : List ℕ) (n : ℕ) → n ≡ min (length fs) 18 → take n fs ≡ take 18 fs
    same_part fs n k =
        elim (cases_lt (length fs) 18) [
          | inl short ↦ (let m : length fs ≤ n = omega arith in let o : length fs ≤ 18
              = omega arith in take_all n fs m ∙ sym (take_all 18 fs o))
          | inr long ↦ (let m : n ≡ 18 = omega arith in ap (λ j. take j fs) m)
        ]

-- The fraction's operands, of the same digits by other names.
pub same_fraction_of : (o : Operands) (v f shown written : ℕ) → v ≡ shown → f ≡ written → HasFraction o v f → HasFraction o shown written
same_fraction_of o v f shown written e g h = subst (λ (s : ℕ). HasFraction o s written) e (subst (λ (x : ℕ). HasFraction o v x) g h)
