-- What the digits of a number write when its point goes to the right.
use Rattle.std.proofs.Common.{◌≡◌, ℕ, zero, suc, ◌+◌, ◌-◌, ◌*◌, ◌/◌, ◌%◌, ◌^◌, ◌<◌, ◌≤◌, inl, inr, List, [], ◌∷◌, ◌++◌, refl, sym, ◌∙◌}
use Rattle.std.proofs.Common.{ap, subst, length, drop, arith, get_or, lit<, append_assoc}
use Rattle.std.proofs.lemmas.List.{take_all, append-nil}
use Rattle.std.proofs.lemmas.Nat.{pow-add, div-add-mod', div-mul-add, mod-mul-add, mod_below}
use Rattle.std.proofs.Math.Nat.{pow-le-pow_right, mul-lt-mul_of_pos_right, mul-mod_left, div-le_self, mod-mod_of_dvd, dvd-mul_right}
use Rattle.std.specs.Int.{◌∣◌}
use Rattle.fixed_decimal.specs.Digits.{AreDigits, value_of}
use Rattle.fixed_decimal.specs.Places.{Places, IsWritten, shift_right}
use Rattle.plural_operands.specs.Operands.{Operands, HasFraction, AreKept}
use Rattle.plural_operands.specs.Inner.ShortTexts.{IsTrimmedAt, ArePlain}
use Rattle.plural_operands.proofs.numbers.Numbers.{power_above, value_of-append, value_of-append-div, value_of-append-mod, value_of-below}
use Rattle.plural_operands.proofs.numbers.Fractions.{IsWritten-shift_right}
use Rattle.plural_operands.proofs.numbers.Conversion.{length-whole, length-fraction}
use Rattle.plural_operands.proofs.numbers.ShortReading.{has_fraction, nothing_left}
use Rattle.plural_operands.proofs.numbers.Fractions.{kept_whole-short}

-- ---- all digits

power_of_sum : (a b c : ℕ) → c ≡ a + b → 10 ^ c ≡ 10 ^ a * 10 ^ b
power_of_sum a b c e = ap (λ j. 10 ^ j) e ∙ pow-add 10 a b

times_one : (n k : ℕ) → k ≡ 0 → n ≡ n * 10 ^ k
times_one n k e = sym (ap (λ j. n * 10 ^ j) e ∙ omega arith)

-- one place to the right adds a 0 if there is no fraction digit
one_step : (w f : List ℕ) → value_of ((w ++ get_or f 0 0 ∷ []) ++ drop 1 f) ≡ value_of (w ++ f) * 10 ^ (1 - length f)
one_step w [] =
    ap value_of (append-nil (w ++ 0 ∷ [])) ∙ value_of-append w (0 ∷ []) ∙ ten (value_of w)
    ∙ ap (λ l. value_of l * 10 ^ 1) (sym (append-nil w))
  where
    ten : (n : ℕ) → n * 10 ^ 1 + (0 * 10 ^ 0 + 0) ≡ n * 10 ^ 1
    ten n = omega arith
one_step w (f ∷ fs) = ap value_of (append_assoc w (f ∷ []) fs) ∙ times_one (value_of (w ++ f ∷ fs)) (1 - suc (length fs)) (omega arith)

-- A shift adds as many zeros as it goes past the last digit.
shifted_digits : (e : ℕ) (x : Places)
    → value_of ((shift_right e x).whole ++ (shift_right e x).fraction) ≡ value_of (x.whole ++ x.fraction) * 10 ^ (e - length x.fraction)
shifted_digits zero x = times_one (value_of (x.whole ++ x.fraction)) (0 - length x.fraction) (omega arith)
shifted_digits (suc e) x =
    let y : Places = shift_right e x in
    let left : length y.fraction ≡ length x.fraction - e = length-fraction e x in
    one_step y.whole y.fraction
    ∙ ap (λ n. n * 10 ^ (1 - length y.fraction)) (shifted_digits e x)
    ∙ regroup (value_of (x.whole ++ x.fraction)) (10 ^ (e - length x.fraction)) (10 ^ (1 - length y.fraction)) (10 ^ (suc e - length x.fraction))
    (power_of_sum (e - length x.fraction) (1 - length y.fraction) (suc e - length x.fraction) (omega arith))
  where
    regroup : (n a b p : ℕ) → p ≡ a * b → n * a * b ≡ n * p
    regroup n a b p e = rw e (omega arith)

-- ---- the two sides

-- Past the last fraction digit all digits are integer digits.
shifted_past : (e : ℕ) (x : Places) → length x.fraction ≤ e
    → value_of (shift_right e x).whole ≡ value_of x.whole * 10 ^ e + value_of x.fraction * 10 ^ (e - length x.fraction)
shifted_past e x h =
    let y : Places = shift_right e x in
    let left : length y.fraction ≡ length x.fraction - e = length-fraction e x in
    let none : y.fraction ≡ [] = nothing_left y.fraction (omega arith) in
    sym (ap value_of (ap (λ l. y.whole ++ l) none ∙ append-nil y.whole))
    ∙ shifted_digits e x
    ∙ ap (λ n. n * 10 ^ (e - length x.fraction)) (value_of-append x.whole x.fraction)
    ∙ spread (value_of x.whole) (value_of x.fraction) (10 ^ length x.fraction) (10 ^ (e - length x.fraction)) (10 ^ e)
    (power_of_sum (length x.fraction) (e - length x.fraction) e (omega arith))
  where
    spread : (i f a b c : ℕ) → c ≡ a * b → (i * a + f) * b ≡ i * c + f * b
    spread i f a b c e = rw e (omega arith)

-- Before it the fraction digits are divided.
divided : (e : ℕ) (x : Places) → e ≤ length x.fraction
    → value_of ((shift_right e x).whole ++ (shift_right e x).fraction)
    ≡ (value_of x.whole * 10 ^ e + value_of x.fraction / 10 ^ (length x.fraction - e)) * 10 ^ (length x.fraction - e)
    + value_of x.fraction % 10 ^ (length x.fraction - e)
divided e x h =
    let n : ℕ = length x.fraction in
    let f : ℕ = value_of x.fraction in
    let p : ℕ = 10 ^ (n - e) in
    shifted_digits e x
    ∙ sym (times_one (value_of (x.whole ++ x.fraction)) (e - n) (omega arith))
    ∙ value_of-append x.whole x.fraction
    ∙ gather (value_of x.whole) f (10 ^ n) (10 ^ e) p (f / p) (f % p) (power_of_sum e (n - e) n (omega arith)) (sym (div-add-mod' f p))
  where
    gather : (i f a b p q r : ℕ) → a ≡ b * p → f ≡ q * p + r → i * a + f ≡ (i * b + q) * p + r
    gather i f a b p q r e g = rw (e, g) (omega arith)

shifted_before : (e : ℕ) (x : Places) → IsWritten x → e ≤ length x.fraction
    → (value_of (shift_right e x).whole ≡ value_of x.whole * 10 ^ e + value_of x.fraction / 10 ^ (length x.fraction - e))
    × (value_of (shift_right e x).fraction ≡ value_of x.fraction % 10 ^ (length x.fraction - e))
shifted_before e x written h =
    let y : Places = shift_right e x in
    let f : ℕ = value_of x.fraction in
    let p : ℕ = 10 ^ (length x.fraction - e) in
    let left : length y.fraction ≡ length x.fraction - e = length-fraction e x in
    let digits : AreDigits y.fraction = (IsWritten-shift_right e x written).fraction in
    let below : f % p < p = mod_below f p (power_above (length x.fraction - e)) in (
      sym (value_of-append-div y.whole y.fraction digits)
          ∙ ap (λ k. value_of (y.whole ++ y.fraction) / 10 ^ k) left
          ∙ ap (λ m. m / p) (divided e x h)
          ∙ div-mul-add (value_of x.whole * 10 ^ e + f / p) p (f % p) below,
      sym (value_of-append-mod y.whole y.fraction digits)
          ∙ ap (λ k. value_of (y.whole ++ y.fraction) % 10 ^ k) left
          ∙ ap (λ m. m % p) (divided e x h)
          ∙ mod-mul-add (value_of x.whole * 10 ^ e + f / p) p (f % p) below,
    )

-- ---- the last digit that isn't 0

-- if it is moved over the point, only zeros are left
pub none_left : (places f w t e : ℕ) → IsTrimmedAt places f w t → e < places → w ≤ e
    → IsTrimmedAt (places - e) (f % 10 ^ (places - e)) 0 0
none_left places f w t e h inside over = record {
  within = omega arith;
  scaled = ap (λ n. n % 10 ^ (places - e)) (h.scaled
      ∙ regroup t (10 ^ (e - w)) (10 ^ (places - e)) (10 ^ (places - w)) (power_of_sum (e - w) (places - e) (places - w) (omega arith)))
      ∙ mul-mod_left (t * 10 ^ (e - w)) (10 ^ (places - e))
      ∙ omega arith;
  last = inl refl;
}
  where
    regroup : (t a b p : ℕ) → p ≡ a * b → t * p ≡ t * a * b
    regroup t a b p e = rw e (omega arith)

-- if it isn't, the digits up to it are divided
pub some_left : (places f w t e : ℕ) → IsTrimmedAt places f w t → e < w
    → IsTrimmedAt (places - e) (f % 10 ^ (places - e)) (w - e) (t % 10 ^ (w - e))
some_left places f w t e h over =
    let within : w ≤ places = h.within in
    let a : ℕ = 10 ^ (w - e) in
    let b : ℕ = 10 ^ (places - w) in
    let same : places - e - (w - e) ≡ places - w = omega arith in
    let p : 10 ^ (places - e) ≡ a * b = power_of_sum (w - e) (places - w) (places - e) (omega arith) in
    let small : t % a < a = mod_below t a (power_above (w - e)) in
    let below : t % a * b < a * b = mul-lt-mul_of_pos_right {k = b} small (power_above (places - w)) in
    let part : 1 + (w - e - 1) ≡ w - e = omega arith in
    let ten : 10 ∣ a
    = subst (λ (j : ℕ). 10 ∣ 10 ^ j) part (subst (λ (m : ℕ). 10 ∣ m) (sym (pow-add 10 1 (w - e - 1))) (dvd-mul_right 10 (10 ^ (w - e - 1)))) in
    record {
      within = omega arith;
      scaled = ap (λ n. f % n) p
          ∙ ap (λ n. n % (a * b)) (h.scaled ∙ split t a b (t / a) (t % a) (sym (div-add-mod' t a)))
          ∙ mod-mul-add (t / a) (a * b) (t % a * b) below
          ∙ ap (λ j. t % a * 10 ^ j) (sym same);
      last = elim (h.last) [
        | inl none ↦ absurd (omega arith)
        | inr last ↦ inr (λ z. last (sym (mod-mod_of_dvd 10 t ten) ∙ z))
      ];
    }
  where
    split : (t a b q r : ℕ) → t ≡ q * a + r → t * b ≡ q * (a * b) + r * b
    split t a b q r e = rw e (omega arith)

-- ---- the operands

-- A number below a power of ten, times another.
times_below : (n a b : ℕ) → n < 10 ^ a → a + b ≤ 18 → n * 10 ^ b < 10 ^ 18
times_below n a b h few =
    let p : n * 10 ^ b < 10 ^ a * 10 ^ b = mul-lt-mul_of_pos_right {k = 10 ^ b} h (power_above b) in
    let q : 10 ^ (a + b) ≡ 10 ^ a * 10 ^ b = pow-add 10 a b in
    let r : 10 ^ (a + b) ≤ 10 ^ 18 = pow-le-pow_right (lit< tt) few in
    omega arith

-- The integer part is below the power of ten of its places.
plain_whole_below : (x : Places) (whole : ℕ) (o : Operands) → ArePlain x whole o → o.i < 10 ^ whole
plain_whole_below x whole o h =
    subst (λ (n : ℕ). n < 10 ^ whole) (sym h.i) (subst (λ (j : ℕ). value_of x.whole < 10 ^ j) h.places (value_of-below x.whole h.written.whole))

-- So is the fraction.
plain_fraction_below : (x : Places) (whole : ℕ) (o : Operands) → ArePlain x whole o → o.f < 10 ^ o.v
plain_fraction_below x whole o h =
    subst (λ (n : ℕ). n < 10 ^ o.v) (sym h.f)
    (subst (λ (j : ℕ). value_of x.fraction < 10 ^ j) (sym h.shown) (value_of-below x.fraction h.written.fraction))

-- What the integer digits write after the shift, and what the fraction's then write.
pub shifted_whole_below : (x : Places) (whole e : ℕ) (o : Operands) (i p : ℕ) → ArePlain x whole o → whole + e ≤ 18 → i ≡ o.i → p ≡ 10 ^ e
    → i * p < 10 ^ 18
shifted_whole_below x whole e o i p h short same power = rw (same, power) (times_below o.i whole e (plain_whole_below x whole o h) short)

pub shifted_fraction_below : (x : Places) (whole e : ℕ) (o : Operands) (f p : ℕ) → ArePlain x whole o → whole + e ≤ 18 → o.v ≤ e → f ≡ o.f
    → p ≡ 10 ^ (e - o.v) → f * p < 10 ^ 18
shifted_fraction_below x whole e o f p h short past same power =
    rw (same, power) (times_below o.f o.v (e - o.v) (plain_fraction_below x whole o h) (omega arith))

pub divided_fraction_below : (x : Places) (whole : ℕ) (o : Operands) (f p : ℕ) → ArePlain x whole o → f ≡ o.f → f / p < 10 ^ 18
divided_fraction_below x whole o f p h same =
    let below : o.f < 10 ^ o.v = plain_fraction_below x whole o h in
    let few : o.v ≤ 18 = h.few_shown in
    let most : 10 ^ o.v ≤ 10 ^ 18 = pow-le-pow_right (lit< tt) few in
    let quotient : f / p ≤ f = div-le_self f p in
    omega arith

-- At most 18 integer digits of a shifted number are kept.
kept_shift : (x : Places) (e : ℕ) (o : Operands) → length x.whole + e ≤ 18 → length x.fraction ≤ 18
    → o.i ≡ value_of (shift_right e x).whole → o.v ≡ length x.fraction - e → o.f ≡ value_of (shift_right e x).fraction
    → IsTrimmedAt (length x.fraction - e) (value_of (shift_right e x).fraction) o.w o.t → o.c ≡ e → AreKept x e o
kept_shift x e o whole few i v f trimmed c =
    let y : Places = shift_right e x in
    let left : length y.fraction ≡ length x.fraction - e = length-fraction e x in
    let size : length y.whole ≡ length x.whole + e = length-whole e x in
    let fraction : HasFraction o (length y.fraction) (value_of y.fraction)
    = has_fraction o (length y.fraction) (value_of y.fraction) (v ∙ sym left) f
    (subst (λ (n : ℕ). IsTrimmedAt n (value_of y.fraction) o.w o.t) (sym left) trimmed) in
    record {
      i = i ∙ sym (kept_whole-short y.whole (omega arith));
      fraction = subst (λ (l : List ℕ). HasFraction o (length l) (value_of l)) (sym (take_all 18 y.fraction (omega arith))) fraction;
      c = c;
    }

-- The operands of a number whose fraction digits are all moved over the point.
pub kept_past : (x : Places) (whole e : ℕ) (digits o : Operands) → ArePlain x whole digits → whole + e ≤ 18 → digits.v ≤ e
    → o.i ≡ digits.i * 10 ^ e + digits.f * 10 ^ (e - digits.v) → o.v ≡ 0 → o.w ≡ 0 → o.f ≡ 0 → o.t ≡ 0 → o.c ≡ e → AreKept x e o
kept_past x whole e digits o h short past i v w f t c =
    let y : Places = shift_right e x in
    let left : length y.fraction ≡ length x.fraction - e = length-fraction e x in
    let none : y.fraction ≡ [] = nothing_left y.fraction (omega (arith, h.shown)) in
    let zero_written : value_of y.fraction ≡ 0 = ap value_of none in
    let parts : digits.i * 10 ^ e + digits.f * 10 ^ (e - digits.v) ≡ value_of x.whole * 10 ^ e + value_of x.fraction * 10 ^ (e - length x.fraction)
    = ap (λ n. n * 10 ^ e + digits.f * 10 ^ (e - digits.v)) h.i
    ∙ ap (λ n. value_of x.whole * 10 ^ e + n * 10 ^ (e - digits.v)) h.f
    ∙ ap (λ n. value_of x.whole * 10 ^ e + value_of x.fraction * 10 ^ (e - n)) h.shown in
    kept_shift x e o (omega (arith, h.places)) (omega (arith, h.shown, h.few_shown))
    (i ∙ parts ∙ sym (shifted_past e x (omega (arith, h.shown))))
    (v ∙ omega (arith, h.shown)) (f ∙ sym zero_written)
    (record {
      within = omega (arith, w);
      scaled = zero_written ∙ sym (ap (λ n. n * 10 ^ (length x.fraction - e - o.w)) t ∙ omega arith);
      last = inl w;
    })
    c

-- ... whose fraction is divided by the point.
pub kept_before : (x : Places) (whole e : ℕ) (digits o : Operands) → ArePlain x whole digits → whole + e ≤ 18 → e < digits.v
    → o.i ≡ digits.i * 10 ^ e + digits.f / 10 ^ (digits.v - e) → o.v ≡ digits.v - e → o.f ≡ digits.f % 10 ^ (digits.v - e)
    → IsTrimmedAt (digits.v - e) (digits.f % 10 ^ (digits.v - e)) o.w o.t → o.c ≡ e → AreKept x e o
kept_before x whole e digits o h short before i v f trimmed c =
    let both = shifted_before e x h.written (omega (arith, h.shown)) in
    let parts : digits.i * 10 ^ e + digits.f / 10 ^ (digits.v - e) ≡ value_of x.whole * 10 ^ e + value_of x.fraction / 10 ^ (length x.fraction - e)
    = ap (λ n. n * 10 ^ e + digits.f / 10 ^ (digits.v - e)) h.i
    ∙ ap (λ n. value_of x.whole * 10 ^ e + n / 10 ^ (digits.v - e)) h.f
    ∙ ap (λ n. value_of x.whole * 10 ^ e + value_of x.fraction / 10 ^ (n - e)) h.shown in
    let rest : digits.f % 10 ^ (digits.v - e) ≡ value_of (shift_right e x).fraction
    = ap (λ n. n % 10 ^ (digits.v - e)) h.f ∙ ap (λ n. value_of x.fraction % 10 ^ (n - e)) h.shown ∙ sym both.1 in
    let size : digits.v - e ≡ length x.fraction - e = ap (λ n. n - e) h.shown in
    kept_shift x e o (omega (arith, h.places)) (omega (arith, h.shown, h.few_shown))
    (i ∙ parts ∙ sym both.0) (v ∙ size) (f ∙ rest)
    (subst (λ (n : ℕ). IsTrimmedAt n (value_of (shift_right e x).fraction) o.w o.t) size
    (subst (λ (m : ℕ). IsTrimmedAt (digits.v - e) m o.w o.t) rest trimmed))
    c
