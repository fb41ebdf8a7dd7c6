-- Laws on the bound, and on relations of exact numbers: which ranges hold an exact value, the bound
-- told before the shift, and that no modulus more can be admitted. The laws of exactness cite it.
use Rattle.std.proofs.Common.{◌≡◌, ℕ, zero, suc, ◌+◌, ◌-◌, ◌*◌, ◌/◌, ◌%◌, ◌^◌, ◌<◌, ◌≤◌, ◌≤ℤ◌, inl, inr}
use Rattle.std.proofs.Common.{List, [], ◌∷◌, refl, sym, ◌∙◌, ap, subst, length, arith, lit<, ℤ, pos}
use Rattle.std.proofs.Common.{negsuc, ◌-ℤ◌, get_or, reverse, Bool, true, false, eqb, cond, Some, None}
use Rattle.std.specs.Prelude.{IsTrue}
use Rattle.std.proofs.lemmas.Bool.{cases_lt, le-leb, leb-true, eqb-true, eq-eqb, and_parts, and_from}
use Rattle.std.proofs.lemmas.Bool.{or_left, or_cases, cond-true, false_from_ne_true, false≢true}
use Rattle.std.proofs.lemmas.Int.{ints}
use Rattle.std.proofs.lemmas.List.{length-reverse}
use Rattle.std.proofs.lemmas.Nat.{div-add-mod', div-mul-add, mod-mul-add}
use Rattle.std.proofs.Math.ListN.{get_or-eq_default, get_or-append}
use Rattle.std.proofs.Math.Nat.{dvd-mul_left, dvd-add_iff_right, pow-le-pow_right}
use Rattle.std.specs.Int.{◌∣◌}
use Rattle.fixed_decimal.specs.Digits.{value_of, AreDigits}
use Rattle.fixed_decimal.specs.Places.{Places, IsWritten, digit_at, shift_right}
use Rattle.plural_operands.specs.Operands.{kept_whole}
use Rattle.plural_reference.specs.Truth.{is_in_ranges, holds_value, range_holds, remainder}
use Rattle.plural_reference.specs.Exactness.{whole_of}
use Rattle.plural_operands.specs.Operands.{parts}
use Rattle.plural_reference.specs.ExactnessLaws.{HoldsWholeNumbers, ShiftedPlaces, LongValue, IsTwice, BoundIsWidest}
use Rattle.plural_operands.proofs.numbers.Numbers.{value_of-below, power_above}
use Rattle.plural_operands.proofs.numbers.Fractions.{exact_whole, IsWritten-shift_right}
use Rattle.plural_reference.proofs.exactness.Agreement.{kept_whole-long, remainder-some}
use Rattle.plural_operands.proofs.numbers.Conversion.{length-whole, length-fraction, digit_at_index, same_digits}

-- ---- whole numbers

-- a number whose whole quotient by a unit is in ranges is some whole number of them, times the unit
some_whole : (ranges : List (ℕ × ℕ)) (unit count : ℕ) (b : Bool) → b ≡ eqb (count % unit) 0
    → IsTrue (holds_value ranges (cond b (Some (count / unit)) None))
    → (k : ℕ) × IsTrue (is_in_ranges ranges k) × (count ≡ k * unit)
some_whole ranges unit count true e h =
    let none : count % unit ≡ 0 = eqb-true (count % unit) 0 (sym e) in
    let split : count / unit * unit + count % unit ≡ count = div-add-mod' count unit in
    (count / unit, h, omega arith)
some_whole ranges unit count false e h = absurd (false≢true h)

-- a whole number of the ranges, times a unit, has its quotient by the unit in the ranges
whole_from : (ranges : List (ℕ × ℕ)) (unit count k : ℕ) → 0 < unit → IsTrue (is_in_ranges ranges k) → count ≡ k * unit
    → IsTrue (holds_value ranges (whole_of unit count))
whole_from ranges unit count k some h e =
    let padded : count ≡ k * unit + 0 = omega arith in
    let none : count % unit ≡ 0 = ap (λ n. n % unit) padded ∙ mod-mul-add k unit 0 some in
    let quotient : count / unit ≡ k = ap (λ n. n / unit) padded ∙ div-mul-add k unit 0 some in
    let w : whole_of unit count ≡ Some k =
    cond-true (eqb (count % unit) 0) (Some (count / unit)) None (eq-eqb (count % unit) 0 none) ∙ ap Some quotient in
    ap (holds_value ranges) w ∙ h

-- the exact value of n is in ranges exactly if a whole number of them is what the modulus leaves of
-- the number
pub holds_whole_numbers : HoldsWholeNumbers
holds_whole_numbers ranges modulus o = (
  λ h. some_whole ranges (10 ^ o.v) (remainder (modulus * 10 ^ o.v) (parts o)) _ refl h,
  λ h. whole_from ranges (10 ^ o.v) (remainder (modulus * 10 ^ o.v) (parts o)) h.0 (power_above o.v) h.1 h.2,
)

-- ---- the bound before the shift

-- moving the point to the right adds that many integer places, and removes at most that many
-- fraction places
pub shifted_places : ShiftedPlaces
shifted_places x e = (length-whole e x, length-fraction e x)

-- digits that write 10 ^ n or more have one that isn't 0 before the last n
long_digits : (ds : List ℕ) (n : ℕ) → AreDigits ds → 10 ^ n ≤ value_of ds → (i : ℕ) × (i + n < length ds) × (0 < get_or ds i 0)
long_digits [] n h v = absurd (let p : 0 < 10 ^ n = power_above n in omega arith)
long_digits (zero ∷ ds) n h v =
    let i : (i : ℕ) × (i + n < length ds) × (0 < get_or ds i 0) = long_digits ds n h.1 (omega arith) in
    let l : i.0 + n < length ds = i.1 in
    (suc i.0, omega arith, i.2)
long_digits (suc d ∷ ds) n h v =
    elim (cases_lt (length ds) n) [
      | inl short ↦
          let b : value_of (suc d ∷ ds) < 10 ^ suc (length ds) = value_of-below (suc d ∷ ds) h in
          let p : 10 ^ suc (length ds) ≤ 10 ^ n = pow-le-pow_right (lit< tt) short in
          absurd (omega arith)
      | inr long ↦ (0, omega arith, omega arith)
    ]

-- digits with one that isn't 0 before the last n write 10 ^ n or more
long_value_of : (ds : List ℕ) (n i : ℕ) → i + n < length ds → 0 < get_or ds i 0 → 10 ^ n ≤ value_of ds
long_value_of [] n i h d = absurd (omega arith)
long_value_of (d ∷ ds) n zero h k =
    let p : 10 ^ n ≤ 10 ^ length ds = pow-le-pow_right (lit< tt) (omega arith) in
    let one : 10 ^ length ds ≤ d * 10 ^ length ds = times_more d (10 ^ length ds) k in
    omega arith
  where
    times_more : (d p : ℕ) → 0 < d → p ≤ d * p
    times_more zero p h = absurd (omega arith)
    times_more (suc d) p h = omega arith
long_value_of (d ∷ ds) n (suc i) h k =
    let v : 10 ^ n ≤ value_of ds = long_value_of ds n i (omega arith) k in
    omega arith

-- a place with a digit that isn't 0 is one of the digits, counted from the front
digit_index : (x : Places) (z : ℤ) → 0 < digit_at x z → (i : ℕ) × (z ≡ (pos (length x.whole) -ℤ pos 1) -ℤ pos i)
digit_index x (pos k) h =
    elim (cases_lt k (length x.whole)) [
      | inl inside ↦ (length x.whole - 1 - k, omega (arith, ints))
      | inr past ↦
          let short : length (reverse x.whole) ≤ k = omega (arith, length-reverse x.whole) in
          let none : get_or (reverse x.whole) k 0 ≡ 0 = get_or-eq_default (reverse x.whole) 0 short in
          absurd (omega arith)
    ]
digit_index x (negsuc k) h = (length x.whole + k, omega (arith, ints))

-- after the shift the integer digits write 10 ^ n or more exactly if some digit but 0 is at a high
-- enough place before it
pub long_value : LongValue
long_value x e n h =
    let y : Places = shift_right e x in
    let w : IsWritten y = IsWritten-shift_right e x h in
    let l : length y.whole ≡ length x.whole + e = length-whole e x in (
      λ v.
          let i : (i : ℕ) × (i + n < length y.whole) × (0 < get_or y.whole i 0) = long_digits y.whole n w.whole v in
          let few : i.0 + n < length y.whole = i.1 in
          let z : ℤ = (pos (length x.whole) -ℤ pos 1) -ℤ pos i.0 in
          let d : digit_at x z ≡ get_or y.whole i.0 0 =
          digit_at_index x i.0 z refl
          ∙ sym (same_digits e x i.0)
          ∙ get_or-append y.whole y.fraction 0 i.0 (omega arith) in
          (z, omega (arith, ints), subst (λ (m : ℕ). 0 < m) (sym d) i.2),
      λ p.
          let i : (i : ℕ) × (p.0 ≡ (pos (length x.whole) -ℤ pos 1) -ℤ pos i) = digit_index x p.0 p.2 in
          let above : (pos n -ℤ pos e) ≤ℤ p.0 = p.1 in
          let same : p.0 ≡ (pos (length x.whole) -ℤ pos 1) -ℤ pos i.0 = i.1 in
          let few : i.0 + n < length y.whole = omega (arith, ints) in
          let d : digit_at x p.0 ≡ get_or y.whole i.0 0 =
          digit_at_index x i.0 p.0 same
          ∙ sym (same_digits e x i.0)
          ∙ get_or-append y.whole y.fraction 0 i.0 (omega arith) in
          long_value_of y.whole n i.0 few (subst (λ (m : ℕ). 0 < m) d p.2),
    )

-- ---- the widest bound

-- if a number and its double have the same remainder by m, m divides the number
double_leaves : (n m : ℕ) → n % m ≡ 2 * n % m → m ∣ n
double_leaves n m e =
    let q : n / m * m + n % m ≡ n = div-add-mod' n m in
    let p : 2 * n / m * m + 2 * n % m ≡ 2 * n = div-add-mod' (2 * n) m in
    let d : 2 * n / m * m ≡ n / m * m + n = lay n (n / m * m) (2 * n / m * m) (n % m) (2 * n % m) q p e in
    (dvd-add_iff_right m (dvd-mul_left m (n / m))).1 (subst (λ (k : ℕ). m ∣ k) d (dvd-mul_left m (2 * n / m)))
  where
    lay : (n a b r s : ℕ) → a + r ≡ n → b + s ≡ 2 * n → r ≡ s → b ≡ a + n
    lay n a b r s h k e = omega arith

-- 2 * 10 ^ 18 has more than 18 digits
long_twice : (x : Places) → IsTwice x → 18 < length x.whole
long_twice x h =
    elim (cases_lt 18 (length x.whole)) [
      | inl long ↦ long
      | inr short ↦
          let b : value_of x.whole < 10 ^ length x.whole = value_of-below x.whole h.0.digits in
          let p : 10 ^ length x.whole ≤ 10 ^ 18 = pow-le-pow_right (lit< tt) short in
          let v : value_of x.whole ≡ 2 * 10 ^ 18 = h.0.value in
          absurd (omega arith)
    ]

-- what is kept of 2 * 10 ^ 18 is 10 ^ 18
kept_twice : (x : Places) → IsTwice x → kept_whole x.whole ≡ 10 ^ 18
kept_twice x h = kept_whole-long x.whole h.0.digits (long_twice x h) ∙ ap (λ n. n % 10 ^ 18 + 10 ^ 18) h.0.value

-- the digits of 2 * 10 ^ 18 are digits, and there are some
written_twice : (x : Places) → IsTwice x → IsWritten x
written_twice x h = record {
  nonempty = (let long : 18 < length x.whole = long_twice x h in omega arith);
  whole = h.0.digits;
  fraction = subst AreDigits (sym h.1) tt;
}

-- a range of one number holds that number
pub in_it : (a k : ℕ) → k ≡ a → is_in_ranges ((a, a) ∷ []) k ≡ true
in_it a k e = or_left (range_holds k (a, a)) false (and_from _ _ (le-leb a k (omega arith)) (le-leb k a (omega arith)))

-- and no other
pub only_it : (a k : ℕ) → is_in_ranges ((a, a) ∷ []) k ≡ true → k ≡ a
only_it a k h =
    elim (or_cases (range_holds k (a, a)) false h) [
      | inl held ↦
          let both : IsTrue _ × IsTrue _ = and_parts _ _ held in
          let low : a ≤ k = leb-true a k both.0 in
          let high : k ≤ a = leb-true k a both.1 in
          omega arith
      | inr none ↦ absurd (false≢true none)
    ]

-- for a modulus that doesn't divide 10 ^ 18, a relation is true of the exact 2 * 10 ^ 18 and false
-- of what is kept of it
pub bound_is_widest : BoundIsWidest
bound_is_widest m x kept exact some other twice c y =
    let r : ℕ = 2 * 10 ^ 18 % m in
    let e : remainder m exact.i ≡ r =
    ap (remainder m) (exact_whole x 0 exact (written_twice x twice) y ∙ twice.0.value)
    ∙ remainder-some m (2 * 10 ^ 18) some in
    let k : remainder m kept.i ≡ 10 ^ 18 % m = ap (remainder m) (c.i ∙ kept_twice x twice) ∙ remainder-some m (10 ^ 18) some in (
      in_it r (remainder m exact.i) e,
      false_from_ne_true (is_in_ranges ((r, r) ∷ []) (remainder m kept.i))
          (λ h. other (double_leaves (10 ^ 18) m (sym k ∙ only_it r (remainder m kept.i) h))),
    )
