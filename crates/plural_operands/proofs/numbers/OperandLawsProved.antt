-- Laws on the operands of every number: integers of 64 and 128 bits, numbers of which nothing is
-- cut, that a number has one list of kept and one of exact operands, and what the exact ones tell.
-- The laws of operands cite it, and NamedOnce that operands are known by their parts.
use Rattle.std.proofs.Common.{◌≡◌, ℕ, zero, suc, ◌+◌, ◌-◌, ◌*◌, ◌/◌, ◌%◌, ◌^◌, ◌≤◌, ◌↔◌, inl}
use Rattle.std.proofs.Common.{inr, List, refl, sym, ◌∙◌, ap, subst, length, take, arith, ltb}
use Rattle.std.proofs.lemmas.Bool.{lt-ltb, le-ltb, cond-true, cond-false, cases_eq}
use Rattle.std.proofs.lemmas.List.{take_all}
use Rattle.std.proofs.lemmas.Nat.{div-add-mod'}
use Rattle.std.proofs.Math.Nat.{add-mod_right, mod-mod, dvd-mul_left}
use Rattle.std.specs.Int.{◌∣◌}
use Rattle.fixed_decimal.specs.Digits.{value_of}
use Rattle.fixed_decimal.specs.Places.{Places, IsWritten, shift_right}
use Rattle.plural_operands.specs.Operands.{Operands, of_whole, of_wide, HasFraction, IsKeptAt, IsExactAt, all_digits_value, kept_whole}
use Rattle.plural_operands.specs.OperandLaws.{SameBelowLimit, CongruentFromLimit, AllIsKept, OneKept, OneExact, TellTheNumber}
use Rattle.plural_operands.proofs.numbers.Numbers.{value_of-append-div, value_of-append-mod}
use Rattle.plural_operands.proofs.numbers.Fractions.{SameFraction, one_fraction, exact_whole}
use Rattle.plural_operands.proofs.numbers.Fractions.{exact_fraction, kept_fraction, IsWritten-shift_right}
use Rattle.plural_operands.proofs.numbers.Fractions.{kept_whole-short}
use Rattle.plural_operands.proofs.numbers.Conversion.{one_zero_less, quotient, no_fewer}

-- a whole number below 10 ^ 18 has the same operands at 64 and at 128 bits
pub same_below_limit : SameBelowLimit
same_below_limit n h = ap of_whole (cond-true (ltb n (10 ^ 18)) n (n % 10 ^ 18 + 10 ^ 18) (lt-ltb n (10 ^ 18) h))

-- from 10 ^ 18 on both integer parts are at least that, and leave the same by it
pub congruent_from_limit : CongruentFromLimit
congruent_from_limit n h =
    let e : (of_wide n).i ≡ n % 10 ^ 18 + 10 ^ 18 = cond-false (ltb n (10 ^ 18)) n (n % 10 ^ 18 + 10 ^ 18) (le-ltb n (10 ^ 18) h) in
    (omega (arith, e), h, ap (λ k. k % 10 ^ 18) e ∙ add-mod_right (n % 10 ^ 18) (10 ^ 18) ∙ mod-mod n (10 ^ 18))

-- ---- short numbers

-- digits of at most 18 places on each side have the same kept and exact operands
short_at : (y : Places) (e : ℕ) (o : Operands) → IsWritten y → length y.whole ≤ 18 → length y.fraction ≤ 18
    → IsKeptAt y e o ↔ IsExactAt y e o
short_at y e o h i f =
    let c : kept_whole y.whole ≡ value_of y.whole = kept_whole-short y.whole i in
    let t : take 18 y.fraction ≡ y.fraction = take_all 18 y.fraction f in (
      λ k. record {
        i = k.i ∙ c ∙ sym (value_of-append-div y.whole y.fraction h.fraction);
        fraction =
            subst (λ (n : ℕ). HasFraction o (length y.fraction) n)
            (sym (value_of-append-mod y.whole y.fraction h.fraction)) (kept_fraction y e o f k);
        c = k.c;
      },
      λ k. record {
        i = exact_whole y e o h k ∙ sym c;
        fraction = subst (λ (ds : List ℕ). HasFraction o (length ds) (value_of ds)) (sym t) (exact_fraction y e o h k);
        c = k.c;
      },
    )

-- so has a number whose digits are so few after the shift by its exponent
pub all_is_kept : AllIsKept
all_is_kept x e o h i f = short_at (shift_right e x) e o (IsWritten-shift_right e x h) i f

-- ---- one list of operands

-- the operands of six numbers
unfoldable six : ℕ → ℕ → ℕ → ℕ → ℕ → ℕ → Operands
six i v w f t c = record { i = i; v = v; w = w; f = f; t = t; c = c }

-- operands are those of their six numbers
six_parts : (o : Operands) → o ≡ six o.i o.v o.w o.f o.t o.c
unfolding six
six_parts o = refl

-- six numbers that are equal give equal operands
same_six : (a b : Operands) → a.i ≡ b.i → a.v ≡ b.v → a.w ≡ b.w → a.f ≡ b.f → a.t ≡ b.t → a.c ≡ b.c
    → six a.i a.v a.w a.f a.t a.c ≡ six b.i b.v b.w b.f b.t b.c
same_six a b i v w f t c = cc

-- operands with equal integer parts, fractions and exponents are equal
pub one_record : (a b : Operands) → a.i ≡ b.i → SameFraction a b → a.c ≡ b.c → a ≡ b
one_record a b i s c = six_parts a ∙ same_six a b i s.v s.w s.f s.t c ∙ sym (six_parts b)

-- w is the count of digits of a written fraction without its last zeros, and t is the number that
-- they write
record IsLeast (shown written w t : ℕ) : Type 0 where
  pub divides : 10 ^ (shown - w) ∣ written
  pub least : (k : ℕ) → 10 ^ (shown - k) ∣ written → w ≤ k
  pub quotient : t ≡ written / 10 ^ (shown - w)

-- a count that writes the fraction with zeros after it, and than which no smaller count does, is
-- the least
found : (left number shown written : ℕ) → written ≡ number * 10 ^ (shown - left)
    → ((k : ℕ) → 10 ^ (shown - k) ∣ written → left ≤ k) → IsLeast shown written left number
found left number shown written e l = record {
  divides = subst (λ (n : ℕ). 10 ^ (shown - left) ∣ n) (sym e) (dvd-mul_left (10 ^ (shown - left)) number);
  least = l;
  quotient = quotient number shown left written e;
}

-- from a count of digits that is enough, zeros are dropped until the least is found
least_from : (left number shown written : ℕ) → left ≤ shown → written ≡ number * 10 ^ (shown - left) → (w t : ℕ) × IsLeast shown written w t
least_from zero number shown written h e = (0, number, found zero number shown written e (λ k d. omega arith))
least_from (suc left) number shown written h e =
    elim (cases_eq (number % 10) 0) [
      | inl none ↦
          let less : written ≡ number / 10 * 10 ^ (shown - (suc left - 1)) =
          one_zero_less number shown (suc left) written (omega arith) h e none in
          let same : suc left - 1 ≡ left = omega arith in
          least_from left (number / 10) shown written (omega arith) (subst (λ (j : ℕ). written ≡ number / 10 * 10 ^ (shown - j)) same less)
      | inr some ↦ (suc left, number, found (suc left) number shown written e (no_fewer number shown (suc left) written h e some))
    ]

-- every written fraction has such a count, and what is left then
least_of : (shown written : ℕ) → (w t : ℕ) × IsLeast shown written w t
least_of shown written =
    least_from shown written shown written (omega arith)
    (let z : shown - shown ≡ 0 = omega arith in subst (λ (j : ℕ). written ≡ written * 10 ^ j) (sym z) (omega arith))

-- an integer part, a written fraction and an exponent have operands
made : (i shown written c : ℕ) → (o : Operands) × (o.i ≡ i) × HasFraction o shown written × (o.c ≡ c)
made i shown written c =
    let l : (w t : ℕ) × IsLeast shown written w t = least_of shown written in (
      record { i = i; v = shown; w = l.0; f = written; t = l.1; c = c },
      refl,
      record { v = refl; f = refl; w_divides = l.2.divides; w_least = l.2.least; t = l.2.quotient },
      refl,
    )

-- a number has kept operands, and no others
pub one_kept : OneKept
one_kept x e =
    let y : Places = shift_right e x in
    let m : (o : Operands) × (o.i ≡ kept_whole y.whole)
    × HasFraction o (length (take 18 y.fraction)) (value_of (take 18 y.fraction)) × (o.c ≡ e)
    = made (kept_whole y.whole) (length (take 18 y.fraction)) (value_of (take 18 y.fraction)) e in
    let k : IsKeptAt y e m.0 = record { i = m.1; fraction = m.2; c = m.3 } in
    (m.0, k, λ b h. one_record b m.0 (h.i ∙ sym k.i) (one_fraction b m.0 _ _ h.fraction k.fraction) (h.c ∙ sym k.c))

-- a number has exact operands, and no others
pub one_exact : OneExact
one_exact x e =
    let y : Places = shift_right e x in
    let m : (o : Operands) × (o.i ≡ all_digits_value y / 10 ^ length y.fraction)
    × HasFraction o (length y.fraction) (all_digits_value y % 10 ^ length y.fraction) × (o.c ≡ e)
    = made (all_digits_value y / 10 ^ length y.fraction) (length y.fraction) (all_digits_value y % 10 ^ length y.fraction) e in
    let k : IsExactAt y e m.0 = record { i = m.1; fraction = m.2; c = m.3 } in
    (m.0, k, λ b h. one_record b m.0 (h.i ∙ sym k.i) (one_fraction b m.0 _ _ h.fraction k.fraction) (h.c ∙ sym k.c))

-- ---- the number

-- the exact operands tell what all digits write, and how many fraction digits there are
pub tell_the_number : TellTheNumber
tell_the_number x e o h =
    let y : Places = shift_right e x in (
      ap (λ n. n * 10 ^ o.v + o.f) h.i
          ∙ ap (λ n. all_digits_value y / 10 ^ length y.fraction * 10 ^ n + o.f) h.fraction.v
          ∙ ap (λ n. all_digits_value y / 10 ^ length y.fraction * 10 ^ length y.fraction + n) h.fraction.f
          ∙ div-add-mod' (all_digits_value y) (10 ^ length y.fraction),
      h.fraction.v,
    )
