-- The operands of decimals of at most two places.
use Rattle.std.proofs.Common.{◌≡◌, ◌≢◌, ℕ, zero, suc, ◌+◌, ◌-◌, ◌*◌, ◌/◌, ◌%◌, ◌^◌, ◌<◌, ◌≤◌, inl, inr, refl, ap, sym, subst, ◌∙◌, arith}
use Rattle.std.proofs.lemmas.Bool.{cases_lt}
use Rattle.std.proofs.lemmas.Nat.{pow-add}
use Rattle.std.proofs.lemmas.Nat.Gcd.{dvd_of_mod-eq-zero, dvd_trans, dvd-zero, mod-eq-zero_of_dvd}
use Rattle.std.proofs.Math.Nat.{dvd-mul_right, mod-eq_of_lt, one-dvd, zero-div, div-one}
use Rattle.std.specs.Int.{◌∣◌}
use Rattle.plural_operands.specs.Operands.{Operands}
use Rattle.rule_notes.specs.Inner.OwnNumbers.{AreDigitsLeft}
use Rattle.rule_notes.specs.LookedAtNumbers.{HasDecimal}

-- ---- Digits without the zeros at their end

pub none_left : (places : ℕ) → AreDigitsLeft places 0 0 0
none_left places = record {
  divides = dvd-zero (10 ^ (places - 0));
  least = λ k d. omega arith;
  number = sym (zero-div (10 ^ (places - 0)));
}

no_hundred : (written : ℕ) → written < 100 → written ≢ 0 → (100 ∣ written) → ⊥
no_hundred written few some d =
    let rest : written % 100 ≡ 0 = mod-eq-zero_of_dvd 100 d in
    let same : written % 100 ≡ written = mod-eq_of_lt few in some (sym same ∙ rest)

one_left_of_two : (written : ℕ) → written < 100 → written ≢ 0 → written % 10 ≡ 0 → AreDigitsLeft 2 written 1 (written / 10)
one_left_of_two written few some ends = record {
  divides = dvd_of_mod-eq-zero 10 ends;
  least = least;
  number = refl;
}
  where
    least : (k : ℕ) → 10 ^ (2 - k) ∣ written → 1 ≤ k
    least zero d = absurd (no_hundred written few some d)
    least (suc k) d = omega arith

no_zero_at_end : (written : ℕ) → written < 10 → written ≢ 0 → (written % 10 ≡ 0) → ⊥
no_zero_at_end written few some ends = some (sym (mod-eq_of_lt few) ∙ ends)

pub one_left : (places written : ℕ) → places ≤ 2 → written < 10 ^ places → written ≢ 0 → written % 10 ≡ 0
    → AreDigitsLeft places written 1 (written / 10)
one_left zero written most few some ends = let one : written < 1 = few in absurd (some (omega arith))
one_left (suc zero) written most few some ends = absurd (no_zero_at_end written few some ends)
one_left (suc (suc zero)) written most few some ends = one_left_of_two written few some ends
one_left (suc (suc (suc n))) written most few some ends = absurd (omega arith)

pub all_left : (places written : ℕ) → written % 10 ≢ 0 → AreDigitsLeft places written places written
all_left places written last =
    let none : places - places ≡ 0 = omega arith in record {
      divides = rw none (one-dvd written);
      least = least;
      number = rw none (sym (div-one written));
    }
  where
    least : (k : ℕ) → 10 ^ (places - k) ∣ written → places ≤ k
    least k d =
        elim (cases_lt k places) [
          | inl below ↦
              let more : ℕ = places - k - 1 in
              let a : places - k ≡ 1 + more = omega arith in
              let p : 10 ^ (places - k) ≡ 10 * 10 ^ more = ap (λ j. 10 ^ j) a ∙ pow-add 10 1 more in
              let ten : 10 ∣ 10 ^ (places - k) = subst (λ (m : ℕ). 10 ∣ m) (sym p) (dvd-mul_right 10 (10 ^ more)) in
              absurd (last (mod-eq-zero_of_dvd 10 (dvd_trans 10 ten d)))
          | inr above ↦ above
        ]

-- ---- Operands

pub decimal_of : (places unit parts w t : ℕ) → unit ≡ 10 ^ places → AreDigitsLeft places (parts % unit) w t
    → HasDecimal places parts (record { i = parts / unit; v = places; w = w; f = parts % unit; t = t; c = 0 })
decimal_of places unit parts w t is left = record {
  whole = ap (λ (u : ℕ). parts / u) is;
  fraction = record {
    v = refl;
    f = ap (λ (u : ℕ). parts % u) is;
    w_divides = subst (λ (u : ℕ). 10 ^ (places - w) ∣ parts % u) is left.divides;
    w_least = λ k d. left.least k (subst (λ (u : ℕ). 10 ^ (places - k) ∣ parts % u) (sym is) d);
    t = left.number ∙ ap (λ (u : ℕ). parts % u / 10 ^ (places - w)) is;
  };
  no_exponent = refl;
}

-- the operands from their six numbers
abbrev made : ℕ → ℕ → ℕ → ℕ → ℕ → ℕ → Operands
made i v w f t c = record { i = i; v = v; w = w; f = f; t = t; c = c }

-- a decimal has one list of operands
pub one_decimal : (places parts : ℕ) (a b : Operands) → HasDecimal places parts a → HasDecimal places parts b → a ≡ b
one_decimal places parts a b x y =
    let fewer : a.w ≤ b.w = x.fraction.w_least b.w y.fraction.w_divides in
    let more : b.w ≤ a.w = y.fraction.w_least a.w x.fraction.w_divides in
    let w : a.w ≡ b.w = omega arith in
    let i : a.i ≡ b.i = x.whole ∙ sym y.whole in
    let v : a.v ≡ b.v = x.fraction.v ∙ sym y.fraction.v in
    let f : a.f ≡ b.f = x.fraction.f ∙ sym y.fraction.f in
    let t : a.t ≡ b.t = x.fraction.t ∙ ap (λ (k : ℕ). parts % 10 ^ places / 10 ^ (places - k)) w ∙ sym y.fraction.t in
    let c : a.c ≡ b.c = x.no_exponent ∙ sym y.no_exponent in
    ap (λ (n : ℕ). made n a.v a.w a.f a.t a.c) i ∙ ap (λ (n : ℕ). made b.i n a.w a.f a.t a.c) v
    ∙ ap (λ (n : ℕ). made b.i b.v n a.f a.t a.c) w ∙ ap (λ (n : ℕ). made b.i b.v b.w n a.t a.c) f
    ∙ ap (λ (n : ℕ). made b.i b.v b.w b.f n a.c) t ∙ ap (λ (n : ℕ). made b.i b.v b.w b.f b.t n) c
