-- The digits of a fraction without the zeros at their end.
use Rattle.std.proofs.Common.{◌≡◌, ℕ, suc, ◌+◌, ◌-◌, ◌*◌, ◌/◌, ◌%◌, ◌^◌, ◌<◌, ◌≤◌, inl, inr, sym, ◌∙◌, ap, subst, arith, lit<}
use Rattle.std.proofs.lemmas.Bool.{cases_lt}
use Rattle.std.proofs.lemmas.Nat.{pow-add, div-add-mod'}
use Rattle.std.proofs.lemmas.Nat.Gcd.{mod-eq-zero_of_dvd, dvd_trans}
use Rattle.std.proofs.Math.Nat.{pow-suc, dvd-mul_right, dvd_of_mul-dvd-mul_right, mul-div_cancel, one-le-pow}
use Rattle.std.specs.Int.{◌∣◌}

-- powers of ten are positive
pub power_above : (j : ℕ) → 0 < 10 ^ j
power_above j = one-le-pow j 10 (lit< tt)

-- with a zero less, the power of ten that is left out is one higher
pub one_zero_less : (rest shown left written : ℕ) → 0 < left → left ≤ shown → written ≡ rest * 10 ^ (shown - left)
    → rest % 10 ≡ 0 → written ≡ rest / 10 * 10 ^ (shown - (left - 1))
one_zero_less rest shown left written p h e z =
    let k : shown - (left - 1) ≡ suc (shown - left) = omega arith in
    let q : rest / 10 * 10 + rest % 10 ≡ rest = div-add-mod' rest 10 in
    let n : rest ≡ rest / 10 * 10 = omega arith in
    e ∙ ap (λ m. m * 10 ^ (shown - left)) n
    ∙ regroup (rest / 10) (10 ^ (shown - left)) _ (ap (λ j. 10 ^ j) k ∙ pow-suc 10 (shown - left))
  where
    regroup : (a p q : ℕ) → q ≡ p * 10 → a * 10 * p ≡ a * q
    regroup a p q e = rw e (omega arith)

-- what is left is the quotient by that power
pub quotient : (rest shown left written : ℕ) → written ≡ rest * 10 ^ (shown - left) → rest ≡ written / 10 ^ (shown - left)
quotient rest shown left written e = sym (ap (λ m. m / 10 ^ (shown - left)) e ∙ mul-div_cancel rest (power_above (shown - left)))

-- if the last digit that is left isn't 0, no higher power divides what is written
pub no_fewer : (rest shown left written : ℕ) → left ≤ shown → written ≡ rest * 10 ^ (shown - left)
    → (rest % 10 ≡ 0 → ⊥) → (k : ℕ) → 10 ^ (shown - k) ∣ written → left ≤ k
no_fewer rest shown left written h e last k d =
    elim (cases_lt k left) [
      | inl below ↦
          let more : ℕ = left - k - 1 in
          let a : 1 + more + (shown - left) ≡ shown - k = omega arith in
          let p : 10 ^ (shown - k) ≡ 10 ^ (1 + more) * 10 ^ (shown - left) = ap (λ j. 10 ^ j) (sym a) ∙ pow-add 10 (1 + more) (shown - left) in
          let both : 10 ^ (1 + more) * 10 ^ (shown - left) ∣ rest * 10 ^ (shown - left)
          = subst (λ (m : ℕ). m ∣ rest * 10 ^ (shown - left)) p (subst (λ (m : ℕ). 10 ^ (shown - k) ∣ m) e d) in
          let part : 10 ^ (1 + more) ∣ rest = dvd_of_mul-dvd-mul_right (10 ^ (1 + more)) (power_above (shown - left)) both in
          let ten : 10 ∣ 10 ^ (1 + more) = subst (λ (m : ℕ). 10 ∣ m) (sym (pow-add 10 1 more)) (dvd-mul_right 10 (10 ^ more)) in
          absurd (last (mod-eq-zero_of_dvd 10 (dvd_trans 10 ten part)))
      | inr above ↦ above
    ]
