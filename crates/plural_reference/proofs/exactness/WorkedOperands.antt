-- Worked numbers at the bound, and their exact operands and truth, computed by the definitions.
use Rattle.std.proofs.Common.{◌≡◌, ℕ, zero, suc, ◌+◌, ◌-◌, ◌*◌, ◌%◌, ◌^◌, ◌<◌, ◌≤◌, ◌⊎◌, ◌≢◌, inl, inr, List, [], ◌∷◌, ◌++◌, refl}
use Rattle.std.proofs.Common.{sym, ap, subst, replicate, codes, length, get_or, arith, map, Some, None, true, false, lit<, lit≤}
use Rattle.std.proofs.Common.{◌∙◌}
use Rattle.std.proofs.lemmas.Bool.{cases_lt}
use Rattle.std.proofs.lemmas.Nat.{pow-add}
use Rattle.std.proofs.lemmas.Nat.Gcd.{dvd_of_mod-eq-zero, mod-eq-zero_of_dvd, dvd_trans}
use Rattle.std.proofs.Math.Nat.{dvd-mul_right}
use Rattle.std.specs.Int.{◌∣◌}
use Rattle.fixed_decimal.specs.Digits.{AreDigits, value_of}
use Rattle.fixed_decimal.specs.Places.{Places}
use Rattle.plural_operands.specs.Operands.{Operands, of_whole, AreExact, AreKept, HasFraction}
use Rattle.plural_operands.specs.OperandText.{IsWord, WritesCount, WritesFraction, WritesOperands}
use Rattle.plural_operands.specs.Inner.OperandReader.{HasCount, WritesBehindPoint}
use Rattle.std.specs.Char.{IsAsciiDigit}
use Rattle.plural_reference.specs.Truth.{RelationMeaning, relation_truth}
use Rattle.plural_reference.specs.Exactness.{exact_value, exact_relation_truth, IsWithinBound, AllDivide}
use Rattle.plural_operands.specs.declared.operand.Operand.TheVariants.{N, I}
use Rattle.plural_reference.specs.declared.ast.Operator.TheVariants.{Eq, NotEq}
use Rattle.plural_operands.proofs.numbers.OperandTexts.{other_head, same_tail, no_exponent_of, unsigned_behind, named_unsigned}

-- ---- helpers

abbrev digits : List ℕ → List ℕ
digits text = map (λ c. c - 48) text

abbrev whole : List ℕ → Places
whole ds = record { whole = ds; fraction = [] }

abbrev number : List ℕ → List ℕ → Places
number i f = record { whole = digits i; fraction = digits f }

abbrev six : ℕ → ℕ → ℕ → ℕ → ℕ → ℕ → Operands
six i v w f t c = record { i = i; v = v; w = w; f = f; t = t; c = c }

-- `i % modulus = r`
abbrev leaves : ℕ → ℕ → RelationMeaning
leaves modulus r = record { operand = I; modulus = modulus; operator = Eq; ranges = (r, r) ∷ [] }

pow_divides : (a b : ℕ) → a ≤ b → 10 ^ a ∣ 10 ^ b
pow_divides a b h =
    let e : a + (b - a) ≡ b = omega arith in
    subst (λ (n : ℕ). 10 ^ a ∣ n) (sym (pow-add 10 a (b - a)) ∙ ap (λ n. 10 ^ n) e) (dvd-mul_right (10 ^ a) (10 ^ (b - a)))

-- w is the least: at one less the division leaves something
least_by : (shown written w : ℕ) → w ≤ shown → (w ≡ 0) ⊎ (written % 10 ^ (shown - (w - 1)) ≢ 0) → (k : ℕ)
    → 10 ^ (shown - k) ∣ written → w ≤ k
least_by shown written w fits (inl none) k d = omega arith
least_by shown written w fits (inr some) k d =
    elim (cases_lt k w) [
      | inl below ↦ absurd (some (mod-eq-zero_of_dvd (10 ^ (shown - (w - 1)))
          (dvd_trans (10 ^ (shown - (w - 1))) (pow_divides (shown - (w - 1)) (shown - k) (omega arith)) d)))
      | inr above ↦ above
    ]

nonzero : (n : ℕ) → 0 < n → n ≢ 0
nonzero n h e = omega arith

no_fraction : (n : ℕ) → HasFraction (of_whole n) 0 0
no_fraction n = record {
  v = refl;
  f = refl;
  w_divides = dvd_of_mod-eq-zero 1 refl;
  w_least = least_by 0 0 0 (lit≤ tt) (inl refl);
  t = refl;
}

-- ---- 1, 28 zeros and 21, by i % 10 = 1 and i % 100 != 11

abbrev at_21 : Places
at_21 = whole (1 ∷ replicate 28 0 ++ 2 ∷ 1 ∷ [])

kept_21 : AreKept at_21 0 (of_whole (10 ^ 18 + 21))
kept_21 = record { i = refl; fraction = no_fraction _; c = refl }

exact_21 : AreExact at_21 0 (of_whole (10 ^ 30 + 21))
exact_21 = record { i = refl; fraction = no_fraction _; c = refl }

same_21 : relation_truth (of_whole (10 ^ 18 + 21)) (leaves 10 1) ≡ exact_relation_truth (of_whole (10 ^ 30 + 21)) (leaves 10 1)
same_21 = refl

not_11 : exact_relation_truth (of_whole (10 ^ 30 + 21))
    (record { operand = I; modulus = 100; operator = NotEq; ranges = (11, 11) ∷ [] }) ≡ true
not_11 = refl

ten_and_hundred : AllDivide (10 ∷ 100 ∷ []) (10 ^ 18)
ten_and_hundred m (zero, below, same) above = subst (λ (n : ℕ). n ∣ 10 ^ 18) same (dvd_of_mod-eq-zero 10 refl)
ten_and_hundred m (suc zero, below, same) above = subst (λ (n : ℕ). n ∣ 10 ^ 18) same (dvd_of_mod-eq-zero 100 refl)
ten_and_hundred m (suc (suc j), below, same) above = absurd (let b : suc (suc j) < 2 = below in omega arith)

within_21 : IsWithinBound at_21 0 (10 ∷ 100 ∷ [])
within_21 = record { fraction = lit≤ tt; whole = inr (lit≤ tt, ten_and_hundred) }

-- ---- 2 and 18 zeros, by i % 3 = 2

abbrev two_and_18_zeros : Places
two_and_18_zeros = whole (2 ∷ replicate 18 0)

not_kept : relation_truth (of_whole (10 ^ 18)) (leaves 3 2) ≡ false
not_kept = refl

exactly : exact_relation_truth (of_whole (2 * 10 ^ 18)) (leaves 3 2) ≡ true
exactly = refl

not_within_by : (m : ℕ) → 0 < m → 10 ^ 18 % m ≢ 0 → IsWithinBound two_and_18_zeros 0 (m ∷ []) → ⊥
not_within_by m some other h =
    elim (h.whole) [
      | inl short ↦ (let s : 19 ≤ 18 = short in omega arith)
      | inr long ↦ other (mod-eq-zero_of_dvd m (long.1 m (0, lit< tt, refl) some))
    ]

-- ---- the largest moduli of a token, at the same number

within_3906250000 : IsWithinBound two_and_18_zeros 0 (3906250000 ∷ [])
within_3906250000 = record { fraction = lit≤ tt; whole = inr (lit≤ tt, divides) }
  where
    divides : AllDivide (3906250000 ∷ []) (10 ^ 18)
    divides m (zero, below, same) above = subst (λ (n : ℕ). n ∣ 10 ^ 18) same (dvd_of_mod-eq-zero 3906250000 refl)
    divides m (suc j, below, same) above = absurd (let b : suc j < 1 = below in omega arith)

not_within_3 : IsWithinBound two_and_18_zeros 0 (3 ∷ []) → ⊥
not_within_3 h = not_within_by 3 (lit< tt) (nonzero (10 ^ 18 % 3) (lit< tt)) h

not_within_4294967295 : IsWithinBound two_and_18_zeros 0 (4294967295 ∷ []) → ⊥
not_within_4294967295 h = not_within_by 4294967295 (lit< tt) (nonzero (10 ^ 18 % 4294967295) (lit< tt)) h

-- ---- written zeros count: 18 zeros and 1 is outside whatever the moduli, 17 zeros and 1 is inside

not_within_19_places : (moduli : List ℕ) → IsWithinBound (whole (replicate 18 0 ++ 1 ∷ [])) 0 moduli → ⊥
not_within_19_places moduli h =
    elim (h.whole) [
      | inl short ↦ (let s : 19 ≤ 18 = short in omega arith)
      | inr long ↦ (let l : 10 ^ 18 ≤ 1 = long.0 in omega arith)
    ]

within_18_places : (moduli : List ℕ) → IsWithinBound (whole (replicate 17 0 ++ 1 ∷ [])) 0 moduli
within_18_places moduli = record { fraction = lit≤ tt; whole = inl (lit≤ tt) }

-- ---- 1. and 18 zeros and 1: 19 fraction places are outside, and the exact number isn't 1

abbrev long_fraction : Places
long_fraction = record { whole = 1 ∷ []; fraction = replicate 18 0 ++ 1 ∷ [] }

long_fraction_not_within : (moduli : List ℕ) → IsWithinBound long_fraction 0 moduli → ⊥
long_fraction_not_within moduli h = let f : 19 ≤ 18 = h.fraction in omega arith

exact_long_fraction : AreExact long_fraction 0 (six 1 19 19 1 1 0)
exact_long_fraction = record {
  i = refl;
  fraction = record {
    v = refl;
    f = refl;
    w_divides = dvd_of_mod-eq-zero 1 refl;
    w_least = least_by 19 1 19 (lit≤ tt) (inr (nonzero 1 (lit< tt)));
    t = refl;
  };
  c = refl;
}

no_exact_n : exact_value N 0 (six 1 19 19 1 1 0) ≡ None
no_exact_n = refl

-- ---- n with and without a fraction

n_at_1_0 : exact_value N 0 (six 1 1 0 0 0 0) ≡ Some 1
n_at_1_0 = refl

n_at_1_5 : exact_value N 0 (six 1 1 1 5 5 0) ≡ None
n_at_1_5 = refl

n_by_10 : exact_value N 10 (six 121 2 0 0 0 0) ≡ Some 1
n_by_10 = refl

-- ---- 1.00000020c6

compact_million : AreExact (number (codes "1") (codes "00000020")) 6 (six 1000000 2 1 20 2 6)
compact_million = record {
  i = refl;
  fraction = record {
    v = refl;
    f = refl;
    w_divides = dvd_of_mod-eq-zero 10 refl;
    w_least = least_by 2 20 1 (lit≤ tt) (inr (nonzero 20 (lit< tt)));
    t = refl;
  };
  c = refl;
}

-- ---- texts of operands

named : (ds : List ℕ) → 0 < length ds → AreDigits ds → value_of ds < 2 ^ 64 → IsWord ds
named ds some are below = record { nonempty = some; digits = are; below = below }

-- `-5.10`
named_5_10 : WritesOperands (codes "-5.10") (six 5 2 1 10 1 0)
named_5_10 = inr (codes "5.10", (codes "5", codes ".10", [], five, fraction, inl (refl, refl), refl), refl)
  where
    five : WritesCount (codes "5") 5
    five = (5 ∷ [], named (5 ∷ []) (lit< tt) (lit< tt, tt) (lit< tt), refl, inl refl)

    fraction : WritesFraction (codes ".10") (six 5 2 1 10 1 0)
    fraction = inr (
      1 ∷ 0 ∷ [],
      named (1 ∷ 0 ∷ []) (lit< tt) (lit< tt, (lit< tt, tt)) (lit< tt),
      refl,
      record {
        v = refl;
        f = refl;
        w_divides = dvd_of_mod-eq-zero 10 refl;
        w_least = least_by 2 10 1 (lit≤ tt) (inr (nonzero 10 (lit< tt)));
        t = refl;
      },
    )

-- `1.+5`: a fraction takes no `+`
no_plus_behind_the_point : (o : Operands) → WritesOperands (codes "1.+5") o → ⊥
no_plus_behind_the_point o h =
    elim (unsigned_behind (codes "1.+5") 1 (codes ".+5") o one (named_unsigned (codes "1.+5") o h)) [
      | inl p ↦ pointed o (subst (λ (l : List ℕ). WritesBehindPoint 1 l o) (sym (same_tail 46 46 (codes "+5") p.0 p.1)) p.2)
      | inr p ↦ no_exponent_of (codes ".+5") (λ z. let s : 3 ≡ 0 = ap length z in omega (arith, s))
          (λ more z. let b : 46 ≡ 101 = other_head 46 101 (codes "+5") more z in omega (arith, b)) o.c p.0
    ]
  where
    one : HasCount (codes "1.+5") 1 (codes ".+5")
    one = (
      codes "1",
      (1 ∷ [], named (1 ∷ []) (lit< tt) (lit< tt, tt) (lit< tt), refl, inl refl),
      refl,
      λ (h : IsAsciiDigit 46). omega (arith, h.0),
    )

    pointed : (o : Operands) → WritesBehindPoint 1 (codes "+5") o → ⊥
    pointed o ([], tail, i, word, f, x, e) = let s : 0 < 0 = word.nonempty in omega (arith, s)
    pointed o (d ∷ ds, tail, i, word, f, x, e) = let k : 43 ≡ 48 + d = ap (λ l. get_or l 0 0) e in omega (arith, k)
