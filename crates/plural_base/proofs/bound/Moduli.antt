-- The test of moduli decides whether all divide 10 ^ 18.
use Rattle.std.proofs.Common.{◌≡◌, ℕ, ◌<◌, ◌%◌, ◌^◌, List, [], ◌∷◌, ◌++◌, Bool, true, false, refl, subst, arith, inl, inr}
use Rattle.std.specs.Prelude.{◌&&◌, ◌||◌, ◌==◌, ◌↔◌, IsTrue}
use Rattle.std.specs.Int.{◌∣◌}
use Rattle.std.specs.List.{list_all}
use Rattle.std.proofs.Math.Nat.{dvd_iff_mod-eq-zero}
use Rattle.std.proofs.lemmas.Bool.{eqb-true, eq-eqb}
use Rattle.std.proofs.lemmas.List.Elements.{Contains-append_left, Contains-append_right, Contains-append_cases, Contains-push}
use Rattle.std.proofs.lemmas.List.Elements.{Contains-push_cases}
use Rattle.std.proofs.lemmas.List.Folds.{list_all-append}
use Rattle.plural_reference.specs.Exactness.{AllDivide}
use Rattle.plural_base.specs.Inner.RulesSteps.{divides_ten_to_18}

-- ---- One modulus

-- numbers on which the test differs are different
false_ne : (a b : ℕ) → (a == b) ≡ false → a ≡ b → ⊥
false_ne a b e same = let t : (a == b) ≡ true = eq-eqb a b same in cc

-- the test of one modulus holds exactly if it divides, if it is above 0
divides_cases : (m n : ℕ) (none zero_left : Bool) → (m == 0) ≡ none → (n % m == 0) ≡ zero_left
    → IsTrue (none || zero_left) ↔ (0 < m → m ∣ n)
divides_cases m n true left e f = (λ _ above. absurd (omega (arith, eqb-true m 0 e)), λ _. refl)
divides_cases m n false true e f = (λ _ _. (dvd_iff_mod-eq-zero m {n = n}).1 (eqb-true (n % m) 0 f), λ _. refl)
divides_cases m n false false e f = (
  λ h. cc,
  λ divides. let above : 0 < m = omega (arith, false_ne m 0 e) in let left : n % m ≡ 0 = (dvd_iff_mod-eq-zero m {n = n}).0
      (divides above) in absurd (false_ne (n % m) 0 f left),
)

-- so it does at 10 ^ 18
test_tells : (m : ℕ) → IsTrue (divides_ten_to_18 m) ↔ (0 < m → m ∣ 10 ^ 18)
test_tells m = divides_cases m (10 ^ 18) (m == 0) (10 ^ 18 % m == 0) refl refl

-- ---- Lists of moduli

-- if a conjunction is true, both its sides are
both_so : (a b : Bool) → IsTrue (a && b) → IsTrue a × IsTrue b
both_so true true h = (refl, refl)
both_so true false h = cc
both_so false b h = cc

-- if both sides are true, the conjunction is
and_so : (a b : Bool) → IsTrue a → IsTrue b → IsTrue (a && b)
and_so true true h k = refl
and_so true false h k = cc
and_so false b h k = cc

-- two joined lists pass if each passes
pub tests_of_both : (xs ys : List ℕ)
    → list_all divides_ten_to_18 (xs ++ ys) ≡ (list_all divides_ten_to_18 xs && list_all divides_ten_to_18 ys)
tests_of_both xs ys = list_all-append divides_ten_to_18 xs ys

-- the test of a list passes exactly if all its members divide
pub tests_tell : (moduli : List ℕ) → IsTrue (list_all divides_ten_to_18 moduli) ↔ AllDivide moduli (10 ^ 18)
tests_tell [] = (λ _ m here. absurd (omega (arith, here.1)), λ _. refl)
tests_tell (modulus ∷ moduli) =
    let one = test_tells modulus in
    let others = tests_tell moduli in (
      λ h.
          let both = both_so (divides_ten_to_18 modulus) (list_all divides_ten_to_18 moduli) h in
          λ m here. elim (Contains-append_cases (modulus ∷ []) moduli m here) [
            | inl alone ↦ elim (Contains-push_cases [] modulus m alone) [
              | inl none ↦ absurd (let e = none.1 in omega (arith, e))
              | inr same ↦ let P : ℕ → Type 0 = λ j. 0 < j → j ∣ 10 ^ 18 in subst P same (one.0 both.0)
            ]
            | inr later ↦ others.0 both.1 m later
          ],
      λ all.
          and_so (divides_ten_to_18 modulus) (list_all divides_ten_to_18 moduli)
          (one.1 (all modulus (Contains-append_left (modulus ∷ []) moduli modulus (Contains-push [] modulus))))
          (others.1 (λ m here. all m (Contains-append_right (modulus ∷ []) moduli m here))),
    )
