-- The two least numbers that choose a form, of what is known of the numbers of its category.
use Rattle.std.proofs.Common.{◌≡◌, ◌↔◌, ℕ, ◌+◌, ◌<◌, ◌≤◌, Bool, true, false, Option, Some, None, refl, arith}
use Rattle.std.specs.Prelude.{IsTrue, not, ◌&&◌, nat_lt}
use Rattle.std.proofs.lemmas.Bool.{ltb-true, ltb-false}
use Rattle.icu_plurals.specs.declared.PluralCategory.{PluralCategory}
use Rattle.icu_plurals.specs.FiveRules.{FiveRules}
use Rattle.number_categories.specs.WholeNumbers.{AreTwoBelow, AreTwoLeastOf, HasWhole, HoldsNowhere, IsLeast, IsLeastFrom, whole_limit}
use Rattle.message_report.specs.MessageForms.{Chooses}
use Rattle.message_report.specs.Inner.KnownNumbers.{AreNumbersOf, chosen_by, chosen_of}
use Rattle.message_report.specs.declared.category_numbers.CategoryNumbers.{CategoryNumbers}

-- ---- Numbers from 2

module _ (rules : FiveRules) (category : PluralCategory) (own_zero own_one : Bool) where
  -- the number chooses the form
  abbrev Chosen : ℕ → Type 0
  Chosen n = Chooses rules category own_zero own_one n

  -- from 2, a number that has the category chooses the form
  choose : (n : ℕ) → 2 ≤ n → HasWhole rules category n → Chosen n
  choose n high has = (has, (λ own zero. omega arith), (λ own one. omega arith))

  -- so the least that has it is the least that chooses it
  least : (start : ℕ) (found : Option ℕ) → 2 ≤ start → IsLeastFrom rules category start found → IsLeast Chosen start found
  least start None high none = λ n from below chosen. none n from below chosen.0
  least start (Some n) high (from, below, has, none) =
      (from, below, choose n (omega arith) has, (λ m after before chosen. none m after before chosen.0))

  -- the same from further down, if none of the numbers between chooses it
  lower : (start end : ℕ) (found : Option ℕ) → start ≤ end → HoldsNowhere Chosen start end → IsLeast Chosen end found
      → IsLeast Chosen start found
  lower start end None down nowhere none = λ n from below chosen. at n from below chosen (nat_lt n end) refl
    where
      at : (n : ℕ) → start ≤ n → n < whole_limit → Chosen n → (low : Bool) → nat_lt n end ≡ low → ⊥
      at n from below chosen true low = nowhere n from (ltb-true n end low) chosen
      at n from below chosen false high = none n (ltb-false n end high) below chosen
  lower start end (Some n) down nowhere (from, below, chosen, none) = (omega arith, below, chosen, before)
    where
      at : (m : ℕ) → start ≤ m → m < n → Chosen m → (low : Bool) → nat_lt m end ≡ low → ⊥
      at m after under other true low = nowhere m after (ltb-true m end low) other
      at m after under other false high = none m (ltb-false m end high) under other

      before : HoldsNowhere Chosen start n
      before m after under other = at m after under other (nat_lt m end) refl

  -- ---- 0 and 1

  zero_chooses : (has : Bool) → (IsTrue has ↔ HasWhole rules category 0) → (has && not own_zero) ≡ true → Chosen 0
  zero_chooses true is alone = (is.0 refl, (λ own same. no own_zero alone own), (λ own one. omega arith))
    where
      no : (own : Bool) → not own ≡ true → IsTrue own → ⊥
      no true e h = cc
      no false e h = cc
  zero_chooses false is alone = cc

  zero_doesnt : (has : Bool) → (IsTrue has ↔ HasWhole rules category 0) → (has && not own_zero) ≡ false → ¬ (Chosen 0)
  zero_doesnt true is taken chosen = chosen.1 (yes own_zero taken) refl
    where
      yes : (own : Bool) → not own ≡ false → IsTrue own
      yes true e = refl
      yes false e = cc
  zero_doesnt false is taken chosen = let has : false ≡ true = is.1 chosen.0 in cc

  one_chooses : (has : Bool) → (IsTrue has ↔ HasWhole rules category 1) → (has && not own_one) ≡ true → Chosen 1
  one_chooses true is alone = (is.0 refl, (λ own zero. omega arith), (λ own same. no own_one alone own))
    where
      no : (own : Bool) → not own ≡ true → IsTrue own → ⊥
      no true e h = cc
      no false e h = cc
  one_chooses false is alone = cc

  one_doesnt : (has : Bool) → (IsTrue has ↔ HasWhole rules category 1) → (has && not own_one) ≡ false → ¬ (Chosen 1)
  one_doesnt true is taken chosen = chosen.2 (yes own_one taken) refl
    where
      yes : (own : Bool) → not own ≡ false → IsTrue own
      yes true e = refl
      yes false e = cc
  one_doesnt false is taken chosen = let has : false ≡ true = is.1 chosen.0 in cc

  -- ---- The two least

  at_start : (n : ℕ) → HoldsNowhere Chosen n n
  at_start n m from below chosen = omega arith

  only_zero : ¬ (Chosen 0) → HoldsNowhere Chosen 0 1
  only_zero free n from below chosen = let is : n ≡ 0 = omega arith in free (rw is at chosen)

  only_one : ¬ (Chosen 1) → HoldsNowhere Chosen 1 2
  only_one free n from below chosen = let is : n ≡ 1 = omega arith in free (rw is at chosen)

  both : ¬ (Chosen 0) → ¬ (Chosen 1) → HoldsNowhere Chosen 0 2
  both no_zero no_one n from below chosen = by (nat_lt n 1) refl
    where
      by : (low : Bool) → nat_lt n 1 ≡ low → ⊥
      by true low = only_zero no_zero n from (ltb-true n 1 low) chosen
      by false high = only_one no_one n (ltb-false n 1 high) below chosen

  abbrev AreTwoFrom : Option ℕ → Option ℕ → Type 0
  AreTwoFrom first second = AreTwoBelow (λ n. HasWhole rules category n) 2 whole_limit first second

  -- the first from 2
  first_is : (first second : Option ℕ) → AreTwoFrom first second → IsLeast Chosen 2 first
  first_is None second (none, absent) = least 2 None (omega arith) none
  first_is (Some n) second (found, after) = least 2 (Some n) (omega arith) found

  from_two : (first second : Option ℕ) → AreTwoFrom first second → ¬ (Chosen 0) → ¬ (Chosen 1)
      → AreTwoLeastOf Chosen first second
  from_two None second (none, absent) no_zero no_one =
      (lower 0 2 None (omega arith) (both no_zero no_one) (least 2 None (omega arith) none), absent)
  from_two (Some n) second (found, after) no_zero no_one = (
    lower 0 2 (Some n) (omega arith) (both no_zero no_one) (least 2 (Some n) (omega arith) found),
    least (n + 1) second (omega (arith, found.0)) after,
  )

  by_chosen : (numbers : CategoryNumbers) → AreNumbersOf rules category numbers → (zero one : Bool)
      → (numbers.zero && not own_zero) ≡ zero → (numbers.one && not own_one) ≡ one
      → AreTwoLeastOf Chosen (chosen_by zero one numbers.from_two).first (chosen_by zero one numbers.from_two).second
  by_chosen numbers known true true zero one = (
    (omega arith, omega arith, zero_chooses numbers.zero known.zero zero, at_start 0),
    (omega arith, omega arith, one_chooses numbers.one known.one one, at_start 1),
  )
  by_chosen numbers known true false zero one = (
    (omega arith, omega arith, zero_chooses numbers.zero known.zero zero, at_start 0),
    lower 1 2 numbers.from_two.first (omega arith) (only_one (one_doesnt numbers.one known.one one))
        (first_is numbers.from_two.first numbers.from_two.second known.from_two),
  )
  by_chosen numbers known false true zero one = (
    (omega arith, omega arith, one_chooses numbers.one known.one one, only_zero (zero_doesnt numbers.zero known.zero zero)),
    first_is numbers.from_two.first numbers.from_two.second known.from_two,
  )
  by_chosen numbers known false false zero one =
      from_two numbers.from_two.first numbers.from_two.second known.from_two (zero_doesnt numbers.zero known.zero zero)
      (one_doesnt numbers.one known.one one)

  -- those that are known are the two least
  pub are_two_least : (numbers : CategoryNumbers) → AreNumbersOf rules category numbers
      → AreTwoLeastOf (Chooses rules category own_zero own_one)
      (chosen_of numbers own_zero own_one).first (chosen_of numbers own_zero own_one).second
  are_two_least numbers known = by_chosen numbers known (numbers.zero && not own_zero) (numbers.one && not own_one) refl refl
