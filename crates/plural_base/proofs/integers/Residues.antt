-- Remainders, and tables that are filled one entry after the other.
use Rattle.std.proofs.Common.{◌≡◌, ◌≢◌, ℕ, zero, suc, replicate, ◌+◌, ◌%◌, ◌<◌, ◌≤◌, List, length, Bool, true, false, refl, sym, ◌∙◌, ap, subst, arith, below_more}
use Rattle.std.proofs.Common.{get_or-set_other, get_or-set_same, get_or}
use Rattle.std.specs.Prelude.{◌==◌, if◌then◌else◌, slice_set, Option, None}
use Rattle.std.proofs.Math.Nat.{dvd_iff_mod-eq-zero, mod-mod_of_dvd}
use Rattle.std.proofs.lemmas.Bool.{eqb-true}
use Rattle.std.proofs.lemmas.Bool.Decides.{nat_tests}
use Rattle.plural_reference.specs.Truth.{remainder, range_holds}
use Rattle.plural_base.specs.Inner.WholeNumbers.{IsTold}

-- by a modulus above 0 a remainder is what the division leaves
pub remainder-is : (m n : ℕ) (none : Bool) → (m == 0) ≡ none → m ≢ 0 → (if none then n else (n % m)) ≡ n % m
remainder-is m n true e above = absurd (above (eqb-true m 0 e))
remainder-is m n false e above = refl

-- a divisor of the cycle leaves of a number what it leaves of the number's residue
pub by_divisor : (cycle m n r : ℕ) → m ≢ 0 → cycle % m ≡ 0 → n % cycle ≡ r → remainder m n ≡ r % m
by_divisor cycle m n r above divides residue =
    remainder-is m n (m == 0) refl above
    ∙ sym (mod-mod_of_dvd m n ((dvd_iff_mod-eq-zero m {n = cycle}).1 divides))
    ∙ ap (λ k. k % m) residue

-- what a multiple of the cycle leaves of a number has the number's residue
pub by_multiple : (cycle m n r : ℕ) → m ≢ 0 → m % cycle ≡ 0 → n % cycle ≡ r → remainder m n % cycle ≡ r
by_multiple cycle m n r above divides residue =
    ap (λ k. k % cycle) (remainder-is m n (m == 0) refl above)
    ∙ mod-mod_of_dvd cycle n ((dvd_iff_mod-eq-zero cycle {n = m}).1 divides)
    ∙ residue

-- a range that ends below a value doesn't hold it
pub ends_below : (start end least value : ℕ) → least ≤ value → end < least → range_holds value (start, end) ≡ false
ends_below start end least value from below = grind (arith, nat_tests)

-- a table that has what is wanted below a place has it below the next one, once the place is
-- written
pub entries_more : {A : Type 0} (xs : List A) (k : ℕ) (x d : A) (want : ℕ → A) → k < length xs
    → ((n : ℕ) → n < k → get_or xs n d ≡ want n) → x ≡ want k
    → (n : ℕ) → n < k + 1 → get_or (slice_set xs k x) n d ≡ want n
entries_more xs k x d want within so_far same =
    below_more _ _
    (λ n h. let ne : n ≢ k = omega arith in rw get_or-set_other (so_far n h))
    (rw get_or-set_same same)

-- the same of a table of what is told of all numbers from a bound on, by what they leave
pub told_more : {A : Type 0} (cycle : List (Option A)) (k bound m : ℕ) (told : Option A) (value : ℕ → A) → k < length cycle
    → ((n : ℕ) → bound ≤ n → n % m < k → IsTold (value n) (get_or cycle (n % m) None))
    → ((n : ℕ) → bound ≤ n → n % m ≡ k → IsTold (value n) told)
    → (n : ℕ) → bound ≤ n → n % m < k + 1 → IsTold (value n) (get_or (slice_set cycle k told) (n % m) None)
told_more {A} cycle k bound m told value within so_far here = λ n from below.
    let P : ℕ → Type 0 = λ r. (j : ℕ) → bound ≤ j → j % m ≡ r → IsTold (value j) (get_or (slice_set cycle k told) r None) in
    let earlier : (r : ℕ) → r < k → P r = λ r lt j above e.
    let ne : r ≢ k = omega arith in
    let Q : Option A → Type 0 = λ found. IsTold (value j) found in
    let R : ℕ → Type 0 = λ x. IsTold (value j) (get_or cycle x None) in
    let S : ℕ → Type 0 = λ x. x < k in
    subst Q (sym (get_or-set_other cycle k r told None ne)) (subst R e (so_far j above (subst S (sym e) lt))) in
    let last : P k = λ j above e.
    let Q : Option A → Type 0 = λ found. IsTold (value j) found in
    subst Q (sym (get_or-set_same cycle k told None within)) (here j above e) in
    below_more P k earlier last (n % m) below n from refl

-- a table that is empty has nothing anywhere
pub none_at : {A : Type 0} (n k : ℕ) → get_or {A = Option A} (replicate n None) k None ≡ None
none_at zero k = refl
none_at (suc n) zero = refl
none_at (suc n) (suc k) = none_at n k

-- a range holds 0 if it starts there
pub holds_zero : (start end : ℕ) → range_holds 0 (start, end) ≡ (start == 0)
holds_zero start end = grind (arith, nat_tests)

-- one value is in no range of another remainder
pub leaves_another : (one m value : ℕ) → one % m ≢ value % m → range_holds value (one, one) ≡ false
leaves_another one m value other = by (range_holds value (one, one)) refl
  where
    by : (held : Bool) → range_holds value (one, one) ≡ held → held ≡ false
    by false e = refl
    by true e = absurd (other (ap (λ n. n % m) (let same : one ≡ value = grind (arith, nat_tests) in same)))
