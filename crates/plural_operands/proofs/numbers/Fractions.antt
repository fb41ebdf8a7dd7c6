-- What operands say of the digits that they come from.
use Rattle.std.proofs.Common.{◌≡◌, ℕ, zero, suc, ◌+◌, ◌-◌, ◌/◌, ◌^◌, ◌<◌, ◌≤◌, ◌↔◌, List, [], ◌∷◌, ◌++◌, sym, ◌∙◌, ap, subst, length, drop}
use Rattle.std.proofs.Common.{arith, get_or, leb}
use Rattle.std.proofs.lemmas.Bool.{le-leb, cond-true}
use Rattle.std.proofs.lemmas.List.{take_all}
use Rattle.std.proofs.lemmas.Nat.Gcd.{dvd-zero, mod-eq-zero_of_dvd}
use Rattle.std.proofs.Math.Nat.{mod-eq_of_lt}
use Rattle.std.specs.Int.{◌∣◌}
use Rattle.fixed_decimal.specs.Digits.{value_of, AreDigits}
use Rattle.fixed_decimal.specs.Places.{Places, IsWritten, one_right, shift_right}
use Rattle.plural_operands.specs.Operands.{Operands, HasFraction, IsKeptAt, IsExactAt, kept_whole}
use Rattle.plural_operands.proofs.numbers.Numbers.{value_of-append-div, value_of-append-mod, AreDigits-append, AreDigits-drop}

-- ---- the shift keeps a written number

-- The first digit is below ten, also if it is missing and counts as 0.
first_digit : (ds : List ℕ) → AreDigits ds → get_or ds 0 0 < 10
first_digit [] h = omega arith
first_digit (d ∷ ds) h = h.0

-- Without the first they are digits still.
drop_one : (ds : List ℕ) → AreDigits ds → AreDigits (drop 1 ds)
drop_one ds h = AreDigits-drop 1 ds h

-- With one more there is a digit.
some_more : (xs : List ℕ) (y : ℕ) → 0 < length (xs ++ y ∷ [])
some_more [] y = omega arith
some_more (x ∷ xs) y = omega arith

-- One place to the right keeps a written number.
pub IsWritten-one_right : (x : Places) → IsWritten x → IsWritten (one_right x)
IsWritten-one_right x h = record {
  nonempty = some_more x.whole (get_or x.fraction 0 0);
  whole = AreDigits-append x.whole (get_or x.fraction 0 0 ∷ []) h.whole (first_digit x.fraction h.fraction, tt);
  fraction = drop_one x.fraction h.fraction;
}

-- So does a shift by any number of places.
pub IsWritten-shift_right : (d : ℕ) (x : Places) → IsWritten x → IsWritten (shift_right d x)
IsWritten-shift_right zero x h = h
IsWritten-shift_right (suc d) x h = IsWritten-one_right (shift_right d x) (IsWritten-shift_right d x h)

-- ---- the fraction's operands are determined

-- Two lists of operands with the same v, w, f and t.
pub record SameFraction (a b : Operands) : Type 0 where
  pub v : a.v ≡ b.v
  pub w : a.w ≡ b.w
  pub f : a.f ≡ b.f
  pub t : a.t ≡ b.t

-- The digits that are shown determine them.
pub one_fraction : (a b : Operands) (shown written : ℕ) → HasFraction a shown written → HasFraction b shown written → SameFraction a b
one_fraction a b shown written h k =
    let below : a.w ≤ b.w = h.w_least b.w k.w_divides in
    let above : b.w ≤ a.w = k.w_least a.w h.w_divides in
    let w : a.w ≡ b.w = omega arith in
    record {
      v = h.v ∙ sym k.v;
      w = w;
      f = h.f ∙ sym k.f;
      t = h.t ∙ ap (λ n. written / 10 ^ (shown - n)) w ∙ sym k.t;
    }

-- no digit but zeros is shown exactly if w is 0
pub zero_fraction : (o : Operands) (shown written : ℕ) → HasFraction o shown written → written < 10 ^ shown → (o.w ≡ 0) ↔ (written ≡ 0)
zero_fraction o shown written h below = (
  λ e.
      let d : 10 ^ (shown - o.w) ∣ written = h.w_divides in
      let k : shown - o.w ≡ shown = omega arith in
      sym (mod-eq_of_lt below) ∙ mod-eq-zero_of_dvd (10 ^ shown) (subst (λ (j : ℕ). 10 ^ j ∣ written) k d),
  λ e.
      let d : 10 ^ (shown - 0) ∣ written = subst (λ (n : ℕ). 10 ^ (shown - 0) ∣ n) (sym e) (dvd-zero (10 ^ (shown - 0))) in
      let least : o.w ≤ 0 = h.w_least 0 d in
      omega arith,
)

-- ---- the exact operands by the digits on each side

-- The exact i is what the integer digits write.
pub exact_whole : (y : Places) (e : ℕ) (o : Operands) → IsWritten y → IsExactAt y e o → o.i ≡ value_of y.whole
exact_whole y e o h k = k.i ∙ value_of-append-div y.whole y.fraction h.fraction

-- The exact v, w, f and t come from the fraction digits.
pub exact_fraction : (y : Places) (e : ℕ) (o : Operands) → IsWritten y → IsExactAt y e o
    → HasFraction o (length y.fraction) (value_of y.fraction)
exact_fraction y e o h k
    = subst (λ (n : ℕ). HasFraction o (length y.fraction) n) (value_of-append-mod y.whole y.fraction h.fraction) k.fraction

-- At most 18 integer digits are kept as they are.
pub kept_whole-short : (ds : List ℕ) → length ds ≤ 18 → kept_whole ds ≡ value_of ds
kept_whole-short ds h
    = cond-true (leb (length ds) 18) (value_of ds) (value_of (drop (length ds - 18) ds) + 10 ^ 18) (le-leb (length ds) 18 h)

-- So are the kept ones of at most 18 fraction digits.
pub kept_fraction : (y : Places) (e : ℕ) (o : Operands) → length y.fraction ≤ 18 → IsKeptAt y e o
    → HasFraction o (length y.fraction) (value_of y.fraction)
kept_fraction y e o h k = subst (λ (ds : List ℕ). HasFraction o (length ds) (value_of ds)) (take_all 18 y.fraction h) k.fraction

-- Then both are the same.
pub same_fraction : (y : Places) (e : ℕ) (a b : Operands) → IsWritten y → length y.fraction ≤ 18 → IsKeptAt y e a
    → IsExactAt y e b → SameFraction a b
same_fraction y e a b h short c x = one_fraction a b _ _ (kept_fraction y e a short c) (exact_fraction y e b h x)
