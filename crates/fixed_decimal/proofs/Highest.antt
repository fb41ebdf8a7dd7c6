-- The highest digit that isn't zero: the stored span begins with it.
use Rattle.std.proofs.Common.{◌≡◌, ◌≢◌, ℕ, suc, ◌+◌, ◌-◌, ◌<◌, ◌≤◌, ◌≤ℤ◌, inl, inr, refl, sym, ◌∙◌, ap, subst, length, arith, get_or}
use Rattle.std.proofs.Common.{reverse, pos, negsuc, ℤ, int_lt, nat_abs, true, false, ◌↔◌}
use Rattle.std.proofs.lemmas.Int.{ints}
use Rattle.std.proofs.lemmas.Bool.{cases_lt}
use Rattle.std.proofs.lemmas.List.{length-reverse}
use Rattle.std.proofs.Math.ListN.{get_or-eq_default}
use Rattle.fixed_decimal.specs.Places.{Places, digit_at, HasDigitFrom}
use Rattle.fixed_decimal.specs.Inner.UnsignedInside.{digits_of, places_of, IsSpan}
use Rattle.fixed_decimal.specs.declared.unsigned.UnsignedDecimal.TheInside.{Inside}
use Rattle.fixed_decimal.proofs.Spans.{digit_before, digit_after, digit_at_index, length-whole, negative_place, whole_place}

-- with these integer places, the digit after these leading zeros stands at this power of ten or
-- above
abbrev pub Reaches : ℕ → ℕ → ℤ → Type 0
Reaches places leading (pos n) = leading + n < places
Reaches places leading (negsuc n) = leading < places + suc n

-- A place that is reached stays reached from a lower power of ten.
Reaches-lower : (places leading : ℕ) (k j : ℤ) → k ≤ℤ j → Reaches places leading j → Reaches places leading k
Reaches-lower places leading (pos n) (pos m) h r = omega (arith, ints, h)
Reaches-lower places leading (pos n) (negsuc m) h r = absurd (omega (arith, ints, h))
Reaches-lower places leading (negsuc n) (pos m) h r = omega arith
Reaches-lower places leading (negsuc n) (negsuc m) h r = omega (arith, ints, h)

-- No power of ten of the integer digits is below 0.
not_negative : (n : ℕ) → int_lt (pos n) (pos 0) ≡ false
not_negative n = grind (arith, ints)

-- a digit at an index that isn't zero is one of the span
in_span : (a : Inside) (i : ℕ) → 0 < get_or (digits_of a) i 0 → (a.leading_zeros ≤ i) × (0 < length a.span.items)
in_span a i h =
    elim (cases_lt i a.leading_zeros) [
      | inl before ↦ (let z : get_or (digits_of a) i 0 ≡ 0 = digit_before a i before in absurd (omega arith))
      | inr after ↦ (
        after,
        elim (cases_lt 0 (length a.span.items)) [
          | inl some ↦ some
          | inr none ↦
              (let z : get_or (digits_of a) i 0 ≡ 0 = digit_after a i after
              ∙ get_or-eq_default a.span.items 0 (let short : length a.span.items ≤ i - a.leading_zeros = omega arith in short) in
              absurd (omega arith))
        ],
      )
    ]

-- ... and so is one at a place
digit_reaches : (a : Inside) (j : ℤ) → IsSpan a → 0 < digit_at (places_of a) j
    → Reaches a.whole_places a.leading_zeros j × (0 < length a.span.items)
digit_reaches a (pos m) h some =
    let w : length (places_of a).whole ≡ a.whole_places = length-whole a h in
    elim (cases_lt m (length (places_of a).whole)) [
      | inl inside ↦
          let e : get_or (digits_of a) (length (places_of a).whole - 1 - m) 0 ≡ digit_at (places_of a) (pos m)
          = digit_at_index a (length (places_of a).whole - 1 - m) ∙ whole_place (places_of a) (pos m) (not_negative m) inside in
          let r : (a.leading_zeros ≤ length (places_of a).whole - 1 - m) × (0 < length a.span.items)
          = in_span a (length (places_of a).whole - 1 - m) (subst (λ d. 0 < d) (sym e) some) in
          (let l : a.leading_zeros ≤ length (places_of a).whole - 1 - m = r.0 in omega arith, r.1)
      | inr past ↦
          let z : digit_at (places_of a) (pos m) ≡ 0
          = get_or-eq_default (reverse (places_of a).whole) 0 (let short : length (reverse (places_of a).whole) ≤ m
          = omega (arith, length-reverse (places_of a).whole) in short) in
          absurd (omega arith)
    ]
digit_reaches a (negsuc m) h some =
    let w : length (places_of a).whole ≡ a.whole_places = length-whole a h in
    let e : get_or (digits_of a) (length (places_of a).whole + suc m - 1) 0 ≡ digit_at (places_of a) (negsuc m)
    = digit_at_index a (length (places_of a).whole + suc m - 1) ∙ negative_place (places_of a) (negsuc m) refl in
    let r : (a.leading_zeros ≤ length (places_of a).whole + suc m - 1) × (0 < length a.span.items)
    = in_span a (length (places_of a).whole + suc m - 1) (subst (λ d. 0 < d) (sym e) some) in
    (let l : a.leading_zeros ≤ length (places_of a).whole + suc m - 1 = r.0 in omega arith, r.1)

-- A digit that isn't 0 from a place on is one of the span, whose first digit then stands there or
-- above.
pub reached : (a : Inside) (k : ℤ) → IsSpan a → HasDigitFrom (places_of a) k
    → Reaches a.whole_places a.leading_zeros k × (0 < length a.span.items)
reached a k h p =
    let r : Reaches a.whole_places a.leading_zeros p.0 × (0 < length a.span.items) = digit_reaches a p.0 h p.2 in
    (Reaches-lower a.whole_places a.leading_zeros k p.0 p.1 r.0, r.1)

-- the span's first digit isn't zero
first_digit : (a : Inside) → IsSpan a → 0 < length a.span.items → 0 < get_or (digits_of a) a.leading_zeros 0
first_digit a h some =
    let z : a.leading_zeros - a.leading_zeros ≡ 0 = omega arith in
    let e : get_or (digits_of a) a.leading_zeros 0 ≡ get_or a.span.items 0 0
    = digit_after a a.leading_zeros (omega arith) ∙ ap (λ i. get_or a.span.items i 0) z in
    let n : get_or a.span.items 0 0 ≢ 0 = h.first_nonzero some in
    omega arith

-- Where the span begins at a place or above, the digit that isn't 0 is its first.
pub reaches : (a : Inside) (k : ℤ) → IsSpan a → 0 < length a.span.items → Reaches a.whole_places a.leading_zeros k
    → HasDigitFrom (places_of a) k
reaches a k h some r =
    let w : length (places_of a).whole ≡ a.whole_places = length-whole a h in
    elim (cases_lt a.leading_zeros a.whole_places) [
      | inl whole ↦
          let i : length (places_of a).whole - 1 - (a.whole_places - 1 - a.leading_zeros) ≡ a.leading_zeros = omega arith in
          let e : digit_at (places_of a) (pos (a.whole_places - 1 - a.leading_zeros)) ≡ get_or (digits_of a) a.leading_zeros 0
          = sym (whole_place (places_of a) (pos (a.whole_places - 1 - a.leading_zeros))
          (not_negative (a.whole_places - 1 - a.leading_zeros)) (omega arith))
          ∙ sym (digit_at_index a (length (places_of a).whole - 1 - (a.whole_places - 1 - a.leading_zeros)))
          ∙ ap (λ n. get_or (digits_of a) n 0) i in
          (pos (a.whole_places - 1 - a.leading_zeros), below k whole r, subst (λ d. 0 < d) (sym e) (first_digit a h some))
      | inr fraction ↦
          let i : length (places_of a).whole + suc (a.leading_zeros - a.whole_places) - 1 ≡ a.leading_zeros = omega arith in
          let e : digit_at (places_of a) (negsuc (a.leading_zeros - a.whole_places)) ≡ get_or (digits_of a) a.leading_zeros 0
          = sym (negative_place (places_of a) (negsuc (a.leading_zeros - a.whole_places)) refl)
          ∙ sym (digit_at_index a (length (places_of a).whole + suc (a.leading_zeros - a.whole_places) - 1))
          ∙ ap (λ n. get_or (digits_of a) n 0) i in
          (negsuc (a.leading_zeros - a.whole_places), lower k fraction r, subst (λ d. 0 < d) (sym e) (first_digit a h some))
    ]
  where
    below : (k : ℤ) → a.leading_zeros < a.whole_places → Reaches a.whole_places a.leading_zeros k
        → k ≤ℤ pos (a.whole_places - 1 - a.leading_zeros)
    below (pos n) inside r = omega (arith, ints)
    below (negsuc n) inside r = omega (arith, ints)

    lower : (k : ℤ) → a.whole_places ≤ a.leading_zeros → Reaches a.whole_places a.leading_zeros k
        → k ≤ℤ negsuc (a.leading_zeros - a.whole_places)
    lower (pos n) past r = absurd (omega arith)
    lower (negsuc n) past r = omega (arith, ints)

-- what the two tests of the code tell
pub from_below : (a : Inside) (x : Places) (k : ℤ) → IsSpan a → places_of a ≡ x → 0 < length a.span.items
    → int_lt k (pos 0) ≡ true → (a.leading_zeros < a.whole_places + nat_abs k) ↔ HasDigitFrom x k
from_below a x (pos n) h v some e = absurd (omega (arith, ints, e))
from_below a x (negsuc n) h v some e = (
  λ r. subst (λ (y : Places). HasDigitFrom y (negsuc n)) v (reaches a (negsuc n) h some r),
  λ p. (reached a (negsuc n) h (subst (λ (y : Places). HasDigitFrom y (negsuc n)) (sym v) p)).0,
)

-- The test for the powers of ten from 0 on.
pub from_above : (a : Inside) (x : Places) (k : ℤ) → IsSpan a → places_of a ≡ x → 0 < length a.span.items
    → int_lt k (pos 0) ≡ false → (a.leading_zeros + nat_abs k < a.whole_places) ↔ HasDigitFrom x k
from_above a x (pos n) h v some e = (
  λ r. subst (λ (y : Places). HasDigitFrom y (pos n)) v (reaches a (pos n) h some r),
  λ p. (reached a (pos n) h (subst (λ (y : Places). HasDigitFrom y (pos n)) (sym v) p)).0,
)
from_above a x (negsuc n) h v some e = absurd (omega (arith, ints, e))

-- An empty span holds no digit that isn't 0.
pub none_from : (a : Inside) (x : Places) (k : ℤ) → IsSpan a → places_of a ≡ x → length a.span.items ≡ 0 → HasDigitFrom x k → ⊥
none_from a x k h v none p =
    let some : 0 < length a.span.items = (reached a k h (subst (λ (y : Places). HasDigitFrom y k) (sym v) p)).1 in omega arith
