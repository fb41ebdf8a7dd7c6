-- The number that a run of the written digits writes, by the stored span.
use Rattle.std.proofs.Common.{◌≡◌, ℕ, zero, suc, ◌+◌, ◌-◌, ◌*◌, ◌^◌, ◌<◌, ◌≤◌, inl, inr, min, List, [], ◌∷◌, ◌++◌, refl, sym, ◌∙◌, ap}
use Rattle.std.proofs.Common.{subst, length, take, drop, arith, get_or, replicate}
use Rattle.std.proofs.lemmas.Bool.{cases_lt}
use Rattle.std.proofs.lemmas.List.{ext_get_or, length-replicate, length-take-le, length-drop, get_or-take, get_or-drop}
use Rattle.std.proofs.Math.ListN.{get_or-eq_default}
use Rattle.fixed_decimal.specs.Digits.{value_of, AreDigits}
use Rattle.fixed_decimal.specs.Places.{Places, digits_from}
use Rattle.fixed_decimal.specs.Inner.UnsignedInside.{digits_of, places_of, IsSpan}
use Rattle.fixed_decimal.specs.declared.unsigned.UnsignedDecimal.TheInside.{Inside}
use Rattle.fixed_decimal.proofs.Spans.{AreDigits-take, AreDigits-drop, AreDigits-padded, padded, length-padded, padded-before}
use Rattle.fixed_decimal.proofs.Spans.{padded-after, digit_before, digit_after, digit_at_index}
use Rattle.fixed_decimal.proofs.Values.{value_of-append, value_of-below}

-- ---- a run of digits from a place on

-- A run has as many digits as are asked for.
pub length-digits_from : (x : Places) (i n : ℕ) → length (digits_from x i n) ≡ n
length-digits_from x i zero = refl
length-digits_from x i (suc n) = let e : length (digits_from x (suc i) n) ≡ n = length-digits_from x (suc i) n in omega arith

-- each is the written digit at its place
digits_from-at : (x : Places) (i n k : ℕ) → k < n → get_or (digits_from x i n) k 0 ≡ get_or (x.whole ++ x.fraction) (i + k) 0
digits_from-at x i zero k h = absurd (omega arith)
digits_from-at x i (suc n) zero h = let e : i ≡ i + 0 = omega arith in ap (λ j. get_or (x.whole ++ x.fraction) j 0) e
digits_from-at x i (suc n) (suc k) h =
    let e : suc i + k ≡ i + suc k = omega arith in
    digits_from-at x (suc i) n k (omega arith) ∙ ap (λ j. get_or (x.whole ++ x.fraction) j 0) e

-- zeros write 0
value_of-no_digits : (ds : List ℕ) → ((k : ℕ) → k < length ds → get_or ds k 0 ≡ 0) → value_of ds ≡ 0
value_of-no_digits [] h = refl
value_of-no_digits (d ∷ ds) h =
    let first : d ≡ 0 = h 0 (omega arith) in
    let rest : value_of ds ≡ 0 = value_of-no_digits ds (λ k b. h (suc k) (omega arith)) in
    ap (λ n. n * 10 ^ length ds + value_of ds) first ∙ omega arith

-- ---- what zeros around digits make of their number

-- Zeros at the front change no number.
value_of-zeros_before : (n : ℕ) (ds : List ℕ) → value_of (replicate n 0 ++ ds) ≡ value_of ds
value_of-zeros_before zero ds = refl
value_of-zeros_before (suc n) ds = let e : value_of (replicate n 0 ++ ds) ≡ value_of ds = value_of-zeros_before n ds in omega arith

-- Zeros write 0.
value_of-zeros : (n : ℕ) → value_of (replicate n 0) ≡ 0
value_of-zeros zero = refl
value_of-zeros (suc n) = let e : value_of (replicate n 0) ≡ 0 = value_of-zeros n in omega arith

-- each zero after them is a power of ten, and zeros before them are nothing
value_of-padded : (n : ℕ) (ds : List ℕ) (m : ℕ) → value_of (padded n ds m) ≡ value_of ds * 10 ^ m
value_of-padded n ds m =
    let l : length (replicate {A = ℕ} m 0) ≡ m = length-replicate {A = ℕ} m 0 in
    value_of-append (replicate n 0 ++ ds) (replicate m 0)
    ∙ ap (λ k. k * 10 ^ length (replicate {A = ℕ} m 0) + value_of (replicate m 0)) (value_of-zeros_before n ds)
    ∙ ap (λ k. value_of ds * 10 ^ k + value_of (replicate m 0)) l
    ∙ ap (λ k. value_of ds * 10 ^ m + k) (value_of-zeros m)
    ∙ omega arith

-- ---- the stored digits of a run: the digits of the span from `start` to `stop`

-- `before` of the run's digits are zeros that stand before the span.
module _ (a : Inside) (place count before start stop end : ℕ) (b : before ≡ min count (a.leading_zeros - place))
    (s : start ≡ place - a.leading_zeros) (some : start < length a.span.items)
    (e : end ≡ place + count - a.leading_zeros) (t : stop ≡ min end (length a.span.items)) where
  -- The run has all digits between the two.
  length-kept : length (take (stop - start) (drop start a.span.items)) ≡ stop - start
  length-kept = length-take-le (stop - start) (drop start a.span.items) (omega (arith, length-drop start a.span.items))

  -- They are the span's own, in order.
  kept-at : (j : ℕ) → j < end - start → get_or (take (stop - start) (drop start a.span.items)) j 0 ≡ get_or a.span.items (start + j) 0
  kept-at j h =
      elim (cases_lt j (stop - start)) [
        | inl inside ↦ get_or-take (stop - start) (drop start a.span.items) j 0 inside ∙ get_or-drop start a.span.items j 0
        | inr past ↦
            let short : length (take (stop - start) (drop start a.span.items)) ≤ j = omega (arith, length-kept) in
            let none : length a.span.items ≤ start + j = omega arith in
            get_or-eq_default (take (stop - start) (drop start a.span.items)) 0 short ∙ sym (get_or-eq_default a.span.items 0 none)
      ]

  -- Each digit of the run is one of them, or a zero before or after them.
  run-at : (k : ℕ) → k < count
      → get_or (digits_of a) (place + k) 0 ≡ get_or (padded before (take (stop - start) (drop start a.span.items)) (end - stop)) k 0
  run-at k h =
      elim (cases_lt k before) [
        | inl zeros ↦
            digit_before a (place + k) (omega arith)
            ∙ sym (padded-before before (take (stop - start) (drop start a.span.items)) (end - stop) k zeros)
        | inr past ↦
            let i : place + k - a.leading_zeros ≡ start + (k - before) = omega arith in
            let j : before + (k - before) ≡ k = omega arith in
            digit_after a (place + k) (omega arith)
            ∙ ap (λ m. get_or a.span.items m 0) i
            ∙ sym (kept-at (k - before) (omega arith))
            ∙ sym (padded-after before (take (stop - start) (drop start a.span.items)) (end - stop) (k - before))
            ∙ ap (λ m. get_or (padded before (take (stop - start) (drop start a.span.items)) (end - stop)) m 0) j
      ]

  -- The run is these digits between zeros.
  run : digits_from (places_of a) place count ≡ padded before (take (stop - start) (drop start a.span.items)) (end - stop)
  run =
      ext_get_or 0 _ _
      (length-digits_from (places_of a) place count
      ∙ omega (arith, length-padded before (take (stop - start) (drop start a.span.items)) (end - stop), length-kept))
      (λ k h.
      let inside : k < count = omega (arith, length-digits_from (places_of a) place count) in
      digits_from-at (places_of a) place count k inside ∙ sym (digit_at_index a (place + k)) ∙ run-at k inside)

  -- The run's number is theirs times a power of ten for each zero after them.
  pub run_value : value_of (take (stop - start) (drop start a.span.items)) * 10 ^ (end - stop)
      ≡ value_of (digits_from (places_of a) place count)
  run_value = sym (ap value_of run ∙ value_of-padded before (take (stop - start) (drop start a.span.items)) (end - stop))

  -- It is below the power of ten of the run's length.
  pub run_below : IsSpan a → value_of (take (stop - start) (drop start a.span.items)) * 10 ^ (end - stop) < 10 ^ count
  run_below h =
      let digits : AreDigits (digits_from (places_of a) place count)
      = subst AreDigits (sym run)
      (AreDigits-padded before (take (stop - start) (drop start a.span.items)) (end - stop)
      (AreDigits-take (stop - start) (drop start a.span.items) (AreDigits-drop start a.span.items h.digits))) in
      let l : length (digits_from (places_of a) place count) ≡ count = length-digits_from (places_of a) place count in
      subst (λ n. n < 10 ^ count) (sym run_value)
      (subst (λ n. value_of (digits_from (places_of a) place count) < 10 ^ n) l
      (value_of-below (digits_from (places_of a) place count) digits))

-- A run past the span writes 0.
pub past_span : (a : Inside) (place count : ℕ) → length a.span.items ≤ place - a.leading_zeros
    → value_of (digits_from (places_of a) place count) ≡ 0
past_span a place count past =
    value_of-no_digits (digits_from (places_of a) place count)
    (λ k h.
    let inside : k < count = omega (arith, length-digits_from (places_of a) place count) in
    digits_from-at (places_of a) place count k inside ∙ sym (digit_at_index a (place + k)) ∙ none k)
  where
    none : (k : ℕ) → get_or (digits_of a) (place + k) 0 ≡ 0
    none k =
        elim (cases_lt (place + k) a.leading_zeros) [
          | inl before ↦ digit_before a (place + k) before
          | inr after ↦
              (let short : length a.span.items ≤ place + k - a.leading_zeros = omega arith in
              digit_after a (place + k) after ∙ get_or-eq_default a.span.items 0 short)
        ]
