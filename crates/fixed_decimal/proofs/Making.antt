-- The span that is cut out of all written digits: without the zeros at both ends, it gives them
-- back.
use Rattle.std.proofs.Common.{◌≡◌, ◌≢◌, ℕ, zero, suc, ◌+◌, ◌-◌, ◌<◌, ◌≤◌, max, List, [], ◌∷◌, ◌++◌, refl, sym, ◌∙◌, ap, length, take}
use Rattle.std.proofs.Common.{drop, arith, get_or, replicate, length-append, length-drop}
use Rattle.std.proofs.lemmas.List.{length-take-le, get_or-take, get_or-drop, take-append-drop, take_all, take_at, drop_at, take-take}
use Rattle.fixed_decimal.specs.Digits.{AreDigits}
use Rattle.fixed_decimal.specs.Places.{or_zero}
use Rattle.fixed_decimal.specs.Inner.UnsignedInside.{digits_of, places_of, IsSpan}
use Rattle.fixed_decimal.specs.Inner.TextParts.{AllDigitBytes, digits_in, written_digits, AreZeros}
use Rattle.fixed_decimal.specs.declared.unsigned.UnsignedDecimal.TheInside.{Inside}
use Rattle.fixed_decimal.proofs.Spans.{AreDigits-append, AreDigits-take, AreDigits-drop, same_places}
use Rattle.fixed_decimal.proofs.Points.{digits_back, length-digits_in, or_zero-digits, length-or_zero}

-- ---- the written digits

-- Bytes of digits on both sides write digits.
pub written_are_digits : (whole fraction : List ℕ) → AllDigitBytes whole → AllDigitBytes fraction
    → AreDigits (written_digits whole fraction)
written_are_digits whole fraction h k =
    AreDigits-append (or_zero (digits_in whole)) (digits_in fraction)
    (or_zero-digits (digits_in whole) (digits_back whole h).0) (digits_back fraction k).0

-- There is an integer digit for each byte, and one where there is no byte.
pub length-whole_digits : (whole : List ℕ) → length (or_zero (digits_in whole)) ≡ max (length whole) 1
length-whole_digits whole = length-or_zero (digits_in whole) ∙ ap (λ n. max n 1) (length-digits_in whole)

-- The written digits are the digits of both sides.
pub length-written : (whole fraction : List ℕ) → length (written_digits whole fraction) ≡ max (length whole) 1 + length fraction
length-written whole fraction =
    length-append (or_zero (digits_in whole)) (digits_in fraction) ∙ omega (arith, length-whole_digits whole, length-digits_in fraction)

-- ---- zeros at the ends

-- What stands before an index is zeros where each digit there is 0.
take_zeros : (n : ℕ) (ds : List ℕ) → n ≤ length ds → AreZeros ds 0 n → take n ds ≡ replicate n 0
take_zeros zero ds h z = refl
take_zeros (suc n) [] h z = absurd (omega arith)
take_zeros (suc n) (d ∷ ds) h z =
    ap (λ e. e ∷ take n ds) (z 0 (omega arith) (omega arith))
    ∙ ap (λ es. 0 ∷ es) (take_zeros n ds (omega arith) (λ k a b. z (suc k) (omega arith) (omega arith)))

-- So is what stands from an index on.
drop_zeros : (n : ℕ) (ds : List ℕ) → n ≤ length ds → AreZeros ds n (length ds) → drop n ds ≡ replicate (length ds - n) 0
drop_zeros n ds h z =
    let l : length (drop n ds) ≡ length ds - n = length-drop n ds in
    sym (take_all (length ds - n) (drop n ds) (omega arith))
    ∙ take_zeros (length ds - n) (drop n ds) (omega arith) (λ k a b. get_or-drop n ds k 0 ∙ z (n + k) (omega arith) (omega arith))

-- what stands between two indices
abbrev pub between : ℕ → ℕ → List ℕ → List ℕ
between from end ds = drop from (take end ds)

-- Between two indices stand as many digits as they are apart.
length-between : (from end : ℕ) (ds : List ℕ) → end ≤ length ds → length (between from end ds) ≡ end - from
length-between from end ds h = length-drop from (take end ds) ∙ ap (λ n. n - from) (length-take-le end ds h)

-- A digit there is the one at the same distance from the first index.
get_or-between : (from end k : ℕ) (ds : List ℕ) → from + k < end → get_or (between from end ds) k 0 ≡ get_or ds (from + k) 0
get_or-between from end k ds h = get_or-drop from (take end ds) k 0 ∙ get_or-take end ds (from + k) 0 h

-- Zeros up to one index and from another on, put around what stands between them, give all digits
-- back.
zeros_around : (from end : ℕ) (ds : List ℕ) → from ≤ end → end ≤ length ds → AreZeros ds 0 from
    → AreZeros ds end (length ds) → replicate from 0 ++ between from end ds ++ replicate (length ds - end) 0 ≡ ds
zeros_around from end ds h k a b =
    let front : replicate from 0 ≡ take from (take end ds) = sym (take_zeros from ds (omega arith) a) ∙ sym (take-take from end ds h) in
    let back : replicate (length ds - end) 0 ≡ drop end ds = sym (drop_zeros end ds k b) in
    ap (λ xs. xs ++ between from end ds ++ replicate (length ds - end) 0) front
    ∙ ap (λ xs. take from (take end ds) ++ between from end ds ++ xs) back
    ∙ ap (λ xs. xs ++ drop end ds) (take-append-drop from (take end ds))
    ∙ take-append-drop end ds

-- ---- the span as the parser finds it

module _ (a : Inside) (ds : List ℕ) (end : ℕ) (all : a.whole_places + a.fraction_places ≡ length ds)
    (order : a.leading_zeros ≤ end) (inside : end ≤ length ds) (span : a.span.items ≡ between a.leading_zeros end ds) where
  -- The span is as long as the indices are apart.
  length-span : length a.span.items ≡ end - a.leading_zeros
  length-span = ap length span ∙ length-between a.leading_zeros end ds inside

  -- The digits between the first and the last that isn't 0 are a span within the limits.
  pub spans : 0 < a.whole_places → a.whole_places ≤ 32767 → a.fraction_places ≤ 32767 → AreDigits ds
      → (a.leading_zeros < length ds → get_or ds a.leading_zeros 0 ≢ 0) → (a.leading_zeros < end → get_or ds (end - 1) 0 ≢ 0) → IsSpan a
  spans some w f digits first last =
      record {
        whole_nonempty = some;
        whole_within = w;
        fraction_within = f;
        inside = omega (arith, length-span);
        digits = rw span (AreDigits-drop a.leading_zeros (take end ds) (AreDigits-take end ds digits));
        first_nonzero = λ n z. first (omega (arith, length-span))
            (sym (at_index 0 (omega (arith, length-span)) a.leading_zeros (omega arith)) ∙ z);
        last_nonzero = λ n z. last (omega (arith, length-span))
            (sym (at_index (length a.span.items - 1) (omega (arith, length-span)) (end - 1) (omega (arith, length-span))) ∙ z);
      }
    where
      at_index : (k : ℕ) → a.leading_zeros + k < end → (i : ℕ) → a.leading_zeros + k ≡ i → get_or a.span.items k 0 ≡ get_or ds i 0
      at_index k h i e = ap (λ xs. get_or xs k 0) span ∙ get_or-between a.leading_zeros end k ds h ∙ ap (λ j. get_or ds j 0) e

  -- With the zeros around it the span gives all written digits back.
  digits_of_all : AreZeros ds 0 a.leading_zeros → AreZeros ds end (length ds) → digits_of a ≡ ds
  digits_of_all before behind =
      let rest : a.whole_places + a.fraction_places - (a.leading_zeros + length a.span.items) ≡ length ds - end
      = omega (arith, length-span) in
      ap (λ n. replicate a.leading_zeros 0 ++ a.span.items ++ replicate n 0) rest
      ∙ ap (λ xs. replicate a.leading_zeros 0 ++ xs ++ replicate (length ds - end) 0) span
      ∙ zeros_around a.leading_zeros end ds order inside before behind

-- Cut at the point, they are the integer and the fraction digits.
pub places_of_all : (a : Inside) (whole fraction : List ℕ) (end : ℕ) → a.whole_places ≡ length whole
    → a.fraction_places ≡ length fraction → a.leading_zeros ≤ end → end ≤ length (whole ++ fraction)
    → a.span.items ≡ between a.leading_zeros end (whole ++ fraction) → AreZeros (whole ++ fraction) 0 a.leading_zeros
    → AreZeros (whole ++ fraction) end (length (whole ++ fraction)) → places_of a ≡ record { whole = whole; fraction = fraction }
places_of_all a whole fraction end w f order inside span before behind =
    let all : a.whole_places + a.fraction_places ≡ length (whole ++ fraction) = omega (arith, length-append whole fraction) in
    let e : digits_of a ≡ whole ++ fraction = digits_of_all a (whole ++ fraction) end all order inside span before behind in
    same_places _ _ _ _
    (ap (λ ds. take a.whole_places ds) e ∙ take_at whole fraction a.whole_places (sym w))
    (ap (λ ds. drop a.whole_places ds) e ∙ drop_at whole fraction a.whole_places (sym w))
