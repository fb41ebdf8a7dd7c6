-- The written digits by the bytes on the two sides of the point.
use Rattle.std.proofs.Common.{◌≡◌, ◌≢◌, ℕ, zero, suc, ◌+◌, ◌-◌, ◌<◌, ◌≤◌, ◌⊎◌, inl, inr, max, min, List, [], ◌∷◌, ◌++◌, refl, sym, ◌∙◌}
use Rattle.std.proofs.Common.{ap, subst, length, take, drop, arith, get_or, length-append, length-drop}
use Rattle.std.proofs.lemmas.Bool.{cases_lt}
use Rattle.std.proofs.lemmas.List.{get_or-append_right, get_or-take, get_or-drop, length-take, length-take-le, ext_get_or}
use Rattle.std.proofs.Math.ListN.{get_or-append}
use Rattle.fixed_decimal.specs.Places.{or_zero}
use Rattle.fixed_decimal.specs.Inner.TextParts.{IsDigitByte, AllDigitBytes, digits_in, written_digits}
use Rattle.fixed_decimal.proofs.Points.{length-digits_in}
use Rattle.fixed_decimal.proofs.Making.{length-whole_digits, length-written}

-- The digit at an index is the byte there less 48, also past the end.
pub digit_of_byte : (text : List ℕ) (k : ℕ) → get_or (digits_in text) k 0 ≡ get_or text k 0 - 48
digit_of_byte [] zero = refl
digit_of_byte [] (suc k) = refl
digit_of_byte (c ∷ cs) zero = refl
digit_of_byte (c ∷ cs) (suc k) = digit_of_byte cs k

-- A part of digits is digits.
pub part_is_digits : (text : List ℕ) (a n : ℕ) → AllDigitBytes text → AllDigitBytes (take n (drop a text))
part_is_digits text a n h k b =
    let l : length (take n (drop a text)) ≡ min n (length (drop a text)) = length-take n (drop a text) in
    let m : length (drop a text) ≡ length text - a = length-drop a text in
    let e : get_or (take n (drop a text)) k 0 ≡ get_or text (a + k) 0
    = get_or-take n (drop a text) k 0 (omega arith) ∙ get_or-drop a text k 0 in
    subst IsDigitByte (sym e) (h (a + k) (omega arith))

-- Before the point stand the digits of the first text.
pub whole_digit : (whole fraction : List ℕ) (k : ℕ) → k < length whole
    → get_or (written_digits whole fraction) k 0 ≡ get_or whole k 0 - 48
whole_digit [] fraction k h = absurd (omega arith)
whole_digit (c ∷ cs) fraction k h =
    get_or-append (digits_in (c ∷ cs)) (digits_in fraction) 0 k (omega (arith, length-digits_in (c ∷ cs)))
    ∙ digit_of_byte (c ∷ cs) k

-- Behind it stand the second one's digits.
pub fraction_digit : (whole fraction : List ℕ) (k : ℕ) → max (length whole) 1 ≤ k
    → get_or (written_digits whole fraction) k 0 ≡ get_or fraction (k - max (length whole) 1) 0 - 48
fraction_digit whole fraction k h =
    get_or-append_right (or_zero (digits_in whole)) (digits_in fraction) (max (length whole) 1) k 0 (length-whole_digits whole) h
    ∙ digit_of_byte fraction (k - max (length whole) 1)

-- The one place between them, of no integer digits, has the digit 0.
no_digit : (whole fraction : List ℕ) (k : ℕ) → length whole ≤ k → k < max (length whole) 1
    → get_or (written_digits whole fraction) k 0 ≡ 0
no_digit [] fraction zero h b = refl
no_digit [] fraction (suc k) h b = absurd (omega arith)
no_digit (c ∷ cs) fraction k h b = absurd (omega arith)

-- A digit is 0 if the byte that it stands for, if there is one, is the digit 0 of ASCII.
pub zero_digit : (whole fraction : List ℕ) (k : ℕ) → (k < length whole → get_or whole k 0 ≡ 48)
    → (max (length whole) 1 ≤ k → get_or fraction (k - max (length whole) 1) 0 ≡ 48)
    → get_or (written_digits whole fraction) k 0 ≡ 0
zero_digit whole fraction k before behind =
    elim (cases_lt k (length whole)) [
      | inl inside ↦ whole_digit whole fraction k inside ∙ ap (λ c. c - 48) (before inside)
      | inr past ↦ elim (cases_lt k (max (length whole) 1)) [
        | inl none ↦ no_digit whole fraction k past none
        | inr right ↦ fraction_digit whole fraction k right ∙ ap (λ c. c - 48) (behind right)
      ]
    ]

-- An integer digit isn't 0 if its byte is another digit of ASCII than 0.
pub other_whole_digit : (whole fraction : List ℕ) (k j : ℕ) → AllDigitBytes whole → j < length whole
    → k ≡ j → get_or whole j 0 ≢ 48 → get_or (written_digits whole fraction) k 0 ≢ 0
other_whole_digit whole fraction k j digits inside at other e =
    let low : 48 ≤ get_or whole j 0 = (digits j inside).0 in
    let none : get_or whole j 0 - 48 ≡ 0
    = sym (whole_digit whole fraction j inside) ∙ ap (λ i. get_or (written_digits whole fraction) i 0) (sym at) ∙ e in
    other (omega arith)

-- So it is with a fraction digit.
pub other_fraction_digit : (whole fraction : List ℕ) (k j : ℕ) → AllDigitBytes fraction → j < length fraction
    → k ≡ max (length whole) 1 + j → get_or fraction j 0 ≢ 48 → get_or (written_digits whole fraction) k 0 ≢ 0
other_fraction_digit whole fraction k j digits inside at other e =
    let same : k - max (length whole) 1 ≡ j = omega arith in
    let low : 48 ≤ get_or fraction j 0 = (digits j inside).0 in
    let none : get_or fraction j 0 - 48 ≡ 0
    = ap (λ i. get_or fraction i 0 - 48) (sym same) ∙ sym (fraction_digit whole fraction k (omega arith)) ∙ e in
    other (omega arith)

-- ---- what stands between two indices, on each side of the point

-- The bytes on one side give their digits.
digit_of_part : (text : List ℕ) (a n k : ℕ) → k < n → get_or (digits_in (take n (drop a text))) k 0 ≡ get_or text (a + k) 0 - 48
digit_of_part text a n k h =
    digit_of_byte (take n (drop a text)) k
    ∙ ap (λ c. c - 48) (get_or-take n (drop a text) k 0 h ∙ get_or-drop a text k 0)

-- They are as many as were asked for.
length-part : (text : List ℕ) (a n : ℕ) → a + n ≤ length text → length (digits_in (take n (drop a text))) ≡ n
length-part text a n h =
    length-digits_in (take n (drop a text))
    ∙ length-take-le n (drop a text) (omega (arith, length-drop a text))

module _ (whole fraction : List ℕ) (from end p q m i places : ℕ) (order : from ≤ end)
    (all : places ≡ max (length whole) 1) (inside : end ≤ places + length fraction) (first : (from < length whole)
    ⊎ (places ≤ from)) (m_is : m ≡ min from (length whole)) (p_is : p ≡ min end (length whole) - m)
    (i_is : i ≡ from - places) (q_is : q ≡ end - places - i) where
  -- The part before the point is as long as was asked for.
  length-front : length (digits_in (take p (drop m whole))) ≡ p
  length-front = length-part whole m p (omega arith)

  -- And the part after it.
  length-back : length (digits_in (take q (drop i fraction))) ≡ q
  length-back = elim first [
    | inl before ↦ length-part fraction i q (omega arith)
    | inr behind ↦ length-part fraction i q (omega arith)
  ]

  -- Each digit between the indices is one of the two parts, in order.
  digit : (k : ℕ) → k < end - from
      → get_or (written_digits whole fraction) (from + k) 0
      ≡ get_or (digits_in (take p (drop m whole)) ++ digits_in (take q (drop i fraction))) k 0
  digit k h =
      elim (cases_lt k p) [
        | inl before ↦
            let same : m + k ≡ from + k = omega arith in
            whole_digit whole fraction (from + k) (omega arith)
            ∙ ap (λ j. get_or whole j 0 - 48) (sym same)
            ∙ sym (digit_of_part whole m p k before)
            ∙ sym (get_or-append (digits_in (take p (drop m whole))) (digits_in (take q (drop i fraction))) 0 k
            (omega (arith, length-front)))
        | inr past ↦
            elim first [
              | inl f ↦ behind k h past (omega arith) (omega arith) (omega arith)
              | inr g ↦ behind k h past (omega arith) (omega arith) (omega arith)
            ]
      ]
    where
      behind : (k : ℕ) → k < end - from → p ≤ k → places ≤ from + k → from + k - places ≡ i + (k - p) → k - p < q
          → get_or (written_digits whole fraction) (from + k) 0
          ≡ get_or (digits_in (take p (drop m whole)) ++ digits_in (take q (drop i fraction))) k 0
      behind k h past right same short =
          fraction_digit whole fraction (from + k) (omega arith)
          ∙ ap (λ n. get_or fraction (from + k - n) 0 - 48) (sym all)
          ∙ ap (λ j. get_or fraction j 0 - 48) same
          ∙ sym (digit_of_part fraction i q (k - p) short)
          ∙ sym (get_or-append_right (digits_in (take p (drop m whole))) (digits_in (take q (drop i fraction))) p k 0 length-front past)

  -- The digits between two indices come from the two parts.
  pub between_parts : drop from (take end (written_digits whole fraction))
      ≡ digits_in (take p (drop m whole)) ++ digits_in (take q (drop i fraction))
  between_parts =
      let w : length (written_digits whole fraction) ≡ max (length whole) 1 + length fraction = length-written whole fraction in
      let l : length (drop from (take end (written_digits whole fraction))) ≡ end - from
      = length-drop from (take end (written_digits whole fraction))
      ∙ ap (λ n. n - from) (length-take-le end (written_digits whole fraction) (omega arith)) in
      let r : length (digits_in (take p (drop m whole)) ++ digits_in (take q (drop i fraction))) ≡ p + q
      = length-append (digits_in (take p (drop m whole))) (digits_in (take q (drop i fraction)))
      ∙ omega (arith, length-front, length-back) in
      let sum : p + q ≡ end - from = elim first [ inl f ↦ omega arith | inr g ↦ omega arith ] in
      ext_get_or 0 _ _ (l ∙ sym sum ∙ sym r)
      (λ k h.
      let short : k < end - from = omega (arith, l) in
      get_or-drop from (take end (written_digits whole fraction)) k 0
      ∙ get_or-take end (written_digits whole fraction) (from + k) 0 (omega arith)
      ∙ digit k short)

-- Where no integer digit is written, the zero in its place is before the index.
pub on_a_side : (whole from places : ℕ) → places ≡ max whole 1 → (whole ≡ 0 → 0 < from) → (from < whole) ⊎ (places ≤ from)
on_a_side zero from places e h = let some : 0 < from = h refl in inr (omega arith)
on_a_side (suc whole) from places e h = elim (cases_lt from (suc whole)) [ inl before ↦ inl before | inr past ↦ inr (omega arith) ]

-- Two parts that are appended to nothing, one after the other.
pub two_parts : (none first both front back : List ℕ) → none ≡ [] → first ≡ none ++ front → both ≡ first ++ back
    → both ≡ front ++ back
two_parts none first both front back e f g = g ∙ ap (λ ds. ds ++ back) (f ∙ ap (λ ds. ds ++ front) e)
