-- What the stored span says of the written digits.
use Rattle.std.proofs.Common.{◌≡◌, ℕ, zero, suc, ◌+◌, ◌-◌, ◌<◌, ◌≤◌, ◌⊎◌, inl, inr, List, [], ◌∷◌, ◌++◌, refl, sym, ◌∙◌, ap, subst}
use Rattle.std.proofs.Common.{length, take, drop, arith, get_or, replicate, reverse, length-append, length-drop, append_assoc, pos}
use Rattle.std.proofs.Common.{negsuc, ℤ, int_lt, nat_abs, true, false}
use Rattle.std.proofs.lemmas.Int.{ints}
use Rattle.std.proofs.lemmas.Bool.{cases_lt}
use Rattle.std.proofs.lemmas.List.{length-replicate, length-take-le, get_or-take, get_or-drop, get_or-replicate, get_or-append_right}
use Rattle.std.proofs.lemmas.List.{get_or-reverse, length-reverse, get_or-append-add, take-append-drop, replicate-append-replicate}
use Rattle.std.proofs.lemmas.List.{take_all, drop-drop, take-take}
use Rattle.std.proofs.Math.Seq.{take-suc, drop-cons}
use Rattle.std.proofs.Math.ListN.{drop_of_length-le, get_or-eq_default, get_or-append}
use Rattle.fixed_decimal.specs.Digits.{AreDigits}
use Rattle.fixed_decimal.specs.Places.{Places, IsWritten, IsWithinLimit, IsOverLimit, one_right, one_left, or_zero, shift_right}
use Rattle.fixed_decimal.specs.Places.{shift_left, shift, digit_at}
use Rattle.fixed_decimal.specs.Inner.UnsignedInside.{digits_of, places_of, IsSpan}
use Rattle.fixed_decimal.specs.declared.unsigned.UnsignedDecimal.TheInside.{Inside}

-- Zeros are digits.
zeros_are_digits : (n : ℕ) → AreDigits (replicate n 0)
zeros_are_digits zero = tt
zeros_are_digits (suc n) = (omega arith, zeros_are_digits n)

-- Digits before digits are digits.
pub AreDigits-append : (xs ys : List ℕ) → AreDigits xs → AreDigits ys → AreDigits (xs ++ ys)
AreDigits-append [] ys h k = k
AreDigits-append (x ∷ xs) ys h k = (h.0, AreDigits-append xs ys h.1 k)

-- Digits stay digits where the first of them are left out.
pub AreDigits-drop : (n : ℕ) (ds : List ℕ) → AreDigits ds → AreDigits (drop n ds)
AreDigits-drop zero ds h = h
AreDigits-drop (suc n) [] h = h
AreDigits-drop (suc n) (d ∷ ds) h = AreDigits-drop n ds h.1

-- So they do where the last are.
pub AreDigits-take : (n : ℕ) (ds : List ℕ) → AreDigits ds → AreDigits (take n ds)
AreDigits-take zero ds h = tt
AreDigits-take (suc n) [] h = tt
AreDigits-take (suc n) (d ∷ ds) h = (h.0, AreDigits-take n ds h.1)

-- zeros, the span, zeros
abbrev pub padded : ℕ → List ℕ → ℕ → List ℕ
padded n s m = replicate n 0 ++ s ++ replicate m 0

-- Zeros before and after digits count.
pub length-padded : (n : ℕ) (s : List ℕ) (m : ℕ) → length (padded n s m) ≡ n + length s + m
length-padded n s m =
    length-append (replicate n 0 ++ s) (replicate m 0)
    ∙ omega (arith, length-append (replicate n 0) s, length-replicate {A = ℕ} n 0, length-replicate {A = ℕ} m 0)

-- With zeros around them digits are digits.
pub AreDigits-padded : (n : ℕ) (s : List ℕ) (m : ℕ) → AreDigits s → AreDigits (padded n s m)
AreDigits-padded n s m h
    = AreDigits-append (replicate n 0 ++ s) (replicate m 0)
    (AreDigits-append (replicate n 0) s (zeros_are_digits n) h) (zeros_are_digits m)

-- As many digits are written as there are places.
pub length-digits_of : (a : Inside) → IsSpan a → length (digits_of a) ≡ a.whole_places + a.fraction_places
length-digits_of a h =
    let i : a.leading_zeros + length a.span.items ≤ a.whole_places + a.fraction_places = h.inside in
    length-padded a.leading_zeros a.span.items _ ∙ omega arith

-- There is an integer digit for each integer place.
pub length-whole : (a : Inside) → IsSpan a → length (places_of a).whole ≡ a.whole_places
length-whole a h = length-take-le a.whole_places (digits_of a) (omega (arith, length-digits_of a h))

-- There is a fraction digit for each fraction place.
pub length-fraction : (a : Inside) → IsSpan a → length (places_of a).fraction ≡ a.fraction_places
length-fraction a h = length-drop a.whole_places (digits_of a) ∙ omega (arith, length-digits_of a h)

-- What is stored so is a written number.
pub written : (a : Inside) → IsSpan a → IsWritten (places_of a)
written a h =
    let d : AreDigits (digits_of a) = AreDigits-padded a.leading_zeros a.span.items _ h.digits in
    let n : 0 < a.whole_places = h.whole_nonempty in
    record {
      nonempty = omega (arith, length-whole a h);
      whole = AreDigits-take a.whole_places (digits_of a) d;
      fraction = AreDigits-drop a.whole_places (digits_of a) d;
    }

-- It is within the limit.
pub within : (a : Inside) → IsSpan a → IsWithinLimit (places_of a)
within a h =
    let w : a.whole_places ≤ 32767 = h.whole_within in
    let f : a.fraction_places ≤ 32767 = h.fraction_within in
    record { whole = omega (arith, length-whole a h); fraction = omega (arith, length-fraction a h) }

-- ---- the digits cut at the point, by the counts of integer and fraction places

-- How many zeros follow the span.
abbrev pub rest_zeros : ℕ → ℕ → ℕ → List ℕ → ℕ
rest_zeros w f n s = w + f - (n + length s)

-- Digits that are cut at the point.
abbrev pub cut_at : ℕ → List ℕ → Places
cut_at w ds = record { whole = take w ds; fraction = drop w ds }

-- The places of a span with zeros before it.
abbrev pub spread : ℕ → ℕ → ℕ → List ℕ → Places
spread w f n s = cut_at w (padded n s (rest_zeros w f n s))

-- They are as many as there is room for.
pub length-spread : (w f n : ℕ) (s : List ℕ) → n + length s ≤ w + f → length (padded n s (rest_zeros w f n s)) ≡ w + f
length-spread w f n s h = length-padded n s _ ∙ omega arith

-- one zero more
padded-suc : (n : ℕ) (s : List ℕ) (m : ℕ) → padded n s (suc m) ≡ padded n s m ++ 0 ∷ []
padded-suc n s m =
    let k : m + 1 ≡ suc m = omega arith in
    let e : replicate m 0 ++ 0 ∷ [] ≡ replicate (suc m) 0 = replicate-append-replicate m 1 0 ∙ ap (λ k. replicate k 0) k in
    ap (λ t. (replicate n 0 ++ s) ++ t) (sym e) ∙ sym (append_assoc (replicate n 0 ++ s) (replicate m 0) (0 ∷ []))

-- Two numbers with the same digits on each side are the same.
pub same_places : (a b c d : List ℕ) → a ≡ b → c ≡ d
    → (let x : Places = record { whole = a; fraction = c } in let y : Places = record { whole = b; fraction = d } in x ≡ y)
same_places a b c d e f = rw (e, f) refl

-- One place to the right, where there is a fraction digit to take.
one_right-inside : (w : ℕ) (ds : List ℕ) → w < length ds → one_right (cut_at w ds) ≡ cut_at (suc w) ds
one_right-inside w ds h =
    let z : w + 0 ≡ w = omega arith in
    let k : w + 1 ≡ suc w = omega arith in
    same_places _ _ _ _
    (ap (λ d. take w ds ++ d ∷ []) (get_or-drop w ds 0 0 ∙ ap (λ k. get_or ds k 0) z) ∙ sym (take-suc ds w 0 h))
    (drop-drop 1 w ds ∙ ap (λ k. drop k ds) k)

-- One place to the right after the last digit adds a 0.
one_right-end : (w : ℕ) (ds : List ℕ) → length ds ≡ w → one_right (cut_at w ds) ≡ cut_at (suc w) (ds ++ 0 ∷ [])
one_right-end w ds h =
    let none : drop w ds ≡ [] = drop_of_length-le ds (omega arith) in
    let all : take w ds ≡ ds = take_all w ds (omega arith) in
    let long : length (ds ++ 0 ∷ []) ≡ suc w = length-append ds (0 ∷ []) ∙ omega arith in
    let all_new : take (suc w) (ds ++ 0 ∷ []) ≡ ds ++ 0 ∷ [] = take_all (suc w) (ds ++ 0 ∷ []) (omega arith) in
    let short : length (ds ++ 0 ∷ []) ≤ suc w = omega arith in
    let none_new : drop (suc w) (ds ++ 0 ∷ []) ≡ [] = drop_of_length-le (ds ++ 0 ∷ []) short in
    same_places _ _ _ _
    (rw (none, all) (sym all_new))
    (ap (λ l. drop 1 l) none ∙ sym none_new)

-- The digit 0 takes the place of no digits alone.
or_zero_of_some : (ds : List ℕ) → 0 < length ds → or_zero ds ≡ ds
or_zero_of_some [] h = absurd (omega arith)
or_zero_of_some (d ∷ ds) h = refl

-- One place to the left, where another integer digit is left.
one_left-inside : (w : ℕ) (ds : List ℕ) → suc w ≤ length ds → 0 < w → one_left (cut_at (suc w) ds) ≡ cut_at w ds
one_left-inside w ds h k =
    let n : length (take (suc w) ds) ≡ suc w = length-take-le (suc w) ds h in
    let m : length (take (suc w) ds) - 1 ≡ w = omega arith in
    let shorter : take w (take (suc w) ds) ≡ take w ds = take-take w (suc w) ds (omega arith) in
    let some : length (take w ds) ≡ w = length-take-le w ds (omega arith) in
    same_places _ _ _ _
    (ap (λ j. or_zero (take j (take (suc w) ds))) m ∙ ap or_zero shorter ∙ or_zero_of_some (take w ds) (omega arith))
    (ap (λ j. get_or (take (suc w) ds) j 0 ∷ drop (suc w) ds) m
    ∙ ap (λ d. d ∷ drop (suc w) ds) (get_or-take (suc w) ds w 0 (omega arith)) ∙ sym (drop-cons ds w 0 (omega arith)))

-- One place to the left of the only integer digit puts a 0 in its place.
one_left-front : (ds : List ℕ) → 0 < length ds → one_left (cut_at 1 ds) ≡ cut_at 1 (0 ∷ ds)
one_left-front [] h = absurd (omega arith)
one_left-front (d ∷ ds) h = refl

-- ---- whole shifts

-- A span keeps its digits and the zeros before it when the point goes one place to the right.
right_spread : (w f n : ℕ) (s : List ℕ) → n + length s ≤ w + f → one_right (spread w f n s) ≡ spread (suc w) (f - 1) n s
right_spread w zero n s h =
    let e : rest_zeros (suc w) (0 - 1) n s ≡ suc (rest_zeros w 0 n s) = omega arith in
    one_right-end w _ (length-spread w 0 n s h ∙ omega arith)
    ∙ ap (λ ds. cut_at (suc w) ds) (sym (padded-suc n s (rest_zeros w 0 n s)) ∙ ap (λ m. padded n s m) (sym e))
right_spread w (suc f) n s h =
    let e : rest_zeros w (suc f) n s ≡ rest_zeros (suc w) (suc f - 1) n s = omega arith in
    one_right-inside w _ (omega (arith, length-spread w (suc f) n s h))
    ∙ ap (λ m. cut_at (suc w) (padded n s m)) e

-- So it does at each shift to the right.
pub shift_right-spread : (d w f n : ℕ) (s : List ℕ) → n + length s ≤ w + f → shift_right d (spread w f n s) ≡ spread (w + d) (f - d) n s
shift_right-spread zero w f n s h =
    let e : w ≡ w + 0 = omega arith in
    let g : f ≡ f - 0 = omega arith in
    ap (λ k. spread k f n s) e ∙ ap (λ k. spread (w + 0) k n s) g
shift_right-spread (suc d) w f n s h =
    let e : suc (w + d) ≡ w + suc d = omega arith in
    let g : f - d - 1 ≡ f - suc d = omega arith in
    ap one_right (shift_right-spread d w f n s h)
    ∙ right_spread (w + d) (f - d) n s (omega arith)
    ∙ ap (λ k. spread k (f - d - 1) n s) e ∙ ap (λ k. spread (w + suc d) k n s) g

-- how many places a shift to the right leaves on each side
pub shifted_whole : (a : Inside) (d : ℕ) → IsSpan a → length (shift_right d (places_of a)).whole ≡ a.whole_places + d
shifted_whole a d h =
    let inside : a.leading_zeros + length a.span.items ≤ a.whole_places + a.fraction_places = h.inside in
    let l : length (padded a.leading_zeros a.span.items
    (rest_zeros (a.whole_places + d) (a.fraction_places - d) a.leading_zeros a.span.items)) ≡ a.whole_places + d + (a.fraction_places - d)
    = length-spread (a.whole_places + d) (a.fraction_places - d) a.leading_zeros a.span.items (omega arith) in
    ap (λ (x : Places). length x.whole) (shift_right-spread d a.whole_places a.fraction_places a.leading_zeros a.span.items inside)
    ∙ length-take-le (a.whole_places + d) _ (omega arith)

-- It takes them from the fraction.
pub shifted_fraction : (a : Inside) (d : ℕ) → IsSpan a → length (shift_right d (places_of a)).fraction ≡ a.fraction_places - d
shifted_fraction a d h =
    let inside : a.leading_zeros + length a.span.items ≤ a.whole_places + a.fraction_places = h.inside in
    let l : length (padded a.leading_zeros a.span.items
    (rest_zeros (a.whole_places + d) (a.fraction_places - d) a.leading_zeros a.span.items)) ≡ a.whole_places + d + (a.fraction_places - d)
    = length-spread (a.whole_places + d) (a.fraction_places - d) a.leading_zeros a.span.items (omega arith) in
    ap (λ (x : Places). length x.fraction) (shift_right-spread d a.whole_places a.fraction_places a.leading_zeros a.span.items inside)
    ∙ length-drop (a.whole_places + d)
    (padded a.leading_zeros a.span.items (rest_zeros (a.whole_places + d) (a.fraction_places - d) a.leading_zeros a.span.items))
    ∙ omega arith

-- It does when the point goes to the left within the integer digits.
left_spread-inside : (w f n : ℕ) (s : List ℕ) → 0 < w → n + length s ≤ suc w + f → one_left (spread (suc w) f n s) ≡ spread w (suc f) n s
left_spread-inside w f n s k h =
    let e : rest_zeros (suc w) f n s ≡ rest_zeros w (suc f) n s = omega arith in
    one_left-inside w _ (omega (arith, length-spread (suc w) f n s h)) k
    ∙ ap (λ m. cut_at w (padded n s m)) e

-- At the first integer digit one zero more stands before it.
left_spread-front : (f n : ℕ) (s : List ℕ) → n + length s ≤ 1 + f → one_left (spread 1 f n s) ≡ spread 1 (suc f) (suc n) s
left_spread-front f n s h =
    let e : rest_zeros 1 f n s ≡ rest_zeros 1 (suc f) (suc n) s = omega arith in
    one_left-front _ (omega (arith, length-spread 1 f n s h))
    ∙ ap (λ m. cut_at 1 (padded (suc n) s m)) e

-- A shift to the left within the integer digits.
pub shift_left-inside : (d w f n : ℕ) (s : List ℕ) → d < w → n + length s ≤ w + f
    → shift_left d (spread w f n s) ≡ spread (w - d) (f + d) n s
shift_left-inside zero w f n s k h =
    let e : w ≡ w - 0 = omega arith in
    let g : f ≡ f + 0 = omega arith in
    ap (λ k. spread k f n s) e ∙ ap (λ k. spread (w - 0) k n s) g
shift_left-inside (suc d) w f n s k h =
    let e : w - d ≡ suc (w - suc d) = omega arith in
    let g : suc (f + d) ≡ f + suc d = omega arith in
    ap one_left (shift_left-inside d w f n s (omega arith) h ∙ ap (λ k. spread k (f + d) n s) e)
    ∙ left_spread-inside (w - suc d) (f + d) n s (omega arith) (omega arith)
    ∙ ap (λ k. spread (w - suc d) k n s) g

-- past the last integer place zeros come in front
pub shift_left-past : (j w f n : ℕ) (s : List ℕ) → 0 < w → n + length s ≤ w + f
    → shift_left (w - 1 + j) (spread w f n s) ≡ spread 1 (f + (w - 1 + j)) (n + j) s
shift_left-past zero w f n s k h =
    let e : w - 1 + 0 ≡ w - 1 = omega arith in
    let g : w - (w - 1) ≡ 1 = omega arith in
    let z : n ≡ n + 0 = omega arith in
    ap (λ d. shift_left d (spread w f n s)) e ∙ shift_left-inside (w - 1) w f n s (omega arith) h
    ∙ ap (λ k. spread k (f + (w - 1)) n s) g ∙ ap (λ k. spread 1 (f + k) n s) (sym e) ∙ ap (λ k. spread 1 (f + (w - 1 + 0)) k s) z
shift_left-past (suc j) w f n s k h =
    let e : w - 1 + suc j ≡ suc (w - 1 + j) = omega arith in
    let g : suc (f + (w - 1 + j)) ≡ f + (w - 1 + suc j) = omega arith in
    let z : suc (n + j) ≡ n + suc j = omega arith in
    ap (λ d. shift_left d (spread w f n s)) e
    ∙ ap one_left (shift_left-past j w f n s k h)
    ∙ left_spread-front (f + (w - 1 + j)) (n + j) s (omega arith)
    ∙ ap (λ k. spread 1 k (suc (n + j)) s) g ∙ ap (λ k. spread 1 (f + (w - 1 + suc j)) k s) z

-- ---- single digits

-- Before the span each digit is 0.
pub padded-before : (n : ℕ) (s : List ℕ) (m i : ℕ) → i < n → get_or (padded n s m) i 0 ≡ 0
padded-before n s m i h =
    let l : length (replicate {A = ℕ} n 0) ≡ n = length-replicate {A = ℕ} n 0 in
    let k : length (replicate {A = ℕ} n 0 ++ s) ≡ n + length s = length-append (replicate {A = ℕ} n 0) s ∙ omega arith in
    get_or-append (replicate n 0 ++ s) (replicate m 0) 0 i (omega arith)
    ∙ get_or-append (replicate n 0) s 0 i (omega arith)
    ∙ get_or-replicate n i 0 0 h

-- A digit among zeros is 0.
zeros_at : (m i : ℕ) → get_or (replicate {A = ℕ} m 0) i 0 ≡ 0
zeros_at zero i = refl
zeros_at (suc m) zero = refl
zeros_at (suc m) (suc i) = zeros_at m i

-- From the span on the digits are its own, and 0 past its end.
pub padded-after : (n : ℕ) (s : List ℕ) (m j : ℕ) → get_or (padded n s m) (n + j) 0 ≡ get_or s j 0
padded-after n s m j =
    let l : length (replicate {A = ℕ} n 0) ≡ n = length-replicate {A = ℕ} n 0 in
    let k : length (replicate {A = ℕ} n 0 ++ s) ≡ n + length s = length-append (replicate {A = ℕ} n 0) s ∙ omega arith in
    elim (cases_lt j (length s)) [
      | inl inside ↦
          get_or-append (replicate n 0 ++ s) (replicate m 0) 0 (n + j) (omega arith)
          ∙ get_or-append_right (replicate n 0) s n (n + j) 0 l (omega arith)
          ∙ back n j s
      | inr past ↦
          get_or-append_right (replicate n 0 ++ s) (replicate m 0) (n + length s) (n + j) 0 k (omega arith)
          ∙ zeros_at m (n + j - (n + length s))
          ∙ sym (get_or-eq_default s 0 past)
    ]
  where
    back : (n j : ℕ) (s : List ℕ) → get_or s (n + j - n) 0 ≡ get_or s j 0
    back n j s = let e : n + j - n ≡ j = omega arith in ap (λ k. get_or s k 0) e

-- the digit at an index among all written ones
pub digit_before : (a : Inside) (i : ℕ) → i < a.leading_zeros → get_or (digits_of a) i 0 ≡ 0
digit_before a i h = padded-before a.leading_zeros a.span.items _ i h

-- From the span on it is that of the span.
pub digit_after : (a : Inside) (i : ℕ) → a.leading_zeros ≤ i → get_or (digits_of a) i 0 ≡ get_or a.span.items (i - a.leading_zeros) 0
digit_after a i h =
    let e : i ≡ a.leading_zeros + (i - a.leading_zeros) = omega arith in
    ap (λ k. get_or (digits_of a) k 0) e ∙ padded-after a.leading_zeros a.span.items _ (i - a.leading_zeros)

-- ... among the places
pub digit_at_index : (a : Inside) (i : ℕ) → get_or (digits_of a) i 0 ≡ get_or ((places_of a).whole ++ (places_of a).fraction) i 0
digit_at_index a i = ap (λ ds. get_or ds i 0) (sym (take-append-drop a.whole_places (digits_of a)))

-- The digit at a negative power of ten, by its index among all written digits.
pub negative_place : (x : Places) (z : ℤ) → int_lt z (pos 0) ≡ true
    → get_or (x.whole ++ x.fraction) (length x.whole + nat_abs z - 1) 0 ≡ digit_at x z
negative_place x (pos n) h = absurd (omega (arith, ints, h))
negative_place x (negsuc n) h =
    let e : length x.whole + suc n - 1 ≡ length x.whole + n = omega arith in
    ap (λ k. get_or (x.whole ++ x.fraction) k 0) e ∙ get_or-append-add x.whole x.fraction n 0

-- That of an integer place.
pub whole_place : (x : Places) (z : ℤ) → int_lt z (pos 0) ≡ false → nat_abs z < length x.whole
    → get_or (x.whole ++ x.fraction) (length x.whole - 1 - nat_abs z) 0 ≡ digit_at x z
whole_place x (pos n) h k = get_or-append x.whole x.fraction 0 (length x.whole - 1 - n) (omega arith) ∙ sym (get_or-reverse x.whole n 0 k)
whole_place x (negsuc n) h k = absurd (omega (arith, ints, h))

-- Above the first integer digit each digit is 0.
pub past_place : (x : Places) (z : ℤ) → int_lt z (pos 0) ≡ false → length x.whole ≤ nat_abs z → 0 ≡ digit_at x z
past_place x (pos n) h k =
    let r : length (reverse x.whole) ≤ n = omega (arith, length-reverse x.whole) in
    sym (get_or-eq_default (reverse x.whole) 0 r)
past_place x (negsuc n) h k = absurd (omega (arith, ints, h))

-- ---- the limit

-- More places than the limit on a side are over it.
over_from : (w f n : ℕ) (s : List ℕ) → n + length s ≤ w + f → (32767 < w) ⊎ (32767 < f) → IsOverLimit (spread w f n s)
over_from w f n s h (inl k) =
    let l : length (take w (padded n s (rest_zeros w f n s))) ≡ w
    = length-take-le w _ (omega (arith, length-spread w f n s h)) in inl (omega arith)
over_from w f n s h (inr k) =
    let l : length (drop w (padded n s (rest_zeros w f n s))) ≡ f = length-drop w _
    ∙ omega (arith, length-spread w f n s h) in inr (omega arith)

-- No more than the limit on both sides isn't.
not_over : (w f n : ℕ) (s : List ℕ) → n + length s ≤ w + f → w ≤ 32767 → f ≤ 32767 → IsOverLimit (spread w f n s) → ⊥
not_over w f n s h i j (inl k) =
    let l : length (take w (padded n s (rest_zeros w f n s))) ≡ w
    = length-take-le w _ (omega (arith, length-spread w f n s h)) in omega arith
not_over w f n s h i j (inr k) =
    let l : length (drop w (padded n s (rest_zeros w f n s))) ≡ f = length-drop w _
    ∙ omega (arith, length-spread w f n s h) in omega arith

-- ---- the span after a shift

-- What is stored of the number when the point goes to the right.
abbrev pub moved_right : Inside → ℕ → Inside
moved_right a d = record a { whole_places = a.whole_places + d; fraction_places = a.fraction_places - d }

-- When it goes to the left, and an integer digit is left.
abbrev pub moved_left : Inside → ℕ → Inside
moved_left a d = record a { whole_places = a.whole_places - d; fraction_places = a.fraction_places + d }

-- When it goes past the first integer digit.
abbrev pub moved_past : Inside → ℕ → Inside
moved_past a d = record a {
  whole_places = 1;
  fraction_places = a.fraction_places + d;
  leading_zeros = a.leading_zeros + (d - a.whole_places + 1);
}

-- The point at its new place cuts the digits as the shift to the right says.
pub right_view : (a : Inside) (d : ℕ) → IsSpan a → places_of (moved_right a d) ≡ shift_right d (places_of a)
right_view a d h = sym (shift_right-spread d a.whole_places a.fraction_places a.leading_zeros a.span.items h.inside)

-- So it does after a shift to the left within the integer digits.
pub left_view : (a : Inside) (d : ℕ) → IsSpan a → d < a.whole_places → places_of (moved_left a d) ≡ shift_left d (places_of a)
left_view a d h k = sym (shift_left-inside d a.whole_places a.fraction_places a.leading_zeros a.span.items k h.inside)

-- And past them.
pub past_view : (a : Inside) (d : ℕ) → IsSpan a → a.whole_places ≤ d → places_of (moved_past a d) ≡ shift_left d (places_of a)
past_view a d h k =
    let w : 0 < a.whole_places = h.whole_nonempty in
    let j : a.whole_places - 1 + (d - a.whole_places + 1) ≡ d = omega arith in
    let P : ℕ → Type 0 = λ e. spread 1 (a.fraction_places + e)
    (a.leading_zeros + (d - a.whole_places + 1)) a.span.items ≡ shift_left e (places_of a) in
    subst P j (sym (shift_left-past (d - a.whole_places + 1) a.whole_places a.fraction_places a.leading_zeros a.span.items w h.inside))

-- A shift to the right that leaves too many integer places is over the limit.
pub right_over : (a : Inside) (d : ℕ) → IsSpan a → 32767 - a.whole_places < d → IsOverLimit (shift_right d (places_of a))
right_over a d h k =
    let i : a.leading_zeros + length a.span.items ≤ a.whole_places + a.fraction_places = h.inside in
    let w : a.whole_places ≤ 32767 = h.whole_within in
    subst IsOverLimit (right_view a d h)
    (over_from (a.whole_places + d) (a.fraction_places - d) a.leading_zeros a.span.items (omega arith) (inl (omega arith)))

-- Any other is within it.
pub right_within : (a : Inside) (d : ℕ) → IsSpan a → d ≤ 32767 - a.whole_places → IsOverLimit (shift_right d (places_of a)) → ⊥
right_within a d h k o =
    let i : a.leading_zeros + length a.span.items ≤ a.whole_places + a.fraction_places = h.inside in
    let w : a.whole_places ≤ 32767 = h.whole_within in
    let f : a.fraction_places ≤ 32767 = h.fraction_within in
    not_over (a.whole_places + d) (a.fraction_places - d) a.leading_zeros a.span.items (omega arith) (omega arith)
    (omega arith) (subst IsOverLimit (sym (right_view a d h)) o)

-- A shift to the left that leaves too many fraction places is over the limit.
pub left_over : (a : Inside) (d : ℕ) → IsSpan a → 32767 - a.fraction_places < d → IsOverLimit (shift_left d (places_of a))
left_over a d h k =
    let i : a.leading_zeros + length a.span.items ≤ a.whole_places + a.fraction_places = h.inside in
    let f : a.fraction_places ≤ 32767 = h.fraction_within in
    let w : 0 < a.whole_places = h.whole_nonempty in
    elim (cases_lt d a.whole_places) [
      | inl inside ↦ subst IsOverLimit (left_view a d h inside)
          (over_from (a.whole_places - d) (a.fraction_places + d) a.leading_zeros a.span.items (omega arith) (inr (omega arith)))
      | inr past ↦ subst IsOverLimit (past_view a d h past)
          (over_from 1 (a.fraction_places + d) (a.leading_zeros + (d - a.whole_places + 1)) a.span.items (omega arith)
          (inr (omega arith)))
    ]

-- Any other is within it.
pub left_within : (a : Inside) (d : ℕ) → IsSpan a → d ≤ 32767 - a.fraction_places → IsOverLimit (shift_left d (places_of a)) → ⊥
left_within a d h k o =
    let i : a.leading_zeros + length a.span.items ≤ a.whole_places + a.fraction_places = h.inside in
    let f : a.fraction_places ≤ 32767 = h.fraction_within in
    let g : a.whole_places ≤ 32767 = h.whole_within in
    let w : 0 < a.whole_places = h.whole_nonempty in
    elim (cases_lt d a.whole_places) [
      | inl inside ↦ not_over (a.whole_places - d) (a.fraction_places + d) a.leading_zeros a.span.items (omega arith)
          (omega arith) (omega arith) (subst IsOverLimit (sym (left_view a d h inside)) o)
      | inr past ↦ not_over 1 (a.fraction_places + d) (a.leading_zeros + (d - a.whole_places + 1)) a.span.items
          (omega arith) (omega arith) (omega arith) (subst IsOverLimit (sym (past_view a d h past)) o)
    ]

-- ---- the sign of a shift

-- A negative shift goes to the left by its absolute value.
pub shift-negative : (z : ℤ) (x : Places) → int_lt z (pos 0) ≡ true → shift z x ≡ shift_left (nat_abs z) x
shift-negative (pos n) x h = absurd (omega (arith, ints, h))
shift-negative (negsuc n) x h = refl

-- Any other goes to the right.
pub shift-nonnegative : (z : ℤ) (x : Places) → int_lt z (pos 0) ≡ false → shift z x ≡ shift_right (nat_abs z) x
shift-nonnegative (pos n) x h = refl
shift-nonnegative (negsuc n) x h = absurd (omega (arith, ints, h))
