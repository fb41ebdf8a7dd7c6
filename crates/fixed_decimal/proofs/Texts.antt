-- What an unsigned decimal's text says of its number: there is one, and its bytes are digits and a
-- point.
use Rattle.std.proofs.Common.{◌≡◌, ◌≢◌, ℕ, ◌+◌, ◌-◌, ◌<◌, ◌≤◌, inl, inr, List, [], ◌∷◌, ◌++◌, refl, sym, ◌∙◌, ap, subst, length, take}
use Rattle.std.proofs.Common.{drop, arith, get_or, length-append, append_assoc}
use Rattle.std.proofs.lemmas.Bool.{cases_lt}
use Rattle.std.proofs.lemmas.List.{take_at, drop_at, take_all, drop_all}
use Rattle.fixed_decimal.specs.Digits.{text_of}
use Rattle.fixed_decimal.specs.Places.{Places, or_zero}
use Rattle.fixed_decimal.specs.Written.{WritesUnsigned}
use Rattle.fixed_decimal.specs.Inner.TextParts.{IsDigitByte, HasPointAt, HasNoSign, digits_in, places_around}
use Rattle.fixed_decimal.proofs.Spans.{same_places}
use Rattle.fixed_decimal.proofs.Points.{length-text_of, has_point, one_point, no_point, at_point, or_zero-same}

-- ---- its bytes

-- the front is a digit or the point
pub no_sign : (t : List ℕ) (x : Places) → WritesUnsigned t x → HasNoSign t
no_sign t x h =
    let p : (n : ℕ) × HasPointAt t n = has_point t x h in
    elim (cases_lt 0 p.0) [
      | inl some ↦
          (let d : IsDigitByte (get_or t 0 0) = p.1.before 0 (omega arith) some in
          let l : 48 ≤ get_or t 0 0 = d.0 in
          record { not_positive = omega arith; not_negative = omega arith })
      | inr none ↦ elim (cases_lt p.0 (length t)) [
        | inl inside ↦
            (let z : p.0 ≡ 0 = omega arith in
            let e : get_or t 0 0 ≡ 46 = ap (λ k. get_or t k 0) (sym z) ∙ p.1.point inside in
            record { not_positive = omega arith; not_negative = omega arith })
        | inr end ↦ (let w : p.0 ≤ length t = p.1.within in let s : 0 < p.0 = p.1.whole (omega arith) in absurd (omega arith))
      ]
    ]

-- No byte of it is a `c`.
pub no_letter : (t : List ℕ) (x : Places) → WritesUnsigned t x → (k : ℕ) → k < length t → get_or t k 0 ≢ 99
no_letter t x h k inside letter =
    let p : (n : ℕ) × HasPointAt t n = has_point t x h in
    elim (cases_lt k p.0) [
      | inl before ↦ (let d : IsDigitByte (get_or t k 0)
          = p.1.before k (omega arith) before in let l : get_or t k 0 < 58 = d.1 in omega arith)
      | inr from ↦ elim (cases_lt p.0 k) [
        | inl after ↦ (let d : IsDigitByte (get_or t k 0)
            = p.1.after k (omega arith) inside in let l : get_or t k 0 < 58 = d.1 in omega arith)
        | inr here ↦
            (let e : p.0 ≡ k = omega arith in
            let d : get_or t k 0 ≡ 46 = ap (λ j. get_or t j 0) (sym e) ∙ p.1.point (omega arith) in
            omega arith)
      ]
    ]

-- ---- its number

-- Digits are read back from their text.
pub digits_in-text_of : (ds : List ℕ) → digits_in (text_of ds) ≡ ds
digits_in-text_of [] = refl
digits_in-text_of (d ∷ ds) = let e : 48 + d - 48 ≡ d = omega arith in ap (λ c. c ∷ digits_in (text_of ds)) e
    ∙ ap (λ cs. d ∷ cs) (digits_in-text_of ds)

-- a number with its point there
at_place : (t : List ℕ) (x : Places) (n : ℕ) → or_zero (digits_in (take n t)) ≡ x.whole
    → digits_in (drop (n + 1) t) ≡ x.fraction → x ≡ places_around t n
at_place t x n w f = same_places _ _ _ _ (sym w) (sym f)

-- A text without a point.
whole_alone : (t : List ℕ) (x : Places) → 0 < length x.whole → x.fraction ≡ [] → t ≡ text_of x.whole → x ≡ places_around t (length x.whole)
whole_alone t x some none e =
    let l : length t ≡ length x.whole = ap length e ∙ length-text_of x.whole in
    let all : take (length x.whole) t ≡ text_of x.whole = take_all (length x.whole) t (omega arith) ∙ e in
    let rest : drop (length x.whole + 1) t ≡ [] = drop_all (length x.whole + 1) t (omega arith) in
    at_place t x (length x.whole)
    (ap (λ s. or_zero (digits_in s)) all ∙ ap or_zero (digits_in-text_of x.whole) ∙ or_zero-same x.whole some)
    (ap digits_in rest ∙ sym none)

-- Digits on both sides of the point.
both_sides : (t : List ℕ) (x : Places) → 0 < length x.whole → t ≡ text_of x.whole ++ 46 ∷ text_of x.fraction
    → x ≡ places_around t (length x.whole)
both_sides t x some e =
    let l : length (text_of x.whole) ≡ length x.whole = length-text_of x.whole in
    let front : take (length x.whole) t ≡ text_of x.whole = ap (take (length x.whole)) e
    ∙ take_at (text_of x.whole) (46 ∷ text_of x.fraction) (length x.whole) l in
    let m : length (text_of x.whole ++ 46 ∷ []) ≡ length x.whole + 1 = length-append (text_of x.whole) (46 ∷ []) ∙ omega arith in
    let behind : drop (length x.whole + 1) t ≡ text_of x.fraction
    = ap (drop (length x.whole + 1)) (e ∙ sym (append_assoc (text_of x.whole) (46 ∷ []) (text_of x.fraction)))
    ∙ drop_at (text_of x.whole ++ 46 ∷ []) (text_of x.fraction) (length x.whole + 1) m in
    at_place t x (length x.whole)
    (ap (λ s. or_zero (digits_in s)) front ∙ ap or_zero (digits_in-text_of x.whole) ∙ or_zero-same x.whole some)
    (ap digits_in behind ∙ digits_in-text_of x.fraction)

-- A point at the front.
fraction_alone : (t : List ℕ) (x : Places) → x.whole ≡ 0 ∷ [] → t ≡ 46 ∷ text_of x.fraction → x ≡ places_around t 0
fraction_alone t x zero_whole e =
    let behind : drop (0 + 1) t ≡ text_of x.fraction = ap (drop 1) e in
    at_place t x 0 (sym zero_whole) (ap digits_in behind ∙ digits_in-text_of x.fraction)

-- the number is the one that stands around the point
pub number_is : (t : List ℕ) (x : Places) (n : ℕ) → WritesUnsigned t x → HasPointAt t n → x ≡ places_around t n
number_is t x n h p =
    elim (h.form) [
      | inl a ↦
          (let e : length x.whole ≡ n = one_point t (length x.whole) n
          (subst (λ (s : List ℕ). HasPointAt s (length x.whole)) (sym a.1) (no_point x.whole h.digits.whole h.digits.nonempty)) p in
          whole_alone t x h.digits.nonempty a.0 a.1 ∙ ap (places_around t) e)
      | inr r ↦ elim r [
        | inl a ↦
            (let form : t ≡ text_of x.whole ++ 46 ∷ text_of x.fraction = a.1
            ∙ append_assoc (text_of x.whole) (46 ∷ []) (text_of x.fraction) in
            let e : length x.whole ≡ n
            = one_point t (length x.whole) n
            (subst (λ (s : List ℕ). HasPointAt s (length x.whole)) (sym form)
            (at_point x.whole x.fraction h.digits.whole h.digits.fraction a.0)) p in
            both_sides t x h.digits.nonempty form ∙ ap (places_around t) e)
        | inr a ↦
            (let e : 0 ≡ n = one_point t 0 n
            (subst (λ (s : List ℕ). HasPointAt s 0) (sym a.2) (at_point [] x.fraction tt h.digits.fraction a.0)) p in
            fraction_alone t x a.1 a.2 ∙ ap (places_around t) e)
      ]
    ]

-- A text writes one unsigned decimal.
pub one_unsigned : (t : List ℕ) (x y : Places) → WritesUnsigned t x → WritesUnsigned t y → x ≡ y
one_unsigned t x y h k =
    let p : (n : ℕ) × HasPointAt t n = has_point t x h in
    number_is t x p.0 h p.1 ∙ sym (number_is t y p.0 k p.1)
