-- Compact decimals' texts by the place of their exponent.
use Rattle.std.proofs.Common.{◌≡◌, ◌≢◌, ℕ, suc, ◌+◌, ◌-◌, ◌<◌, ◌≤◌, inl, inr, List, [], ◌∷◌, ◌++◌, refl, sym, ◌∙◌, ap, subst, length}
use Rattle.std.proofs.Common.{take, drop, arith, get_or, length-append}
use Rattle.std.proofs.lemmas.Bool.{cases_lt}
use Rattle.std.proofs.lemmas.List.{take_at, drop_at, get_or-append-add}
use Rattle.std.proofs.Math.ListN.{get_or-append}
use Rattle.fixed_decimal.specs.Digits.{AreDigits, text_of, value_of}
use Rattle.fixed_decimal.specs.Written.{CompactNumber, WritesDecimal, HasExponent, WritesCompact, IsCompactOverLimit}
use Rattle.fixed_decimal.specs.Places.{IsOverLimit}
use Rattle.fixed_decimal.specs.Inner.TextParts.{IsDigitByte, WritesUpToThree, digits_in}
use Rattle.fixed_decimal.specs.declared.decimal.Decimal.{Decimal}
use Rattle.fixed_decimal.proofs.Points.{length-text_of, digit_byte_at, digits_back, length-digits_in}
use Rattle.fixed_decimal.proofs.Texts.{digits_in-text_of}
use Rattle.fixed_decimal.proofs.Signs.{decimal_letter, one_signed}

-- ---- the exponent itself

-- up to three digits after the letter
pub exponent_from : (t : List ℕ) (e : ℕ) → WritesUpToThree t e → HasExponent (99 ∷ t) e
exponent_from t e h =
    let d : AreDigits (digits_in t) × (text_of (digits_in t) ≡ t) = digits_back t h.digits in
    inr (
      digits_in t,
      record {
        digits = d.0;
        least = (let l : 1 ≤ length t = h.least in omega (arith, length-digits_in t));
        most = (let l : length t ≤ 3 = h.most in omega (arith, length-digits_in t));
        value = h.value;
        form = ap (λ s. 99 ∷ s) (sym d.1);
      },
    )

-- An exponent's text, without its letter, is one to three digits of its value.
pub exponent_to : (t : List ℕ) (e : ℕ) → HasExponent (99 ∷ t) e → WritesUpToThree t e
exponent_to t e (inl a) = absurd (let l : suc (length t) ≡ 0 = ap length a.0 in omega arith)
exponent_to t e (inr p) =
    let form : t ≡ text_of p.0 = ap (drop 1) p.1.form in
    let l : length t ≡ length p.0 = ap length form ∙ length-text_of p.0 in
    record {
      digits = λ k inside. subst (λ (s : List ℕ). IsDigitByte (get_or s k 0)) (sym form) (digit_byte_at p.0 p.1.digits k (omega arith));
      least = (let m : 1 ≤ length p.0 = p.1.least in omega arith);
      most = (let m : length p.0 ≤ 3 = p.1.most in omega arith);
      value = p.1.value ∙ ap value_of (sym (ap digits_in form ∙ digits_in-text_of p.0));
    }

-- A text is an exponent's in one way: it has one value.
pub one_exponent : (t : List ℕ) (d e : ℕ) → HasExponent t d → HasExponent t e → d ≡ e
one_exponent [] d e (inl a) (inl b) = a.1 ∙ sym b.1
one_exponent [] d e h (inr q) = absurd (let l : 0 ≡ suc (length (text_of q.0)) = ap length q.1.form in omega arith)
one_exponent [] d e (inr p) k = absurd (let l : 0 ≡ suc (length (text_of p.0)) = ap length p.1.form in omega arith)
one_exponent (c ∷ t) d e (inl a) k = absurd (let l : suc (length t) ≡ 0 = ap length a.0 in omega arith)
one_exponent (c ∷ t) d e h (inl b) = absurd (let l : suc (length t) ≡ 0 = ap length b.0 in omega arith)
one_exponent (c ∷ t) d e (inr p) (inr q) =
    let same : p.0 ≡ q.0 = sym (digits_in-text_of p.0) ∙ ap (λ s. digits_in (drop 1 s)) (sym p.1.form ∙ q.1.form)
    ∙ digits_in-text_of q.0 in
    p.1.value ∙ ap value_of same ∙ sym q.1.value

-- it begins with its letter
letter_first : (t : List ℕ) (e : ℕ) → HasExponent t e → 0 < length t → get_or t 0 0 ≡ 99
letter_first t e (inl a) some = absurd (let l : length t ≡ 0 = ap length a.0 in omega arith)
letter_first t e (inr p) some = ap (λ s. get_or s 0 0) p.1.form

-- it is short
pub exponent_short : (t : List ℕ) (e : ℕ) → HasExponent t e → length t ≤ 4
exponent_short t e (inl a) = let l : length t ≡ 0 = ap length a.0 in omega arith
exponent_short t e (inr p) =
    let l : length t ≡ suc (length (text_of p.0)) = ap length p.1.form in
    let m : length p.0 ≤ 3 = p.1.most in
    omega (arith, length-text_of p.0)

-- ---- where it begins

-- the letter stands where the decimal ends
letter_at_end : (t front rest : List ℕ) (e : ℕ) → HasExponent rest e → t ≡ front ++ rest → length front < length t
    → get_or t (length front) 0 ≡ 99
letter_at_end t front rest e h form inside =
    let l : length t ≡ length front + length rest = ap length form ∙ length-append front rest in
    let z : length front ≡ length front + 0 = omega arith in
    ap (λ s. get_or s (length front) 0) form ∙ ap (λ k. get_or (front ++ rest) k 0) z
    ∙ get_or-append-add front rest 0 0 ∙ letter_first rest e h (omega arith)

-- ... and not before
pub no_letter_before : (t front rest : List ℕ) (x : Decimal) → WritesDecimal front x → t ≡ front ++ rest → (k : ℕ)
    → k < length front → get_or t k 0 ≢ 99
no_letter_before t front rest x h form k inside letter =
    decimal_letter front x h k inside (sym (get_or-append front rest 0 k inside) ∙ ap (λ s. get_or s k 0) (sym form) ∙ letter)

-- the first letter among the last four bytes, or the end, is where the exponent begins
pub exponent_begins : (t front rest : List ℕ) (x : Decimal) (e n : ℕ) → WritesDecimal front x → HasExponent rest e
    → t ≡ front ++ rest → n ≤ length t → ((k : ℕ) → length t - 4 ≤ k → k < n → get_or t k 0 ≢ 99)
    → (n < length t → get_or t n 0 ≡ 99) → n ≡ length front
exponent_begins t front rest x e n h k form most before found =
    let l : length t ≡ length front + length rest = ap length form ∙ length-append front rest in
    let short : length rest ≤ 4 = exponent_short rest e k in
    elim (cases_lt n (length front)) [
      | inl below ↦ absurd (no_letter_before t front rest x h form n below (found (omega arith)))
      | inr from ↦ elim (cases_lt (length front) n) [
        | inl above ↦ absurd (before (length front) (omega arith) above (letter_at_end t front rest e k form (omega arith)))
        | inr here ↦ omega arith
      ]
    ]

-- a text has one exponent
same_front : (t front rest front' rest' : List ℕ) (x y : Decimal) (d e : ℕ) → WritesDecimal front x
    → HasExponent rest d → t ≡ front ++ rest → WritesDecimal front' y → HasExponent rest' e → t ≡ front' ++ rest'
    → length front ≡ length front'
same_front t front rest front' rest' x y d e h i form h' i' form' =
    let l : length t ≡ length front + length rest = ap length form ∙ length-append front rest in
    let m : length t ≡ length front' + length rest' = ap length form' ∙ length-append front' rest' in
    elim (cases_lt (length front) (length front')) [
      | inl below ↦ absurd
          (no_letter_before t front' rest' y h' form' (length front) below (letter_at_end t front rest d i form (omega arith)))
      | inr from ↦ elim (cases_lt (length front') (length front)) [
        | inl above ↦ absurd
            (no_letter_before t front rest x h form (length front') above (letter_at_end t front' rest' e i' form' (omega arith)))
        | inr here ↦ omega arith
      ]
    ]

-- A text is cut into a decimal and an exponent in one way, so it writes one compact number.
pub one_compact : (t : List ℕ) (x y : CompactNumber) → WritesCompact t x → WritesCompact t y → x ≡ y
one_compact t x y h k =
    let same : length h.0 ≡ length k.0
    = same_front t h.0 h.1 k.0 k.1 x.significand y.significand x.exponent y.exponent h.2 h.3 h.4 k.2 k.3 k.4 in
    let front : h.0 ≡ k.0 = sym (take_at h.0 h.1 (length h.0) refl) ∙ ap (take (length h.0)) (sym h.4 ∙ k.4)
    ∙ take_at k.0 k.1 (length h.0) (sym same) in
    let rest : h.1 ≡ k.1 = sym (drop_at h.0 h.1 (length h.0) refl) ∙ ap (drop (length h.0)) (sym h.4 ∙ k.4)
    ∙ drop_at k.0 k.1 (length h.0) (sym same) in
    let significand : x.significand ≡ y.significand
    = one_signed k.0 x.significand y.significand (subst (λ (s : List ℕ). WritesDecimal s x.significand) front h.2) k.2 in
    let exponent : x.exponent ≡ y.exponent
    = one_exponent k.1 x.exponent y.exponent (subst (λ (s : List ℕ). HasExponent s x.exponent) rest h.3) k.3 in
    ap (λ (s : Decimal). record x { significand = s }) significand ∙ ap (λ (e : ℕ). record y { exponent = e }) exponent

-- ---- what is written before the exponent, and what with it

module _ (bytes t front : List ℕ) (e : ℕ) (same : bytes ≡ t) (found : (rest : List ℕ) × HasExponent rest e
    × (bytes ≡ front ++ rest)) (only : (front' rest : List ℕ) (x : Decimal) (d : ℕ) → WritesDecimal front' x
    → HasExponent rest d → bytes ≡ front' ++ rest → (front ≡ front') × (e ≡ d)) where
  -- A decimal in front of the exponent that was found makes a compact number of the whole text.
  compact_from : (x : Decimal) → WritesDecimal front x → WritesCompact t (record { significand = x; exponent = e })
  compact_from x h = (front, found.0, h, found.1, sym same ∙ found.2)

  -- The decimal of such a number is written by the part before the exponent, and its exponent is
  -- the one that was found.
  decimal_from : (y : CompactNumber) → WritesCompact t y → WritesDecimal front y.significand × (e ≡ y.exponent)
  decimal_from y h =
      let here : (front ≡ h.0) × (e ≡ y.exponent) = only h.0 h.1 y.significand y.exponent h.2 h.3 (same ∙ h.4) in
      (subst (λ (s : List ℕ). WritesDecimal s y.significand) (sym here.0) h.2, here.1)

  -- Where the front isn't a decimal, the text isn't a compact number.
  pub none_compact : ((x : Decimal) → ¬ (WritesDecimal front x)) → (y : CompactNumber) → ¬ (WritesCompact t y)
  none_compact none y h = none y.significand (decimal_from y h).0

  -- Where the text isn't a compact number, its front isn't a decimal.
  pub none_decimal : ((y : CompactNumber) → ¬ (WritesCompact t y)) → (x : Decimal) → ¬ (WritesDecimal front x)
  none_decimal none x h = none (record { significand = x; exponent = e }) (compact_from x h)

  -- A front over the limit makes a compact number over the limit.
  pub over_compact : ((x : Decimal) × WritesDecimal front x × IsOverLimit x.absolute)
      → (y : CompactNumber) × WritesCompact t y × IsCompactOverLimit y
  over_compact p = (record { significand = p.0; exponent = e }, compact_from p.0 p.1, inl p.2)

  -- A compact number over the limit has a decimal in front.
  pub known_decimal : ((y : CompactNumber) × WritesCompact t y × IsCompactOverLimit y) → ¬ ((x : Decimal) → ¬ (WritesDecimal front x))
  known_decimal p none = none_compact none p.0 p.1

  -- An exponent above 255 is over the limit, whatever stands before it.
  pub long_exponent : (x : Decimal) → WritesDecimal front x → 255 < e → (y : CompactNumber) × WritesCompact t y × IsCompactOverLimit y
  long_exponent x h long = (record { significand = x; exponent = e }, compact_from x h, inr long)

  -- A front within the limit and an exponent of at most 255 make no number over the limit.
  pub within_compact : ¬ ((x : Decimal) × WritesDecimal front x × IsOverLimit x.absolute) → e ≤ 255
      → ¬ ((y : CompactNumber) × WritesCompact t y × IsCompactOverLimit y)
  within_compact none short p =
      let h : WritesDecimal front p.0.significand × (e ≡ p.0.exponent) = decimal_from p.0 p.1 in
      elim (p.2) [
        | inl over ↦ none (p.0.significand, h.0, over)
        | inr long ↦ (let m : 255 < p.0.exponent = long in let here : e ≡ p.0.exponent = h.1 in omega arith)
      ]
