-- The texts that decimals print write them.
use Rattle.std.proofs.Common.{◌≡◌, ℕ, zero, suc, ◌+◌, ◌-◌, ◌<◌, ◌≤◌, ◌^◌, inl, inr, List, [], ◌∷◌, ◌++◌, refl, sym, ◌∙◌, ap, length, take}
use Rattle.std.proofs.Common.{drop, arith, get_or, append_assoc, append-nil, length-drop}
use Rattle.std.specs.Fmt.{decimal}
use Rattle.std.proofs.lemmas.Fmt.{length-decimal-le_wide, decimal_digit}
use Rattle.std.proofs.lemmas.List.{take_more, map-append, get_or-drop}
use Rattle.fixed_decimal.specs.Digits.{AreDigits, text_of}
use Rattle.fixed_decimal.specs.Places.{Places, IsWritten}
use Rattle.fixed_decimal.specs.Written.{StandsAs, HasExponent}
use Rattle.fixed_decimal.specs.Shown.{fraction_text, unsigned_text, decimal_text, exponent_text, UnsignedReadAgain, DecimalReadAgain, CompactReadAgain}
use Rattle.fixed_decimal.proofs.Exponents.{exponent_from}
use Rattle.fixed_decimal.proofs.Spans.{AreDigits-append}
use Rattle.fixed_decimal.proofs.Numerals.{decimal_bytes, decimal_some, decimal_value}

-- the form of a text with these digits
form : (w f : List ℕ) → StandsAs (text_of w ++ fraction_text f) (record { whole = w; fraction = f })
form w [] = inl (refl, append-nil (text_of w))
form w (d ∷ ds) = inr (inl (omega arith, sym (append_assoc (text_of w) (46 ∷ []) (text_of (d ∷ ds)))))

-- Digits and a point before those of the fraction write the number.
pub unsigned_again : UnsignedReadAgain
unsigned_again x h = record { digits = h; form = form x.whole x.fraction }

-- So they do after a sign.
pub decimal_again : DecimalReadAgain
decimal_again x h = (unsigned_text x.absolute, unsigned_again x.absolute h, refl)

-- an exponent that isn't 0 is written by at most three digits
exponent_again : (e : ℕ) → e ≤ 255 → HasExponent (exponent_text e) e
exponent_again zero h = inl (refl, refl)
exponent_again (suc e) h =
    let small : suc e < 10 ^ 64 = omega arith in
    exponent_from (decimal (suc e)) (suc e)
    (record {
      digits = decimal_bytes (suc e) small;
      least = decimal_some (suc e) small;
      most = length-decimal-le_wide 3 (suc e) (omega arith) (omega arith) small;
      value = sym (decimal_value (suc e) small);
    })

-- And with it.
pub compact_again : CompactReadAgain
compact_again x h k =
    (decimal_text x.significand, exponent_text x.exponent, decimal_again x.significand h, exponent_again x.exponent k, refl)

-- each digit is below ten, and 0 is past the last
digit_below : (ds : List ℕ) (i : ℕ) → AreDigits ds → get_or ds i 0 < 10
digit_below [] i h = omega arith
digit_below (d ∷ ds) zero h = h.0
digit_below (d ∷ ds) (suc i) h = digit_below ds i h.1

-- So are those on both sides of the point.
pub all_digits : (x : Places) → IsWritten x → AreDigits (x.whole ++ x.fraction)
all_digits x h = AreDigits-append x.whole x.fraction h.whole h.fraction

-- ---- digits that are printed one by one

-- The text of one digit more.
pub one_more : (ds : List ℕ) (from count index : ℕ) → AreDigits ds → from + count ≤ length ds → index < count
    → text_of (take index (drop from ds)) ++ decimal (get_or ds (from + index) 0) ≡ text_of (take (index + 1) (drop from ds))
one_more ds from count index digits inside below =
    let long : length (drop from ds) ≡ length ds - from = length-drop from ds in
    let small : get_or ds (from + index) 0 < 10 = digit_below ds (from + index) digits in
    ap (λ t. text_of (take index (drop from ds)) ++ t) (decimal_digit (get_or ds (from + index) 0) small)
    ∙ sym (ap text_of (take_more (drop from ds) index 0 (omega arith)
    ∙ ap (λ d. take index (drop from ds) ++ d ∷ []) (get_or-drop from ds index 0))
    ∙ map-append _ (take index (drop from ds)) (get_or ds (from + index) 0 ∷ []))
