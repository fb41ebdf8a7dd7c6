-- Plain numbers of the same value, by their bytes.
use Rattle.std.proofs.Common.{◌≡◌, ◌↔◌, ℕ, zero, suc, ◌-◌, ◌<◌, ◌≤◌, ◌&&◌, ℤ, pos, negsuc, ◌-ℤ◌, Bool, true, false, inl, inr, List, [], ◌∷◌, refl, sym, ◌∙◌, ap, subst}
use Rattle.std.proofs.Common.{length, reverse, get_or, arith}
use Rattle.std.specs.Bool.{IsTrue, Decides}
use Rattle.std.specs.List.{list_all}
use Rattle.std.proofs.lemmas.Bool.Decides.{nat_tests}
use Rattle.std.proofs.lemmas.Grind.{same_number_lists}
use Rattle.std.proofs.lemmas.Int.{ints}
use Rattle.std.proofs.lemmas.List.{get_or-reverse, get_or_past, length-reverse, reverse-reverse}
use Rattle.fixed_decimal.specs.Digits.{text_of}
use Rattle.fixed_decimal.specs.Places.{digit_at}
use Rattle.fixed_decimal.specs.PlainNumbers.{IsPlain}
use Rattle.fixed_decimal.specs.SameValue.{digit_of, HaveSameValue, EqualsWritten}
use Rattle.fixed_decimal.specs.Written.{CompactNumber, IsCompactOverLimit}
use Rattle.fixed_decimal.specs.Inner.TextParts.{IsDigitByte, AllDigitBytes, digits_in}
use Rattle.fixed_decimal.specs.Inner.PlainSides.{is_zero, IsShortest, AreSides, plain_number}
use Rattle.fixed_decimal.specs.declared.sign.Sign.TheVariants as sign
use Rattle.fixed_decimal.proofs.Exponents.{one_compact}
use Rattle.fixed_decimal.proofs.PlainTexts.{byte_of_zero, writes_plain}
use Rattle.fixed_decimal.proofs.Points.{length-digits_in, digits_back}

-- ---- the digits at the powers of ten

before_point : (w f : List ℕ) (k : ℕ) → digit_of (plain_number w f) (pos k) ≡ get_or (reverse (digits_in w)) k 0
before_point w f k =
    let e : pos k -ℤ pos 0 ≡ pos k = omega (arith, ints) in
    ap (λ (i : ℤ). digit_at (plain_number w f).significand.absolute i) e

behind_point : (w f : List ℕ) (k : ℕ) → digit_of (plain_number w f) (negsuc k) ≡ get_or (digits_in f) k 0
behind_point w f k =
    let e : negsuc k -ℤ pos 0 ≡ negsuc k = omega (arith, ints) in
    ap (λ (i : ℤ). digit_at (plain_number w f).significand.absolute i) e

-- without a needless zero, longer digits have one above all of the other's
not_longer : (w v : List ℕ) → AllDigitBytes w → IsShortest w → IsShortest v
    → ((k : ℕ) → get_or (reverse (digits_in w)) k 0 ≡ get_or (reverse (digits_in v)) k 0) → length v < length w → ⊥
not_longer w v h n m same l =
    let lw : length (digits_in w) ≡ length w = length-digits_in w in
    let lv : length (reverse (digits_in v)) ≡ length v = length-reverse (digits_in v) ∙ length-digits_in v in
    let top : get_or (reverse (digits_in w)) (length w - 1) 0 ≡ get_or (digits_in w) (length (digits_in w) - 1 - (length w - 1)) 0
    = get_or-reverse (digits_in w) (length w - 1) 0 (omega arith) in
    let place : length (digits_in w) - 1 - (length w - 1) ≡ 0 = omega arith in
    let past : get_or (reverse (digits_in v)) (length w - 1) 0 ≡ 0 = get_or_past (reverse (digits_in v)) (length w - 1) 0 (omega arith) in
    let zero : get_or (digits_in w) 0 0 ≡ 0
    = sym (ap (λ (i : ℕ). get_or (digits_in w) i 0) place) ∙ (sym top ∙ (same (length w - 1) ∙ past)) in
    let one : length w ≡ 1 = n.shortest (byte_of_zero w h n.nonempty zero) in
    let some : 0 < length v = m.nonempty in
    omega arith

-- so the same digits are the same bytes
same_digits : (w v : List ℕ) → AllDigitBytes w → AllDigitBytes v → IsShortest w → IsShortest v
    → ((k : ℕ) → get_or (reverse (digits_in w)) k 0 ≡ get_or (reverse (digits_in v)) k 0) → w ≡ v
same_digits w v h g n m same =
    let lw : length (reverse (digits_in w)) ≡ length w = length-reverse (digits_in w) ∙ length-digits_in w in
    let lv : length (reverse (digits_in v)) ≡ length v = length-reverse (digits_in v) ∙ length-digits_in v in
    let a : length v < length w → ⊥ = not_longer w v h n m same in
    let b : length w < length v → ⊥ = not_longer v w g m n (λ k. sym (same k)) in
    let turned : reverse (digits_in w) ≡ reverse (digits_in v) = same_number_lists _ _ (omega arith) (λ k l. same k) in
    let digits : digits_in w ≡ digits_in v
    = sym (reverse-reverse (digits_in w)) ∙ (ap (λ (l : List ℕ). reverse l) turned ∙ reverse-reverse (digits_in v)) in
    sym (digits_back w h).1 ∙ (ap (λ (l : List ℕ). text_of l) digits ∙ (digits_back v g).1)

-- if a conjunction is true, both its parts are
both_true : (a b : Bool) → (a && b) ≡ true → (a ≡ true) × (b ≡ true)
both_true true b h = (refl, h)
both_true false b h = let e : false ≡ true = h in cc

zeros : (f : List ℕ) → AllDigitBytes f → ((k : ℕ) → get_or (digits_in f) k 0 ≡ 0) → list_all is_zero f ≡ true
zeros [] h all = refl
zeros (b ∷ f) h all =
    let d : IsDigitByte b = h 0 (omega arith) in
    let low : 48 ≤ b = d.0 in
    let z : b - 48 ≡ 0 = all 0 in
    let r : b ≡ 48 = omega arith in
    let e : is_zero b ≡ true = grind (arith, nat_tests) in
    ap (λ (t : Bool). t && list_all is_zero f) e ∙ zeros f (λ k l. h (suc k) (omega arith)) (λ k. all (suc k))

no_digit : (f : List ℕ) → list_all is_zero f ≡ true → (k : ℕ) → get_or (digits_in f) k 0 ≡ 0
no_digit [] h k = refl
no_digit (b ∷ f) h zero =
    let p = both_true (is_zero b) (list_all is_zero f) h in
    let e : is_zero b ≡ true = p.0 in
    let r : b ≡ 48 = grind (arith, nat_tests) in
    let z : b - 48 ≡ 0 = omega arith in
    z
no_digit (b ∷ f) h (suc k) = no_digit f (both_true (is_zero b) (list_all is_zero f) h).1 k

-- ---- the same value

same_value : (w f v : List ℕ) → w ≡ v → list_all is_zero f ≡ true → HaveSameValue (plain_number w f) (plain_number v [])
same_value w f v e z = record {
  digits = λ k.
      elim k as (λ (i : ℤ). digit_of (plain_number w f) i ≡ digit_of (plain_number v []) i) [
        | pos n ↦ before_point w f n ∙ (ap (λ (l : List ℕ). get_or (reverse (digits_in l)) n 0) e ∙ sym (before_point v [] n))
        | negsuc n ↦ behind_point w f n ∙ (no_digit f z n ∙ sym (behind_point v [] n))
      ];
  signs = (λ s. let e : sign.None ≡ sign.Negative = s.0 in cc, λ s. let e : sign.None ≡ sign.Negative = s.0 in cc);
}

-- The bytes of an integer tell whether it has the value.
pub at_sight : (written w f v : List ℕ) (b : Bool) → AreSides w f → AllDigitBytes v → IsShortest v → IsPlain written (plain_number v [])
    → Decides b ((w ≡ v) × (list_all is_zero f ≡ true))
    → IsTrue b ↔ EqualsWritten (plain_number w f) written
at_sight written w f v b sides d m plain test =
    let q = writes_plain written v [] plain in
    let yes : IsTrue b → EqualsWritten (plain_number w f) written = λ t.
    let both = test.0 t in
    let fits : length (digits_in v) ≤ 32767 = omega (arith, sides.whole_within, length-digits_in v, ap (λ (l : List ℕ). length l) both.0) in
    let within : IsCompactOverLimit (plain_number v []) → ⊥ = λ o.
    elim o [
      | inl side ↦ elim side [ inl over ↦ omega arith | inr over ↦ omega arith ]
      | inr over ↦ omega arith
    ]
    in
    (plain_number v [], q, within, same_value w f v both.0 both.1)
    in
    let no : EqualsWritten (plain_number w f) written → IsTrue b = λ e.
    let other : e.0 ≡ plain_number v [] = one_compact written e.0 (plain_number v []) e.1 q in
    let same : HaveSameValue (plain_number w f) (plain_number v []) = subst (λ (y : CompactNumber). HaveSameValue (plain_number w f) y) other e.3 in
    test.1 (
      same_digits w v sides.whole_digits d sides.shortest m (λ i. sym (before_point w f i) ∙ (same.digits (pos i) ∙ before_point v [] i)),
      zeros f sides.fraction_digits (λ i. sym (behind_point w f i) ∙ (same.digits (negsuc i) ∙ behind_point v [] i)),
    )
    in
    (yes, no)
