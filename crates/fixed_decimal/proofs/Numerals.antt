-- The decimal text of a whole number has its digits, without leading zeros.
use Rattle.std.proofs.Common.{◌≡◌, ℕ, zero, suc, ◌+◌, ◌-◌, ◌*◌, ◌/◌, ◌%◌, ◌^◌, ◌<◌, ◌≤◌, inl, inr, List, [], ◌∷◌, ◌++◌, sym, ◌∙◌, ap}
use Rattle.std.proofs.Common.{length, arith, get_or, length-append}
use Rattle.std.specs.Fmt.{decimal}
use Rattle.std.proofs.lemmas.Fmt.{decimal_by_steps_wide}
use Rattle.std.proofs.lemmas.Bool.{cases_lt}
use Rattle.std.proofs.lemmas.List.{map-append, get_or_at}
use Rattle.std.proofs.lemmas.Nat.{div-add-mod', mod_below}
use Rattle.std.proofs.Math.ListN.{get_or-append}
use Rattle.fixed_decimal.specs.Digits.{value_of, IsNumeral}
use Rattle.fixed_decimal.specs.Places.{or_zero}
use Rattle.fixed_decimal.specs.Inner.TextParts.{IsDigitByte, AllDigitBytes, digits_in}
use Rattle.fixed_decimal.proofs.Points.{digits_back, or_zero-same, length-digits_in}
use Rattle.fixed_decimal.proofs.Values.{value_of-append}

-- A text of digits alone that writes a number without leading zeros.
record IsText (n : ℕ) (text : List ℕ) : Type 0 where
  digits : AllDigitBytes text
  some : 0 < length text
  value : value_of (digits_in text) ≡ n
  zero_first : get_or text 0 0 ≡ 48 → n ≡ 0
  zero_text : n ≡ 0 → text ≡ 48 ∷ []

-- A number below ten is written by one digit.
one_digit : (n : ℕ) → n < 10 → IsText n ((48 + n) ∷ [])
one_digit n h =
    let d : 48 + n - 48 ≡ n = omega arith in
    record {
      digits = all;
      some = omega arith;
      value = ap (λ k. k * 1 + 0) d ∙ omega arith;
      zero_first = λ e. (let f : 48 + n ≡ 48 = e in omega arith);
      zero_text = λ e. (let f : 48 + n ≡ 48 = omega arith in ap (λ c. c ∷ []) f);
    }
  where
    all : (k : ℕ) → k < 1 → IsDigitByte (get_or ((48 + n) ∷ []) k 0)
    all zero inside = (omega arith, omega arith)
    all (suc k) inside = absurd (omega arith)

-- The text of the tenth part and the last digit write the number.
more_digits : (n : ℕ) (text : List ℕ) → 10 ≤ n → IsText (n / 10) text → IsText n (text ++ ((48 + n % 10) ∷ []))
more_digits n text h t =
    let last : n % 10 < 10 = mod_below n 10 (omega arith) in
    let d : 48 + n % 10 - 48 ≡ n % 10 = omega arith in
    let l : length (text ++ ((48 + n % 10) ∷ [])) ≡ length text + 1 = length-append text ((48 + n % 10) ∷ []) ∙ omega arith in
    let some : 0 < length text = t.some in
    let parts : digits_in (text ++ ((48 + n % 10) ∷ [])) ≡ digits_in text ++ (n % 10 ∷ [])
    = map-append _ text ((48 + n % 10) ∷ []) ∙ ap (λ k. digits_in text ++ (k ∷ [])) d in
    let v : value_of (digits_in text) ≡ n / 10 = t.value in
    let whole : n / 10 * 10 + n % 10 ≡ n = div-add-mod' n 10 in
    record {
      digits = λ k inside. elim (cases_lt k (length text)) [
        | inl before ↦ rw (get_or-append text ((48 + n % 10) ∷ []) 0 k before) (t.digits k before)
        | inr end ↦ (let e : length text ≡ k = omega arith in rw (get_or_at text (48 + n % 10) [] 0 k e) (omega arith, omega arith))
      ];
      some = omega arith;
      value = ap value_of parts ∙ value_of-append (digits_in text) (n % 10 ∷ []) ∙ ap (λ k. k * 10 + (n % 10 * 1 + 0)) v ∙ omega arith;
      zero_first = λ e.
          (let f : get_or text 0 0 ≡ 48 = sym (get_or-append text ((48 + n % 10) ∷ []) 0 0 some) ∙ e in
          let z : n / 10 ≡ 0 = t.zero_first f in absurd (omega arith));
      zero_text = λ e. absurd (omega arith);
    }

-- So std writes each number of up to 64 digits.
text_of_number : (n : ℕ) → n < 10 ^ 64 → IsText n (decimal n)
text_of_number n h = decimal_by_steps_wide IsText one_digit more_digits n h

-- Its text is digits alone.
pub decimal_bytes : (n : ℕ) → n < 10 ^ 64 → AllDigitBytes (decimal n)
decimal_bytes n h = (text_of_number n h).digits

-- It isn't empty.
pub decimal_some : (n : ℕ) → n < 10 ^ 64 → 0 < length (decimal n)
decimal_some n h = (text_of_number n h).some

-- Its digits write the number.
pub decimal_value : (n : ℕ) → n < 10 ^ 64 → value_of (digits_in (decimal n)) ≡ n
decimal_value n h = (text_of_number n h).value

-- The digits of such a text are the number's numeral.
numeral : (n : ℕ) (text : List ℕ) → IsText n text → IsNumeral (or_zero (digits_in text)) n
numeral n text t =
    let some : 0 < length text = t.some in
    let same : or_zero (digits_in text) ≡ digits_in text = or_zero-same (digits_in text) (omega (arith, length-digits_in text)) in
    rw same
    record {
      digits = (digits_back text t.digits).0;
      value = t.value;
      shortest = short text t;
    }
  where
    short : (text : List ℕ) → IsText n text → get_or (digits_in text) 0 0 ≡ 0 → digits_in text ≡ 0 ∷ []
    short [] t e = absurd (let some : 0 < length {A = ℕ} [] = t.some in omega arith)
    short (c ∷ cs) t e =
        let b : IsDigitByte c = t.digits 0 (omega arith) in
        let low : 48 ≤ c = b.0 in
        let first : c ≡ 48 = (let z : c - 48 ≡ 0 = e in omega arith) in
        ap digits_in (t.zero_text (t.zero_first first))

-- The digits of a number's decimal text are its numeral.
pub decimal_numeral : (n : ℕ) → n < 10 ^ 64 → IsNumeral (or_zero (digits_in (decimal n))) n
decimal_numeral n h = numeral n (decimal n) (text_of_number n h)
