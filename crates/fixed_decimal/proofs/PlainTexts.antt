-- Texts of plain numbers, by the digits that are split off them.
use Rattle.std.proofs.Common.{◌≡◌, ℕ, suc, ◌+◌, ◌-◌, ◌<◌, ◌≤◌, ◌⊎◌, inl, inr, List, [], ◌∷◌, ◌++◌, refl, sym, ◌∙◌, ap, subst, length, get_or}
use Rattle.std.proofs.Common.{Bool, true, false, arith, append-nil, length-append, take, drop}
use Rattle.std.specs.Bool.{◌==◌}
use Rattle.std.proofs.lemmas.Bool.Decides.{nat_tests}
use Rattle.std.proofs.lemmas.List.{take_all}
use Rattle.fixed_decimal.specs.Digits.{AreDigits, text_of}
use Rattle.fixed_decimal.specs.Places.{IsWithinLimit}
use Rattle.fixed_decimal.specs.PlainNumbers.{IsPlain, IsPlainInteger}
use Rattle.fixed_decimal.specs.Shown.{fraction_text}
use Rattle.fixed_decimal.specs.Written.{CompactNumber, WritesCompact}
use Rattle.fixed_decimal.specs.Inner.TextParts.{IsDigitByte, AllDigitBytes, digits_in}
use Rattle.fixed_decimal.specs.Inner.PlainSides.{IsShortest, IsFraction, EndsDigits, plain_number}
use Rattle.fixed_decimal.proofs.Points.{length-text_of, digit_byte_at, length-digits_in, digits_back}
use Rattle.fixed_decimal.proofs.ShownTexts.{compact_again}

-- ---- a text and its front

pub nothing : (s : List ℕ) → length s < 1 → s ≡ []
nothing [] h = refl
nothing (b ∷ s) h = absurd (omega arith)

headed : (s : List ℕ) → 1 ≤ length s → s ≡ get_or s 0 0 ∷ take (length s - 1) (drop 1 s)
headed [] h = absurd (omega arith)
headed (b ∷ s) h = ap (λ (l : List ℕ). b ∷ l) (sym (take_all (length (b ∷ s) - 1) s (omega arith)))

-- a point, digits, and nothing more are a fraction
pub fraction_is : (text fraction behind : List ℕ) → 1 ≤ length text → get_or text 0 0 ≡ 46 → take (length text - 1) (drop 1 text) ≡ fraction ++ behind
    → 0 < length fraction → length behind < 1 → IsFraction text fraction
fraction_is text fraction behind some point k more short =
    let digits : take (length text - 1) (drop 1 text) ≡ fraction
    = k ∙ ap (λ t. fraction ++ t) (nothing behind short) ∙ append-nil fraction in
    inr (more, headed text some ∙ ap (λ c. c ∷ take (length text - 1) (drop 1 text)) point ∙ ap (λ t. 46 ∷ t) digits)

-- ---- digits that are split off

-- The digits at the front, as many as there are, are those that stand there.
one_split : (ds rest front behind : List ℕ) → AreDigits ds → EndsDigits rest → AllDigitBytes front → EndsDigits behind
    → text_of ds ++ rest ≡ front ++ behind → (front ≡ text_of ds) × (behind ≡ rest)
one_split [] rest [] behind h x d y e = (refl, sym e)
one_split [] rest (b ∷ front) behind h x d y e =
    let other : EndsDigits (b ∷ (front ++ behind)) = subst EndsDigits e x in
    absurd (other (omega arith) (d 0 (omega arith)))
one_split (n ∷ ds) rest [] behind h x d y e =
    let other : EndsDigits ((48 + n) ∷ (text_of ds ++ rest)) = subst EndsDigits (sym e) y in
    absurd (other (omega arith) (omega arith, let l : n < 10 = h.0 in omega arith))
one_split (n ∷ ds) rest (b ∷ front) behind h x d y e =
    let first : 48 + n ≡ b = cc in
    let more : text_of ds ++ rest ≡ front ++ behind = cc in
    let r : (front ≡ text_of ds) × (behind ≡ rest) = one_split ds rest front behind h.1 x (λ k l. d (suc k) (omega arith)) y more in
    (ap (λ t. b ∷ t) r.0 ∙ ap (λ c. c ∷ text_of ds) (sym first), r.1)

-- What follows the integer digits begins with no digit.
fraction_ends : (ds : List ℕ) → EndsDigits (fraction_text ds)
fraction_ends [] l b = absurd (omega arith)
fraction_ends (d ∷ ds) l b = let low : 48 ≤ 46 = b.0 in omega arith

-- So a plain number's text is split behind its integer digits.
pub split_plain : (text whole rest : List ℕ) (x : CompactNumber) → IsPlain text x → AllDigitBytes whole → EndsDigits rest → text ≡ whole ++ rest
    → (whole ≡ text_of x.significand.absolute.whole) × (rest ≡ fraction_text x.significand.absolute.fraction)
split_plain text whole rest x p d y e =
    one_split x.significand.absolute.whole (fraction_text x.significand.absolute.fraction) whole rest p.digits.whole
    (fraction_ends x.significand.absolute.fraction) d y (sym p.form ∙ e)

zero_first : (ds : List ℕ) → 0 < length ds → get_or (text_of ds) 0 0 ≡ 48 → get_or ds 0 0 ≡ 0
zero_first [] some e = absurd (omega arith)
zero_first (d ∷ ds) some e = let f : 48 + d ≡ 48 = e in let z : d ≡ 0 = omega arith in z

-- They have no needless zero before them.
pub plain_shortest : (text whole : List ℕ) (x : CompactNumber) → IsPlain text x → whole ≡ text_of x.significand.absolute.whole → IsShortest whole
plain_shortest text whole x p e =
    let l : length whole ≡ length x.significand.absolute.whole = ap length e ∙ length-text_of x.significand.absolute.whole in
    record {
      nonempty = omega (arith, p.digits.nonempty);
      shortest = λ z.
          let one : length x.significand.absolute.whole ≡ 1
          = p.no_leading_zero (zero_first x.significand.absolute.whole p.digits.nonempty (ap (λ t. get_or t 0 0) (sym e) ∙ z)) in
          omega arith;
    }

-- A fraction is written behind them.
pub fraction_form : (ds : List ℕ) → AreDigits ds → AllDigitBytes (text_of ds) × IsFraction (fraction_text ds) (text_of ds)
fraction_form [] h = (λ k l. absurd (omega arith), inl (refl, refl))
fraction_form (d ∷ ds) h =
    let l : length (text_of (d ∷ ds)) ≡ length (d ∷ ds) = length-text_of (d ∷ ds) in
    (λ k b. digit_byte_at (d ∷ ds) h k (omega arith), inr (omega arith, refl))

-- So its text is divided into the point, all digits behind it, and nothing more.
pub fraction_parts : (text f fraction behind : List ℕ) → AllDigitBytes f → IsFraction text f → 1 ≤ length text → AllDigitBytes fraction
    → EndsDigits behind → take (length text - 1) (drop 1 text) ≡ fraction ++ behind
    → (get_or text 0 0 ≡ 46) × (0 < length fraction) × (length behind ≡ 0)
fraction_parts text f fraction behind d (inl (none, e)) some g z k = absurd (omega (arith, ap length e))
fraction_parts text f fraction behind d (inr (more, e)) some g z k =
    let a : AreDigits (digits_in f) × (text_of (digits_in f) ≡ f) = digits_back f d in
    let rest : f ≡ fraction ++ behind
    = sym (ap (λ t. take (length t - 1) (drop 1 t)) e ∙ take_all (length (46 ∷ f) - 1) f (omega arith)) ∙ k in
    let none : EndsDigits [] = λ l. absurd (omega arith) in
    let r : (fraction ≡ text_of (digits_in f)) × (behind ≡ [])
    = one_split (digits_in f) [] fraction behind a.0 none g z (append-nil (text_of (digits_in f)) ∙ a.1 ∙ rest) in
    let l : length fraction ≡ length f = ap length (r.0 ∙ a.1) in
    (ap (λ t. get_or t 0 0) e, omega arith, ap length r.1)

-- ---- the number that they write

-- a point and the digits behind it
fraction_back : (f : List ℕ) → AllDigitBytes f → 0 < length f → fraction_text (digits_in f) ≡ 46 ∷ f
fraction_back [] h some = absurd (omega arith)
fraction_back (b ∷ f) h some = ap (λ t. 46 ∷ t) (digits_back (b ∷ f) h).1

pub byte_of_zero : (w : List ℕ) → AllDigitBytes w → 0 < length w → get_or (digits_in w) 0 0 ≡ 0 → get_or w 0 0 ≡ 48
byte_of_zero [] h some e = absurd (omega arith)
byte_of_zero (b ∷ w) h some e =
    let d : IsDigitByte b = h 0 (omega arith) in
    let low : 48 ≤ b = d.0 in
    let z : b - 48 ≡ 0 = e in
    let r : b ≡ 48 = omega arith in
    r

-- Such digits alone, or a point and digits behind them, write a plain number.
pub plain_of_sides : (text w f : List ℕ) → AllDigitBytes w → AllDigitBytes f → IsShortest w
    → ((f ≡ []) × (text ≡ w)) ⊎ ((0 < length f) × (text ≡ w ++ 46 ∷ f)) → IsPlain text (plain_number w f)
plain_of_sides text w f d g s sides =
    let a : AreDigits (digits_in w) × (text_of (digits_in w) ≡ w) = digits_back w d in
    let lw : length (digits_in w) ≡ length w = length-digits_in w in
    record {
      digits = record { nonempty = omega (arith, s.nonempty); whole = a.0; fraction = (digits_back f g).0 };
      no_sign = refl;
      no_leading_zero = λ e. lw ∙ s.shortest (byte_of_zero w d s.nonempty e);
      no_exponent = refl;
      form =
          elim sides [
            | inl alone ↦
                alone.1 ∙ sym (ap (λ t. text_of (digits_in w) ++ fraction_text (digits_in t)) alone.0 ∙ append-nil (text_of (digits_in w)) ∙ a.1)
            | inr both ↦
                both.1 ∙ sym (ap (λ t. t ++ fraction_text (digits_in f)) a.1 ∙ ap (λ t. w ++ t) (fraction_back f g both.0))
          ];
    }

-- It is written by the text, as any number.
pub writes_plain : (text w f : List ℕ) → IsPlain text (plain_number w f) → WritesCompact text (plain_number w f)
writes_plain text w f p =
    subst (λ (t : List ℕ). WritesCompact t (plain_number w f)) (append-nil (text_of (digits_in w) ++ fraction_text (digits_in f)) ∙ sym p.form)
    (compact_again (plain_number w f) p.digits (omega arith))

-- So do digits and a fraction behind them.
pub plain_of_parts : (text w rest f : List ℕ) → AllDigitBytes w → AllDigitBytes f → IsShortest w → text ≡ w ++ rest → IsFraction rest f
    → IsPlain text (plain_number w f)
plain_of_parts text w rest f d g s e (inl (none, nothing_more)) =
    plain_of_sides text w f d g s (inl (none, e ∙ ap (λ t. w ++ t) nothing_more ∙ append-nil w))
plain_of_parts text w rest f d g s e (inr (more, behind)) =
    plain_of_sides text w f d g s (inr (more, e ∙ ap (λ t. w ++ t) behind))

-- Neither part is longer than the text.
pub parts_fit : (text w rest f : List ℕ) → text ≡ w ++ rest → IsFraction rest f → length text ≤ 32767
    → (length w ≤ 32767) × (length f ≤ 32767)
parts_fit text w rest f e form short =
    let l : length text ≡ length w + length rest = ap length e ∙ length-append w rest in
    elim form [
      | inl p ↦ (let n : length f ≡ 0 = ap length p.0 in (omega arith, omega arith))
      | inr p ↦ (let n : length rest ≡ suc (length f) = ap length p.1 in (omega arith, omega arith))
    ]

-- Digits alone write a number without a fraction.
pub integer : (text w rest : List ℕ) → AllDigitBytes w → IsShortest w → text ≡ w ++ rest → length rest < 1 → IsPlain text (plain_number w [])
integer text w rest d s e short =
    plain_of_sides text w [] d (λ k l. absurd (omega arith)) s (inl (refl, e ∙ ap (λ t. w ++ t) (nothing rest short) ∙ append-nil w))

fraction_length : (ds : List ℕ) → length ds ≤ length (fraction_text ds)
fraction_length [] = omega arith
fraction_length (d ∷ ds) =
    let l : length (text_of (d ∷ ds)) ≡ length (d ∷ ds) = length-text_of (d ∷ ds) in
    let e : length (fraction_text (d ∷ ds)) ≡ suc (length (text_of (d ∷ ds))) = refl in
    omega arith

-- A plain number is written by its text, as any number, and a text that isn't too long has no more
-- places than are allowed.
pub plain_number_of : (text w f : List ℕ) → IsPlain text (plain_number w f) → length text ≤ 32767
    → WritesCompact text (plain_number w f) × IsWithinLimit (plain_number w f).significand.absolute × ((plain_number w f).exponent ≤ 255)
plain_number_of text w f p short =
    let l : length text ≡ length (text_of (digits_in w)) + length (fraction_text (digits_in f))
    = ap length p.form ∙ length-append (text_of (digits_in w)) (fraction_text (digits_in f)) in
    let lw : length (text_of (digits_in w)) ≡ length (digits_in w) = length-text_of (digits_in w) in
    let lf : length (digits_in f) ≤ length (fraction_text (digits_in f)) = fraction_length (digits_in f) in
    (writes_plain text w f p, record { whole = omega arith; fraction = omega arith }, omega arith)

-- ---- where a text is refused

-- Of the text of a plain number without a fraction nothing follows its digits.
pub integer_split : (text whole rest : List ℕ) → IsPlainInteger text → AllDigitBytes whole → EndsDigits rest → text ≡ whole ++ rest
    → (length rest ≡ 0) × IsShortest whole
integer_split text whole rest i d y e =
    let r : (whole ≡ text_of i.0.significand.absolute.whole) × (rest ≡ fraction_text i.0.significand.absolute.fraction)
    = split_plain text whole rest i.0 i.1 d y e in
    (ap length (r.1 ∙ ap fraction_text i.2), plain_shortest text whole i.0 i.1 r.0)

-- what a test for no bytes tells
pub is_none : (n : ℕ) (b : Bool) → b ≡ (n == 0) → b ≡ true → n < 1
is_none n b e h = let t : true ≡ (n == 0) = sym h ∙ e in grind (arith, nat_tests)

pub is_some : (n : ℕ) (b : Bool) → b ≡ (n == 0) → b ≡ false → 0 < n
is_some n b e h = let t : false ≡ (n == 0) = sym h ∙ e in grind (arith, nat_tests)
