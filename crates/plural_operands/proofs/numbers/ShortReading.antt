-- How a text of at most 18 digits on each side of its point is read in one walk.
use Rattle.std.proofs.Common.{◌≡◌, ◌≢◌, ℕ, zero, suc, ◌+◌, ◌-◌, ◌*◌, ◌/◌, ◌^◌, ◌<◌, ◌≤◌, inl, inr, List, [], ◌∷◌, ◌++◌, refl, sym, ◌∙◌}
use Rattle.std.proofs.Common.{ap, subst, length, take, arith, get_or, lit<, append_assoc, length-append, max, Option, Some, None}
use Rattle.std.specs.Prelude.{IfSome}
use Rattle.std.proofs.lemmas.Bool.{cases_lt}
use Rattle.std.proofs.lemmas.List.{append-nil, take_more, take_all, length-map, length-take-le, map-append}
use Rattle.std.proofs.Math.Nat.{dvd-mul_left, div-mul_cancel, pow-le-pow_right}
use Rattle.std.specs.Int.{◌∣◌}
use Rattle.std.specs.Char.{IsAsciiDigit}
use Rattle.fixed_decimal.specs.Digits.{AreDigits, value_of, text_of}
use Rattle.fixed_decimal.specs.Places.{Places, IsWritten, IsWithinLimit}
use Rattle.fixed_decimal.specs.Written.{CompactNumber, WritesCompact, IsCompactOverLimit, OneCompact, sign_text}
use Rattle.fixed_decimal.specs.declared.sign.Sign.{Sign}
use Rattle.fixed_decimal.specs.declared.sign.Sign.TheVariants as sign
use Rattle.plural_operands.specs.Operands.{Operands, HasFraction, AreKept, of_whole}
use Rattle.plural_operands.specs.Inner.ShortTexts.{AreDigitsAlone, AreDigitsOf, HasFront, IsTrimmedAt, HasFractionFront, ArePlain, HasPlain, IsShortExponent}
use Rattle.plural_operands.specs.OperandText.{WritesInteger}
use Rattle.plural_operands.specs.Inner.ShortTexts.{WritesShort, WritesShortSigned}
use Rattle.plural_operands.proofs.numbers.Numbers.{value_of-append, value_of-below, AreDigits-append}
use Rattle.plural_operands.proofs.numbers.Conversion.{no_fewer, one_zero_less, quotient}
use Rattle.plural_operands.proofs.numbers.Fractions.{kept_whole-short}

-- ---- digits one after the other

-- no digits write 0
pub no_digits : AreDigitsOf [] 0
no_digits = record { ds = []; digits = tt; spelled = refl; value = refl }

-- one more digit
pub one_digit_more : (text : List ℕ) (k n m : ℕ) → k < length text → AreDigitsOf (take k text) n → IsAsciiDigit (get_or text k 0)
    → m ≡ n * 10 + (get_or text k 0 - 48) → AreDigitsOf (take (k + 1) text) m
one_digit_more text k n m within so_far digit value =
    let b : ℕ = get_or text k 0 in
    let byte : b ≡ 48 + (b - 48) = omega (arith, digit) in
    let last : value_of (so_far.ds ++ (b - 48) ∷ []) ≡ value_of so_far.ds * 10 + (b - 48)
    = value_of-append so_far.ds ((b - 48) ∷ []) ∙ omega arith in
    record {
      ds = so_far.ds ++ (b - 48) ∷ [];
      digits = AreDigits-append so_far.ds ((b - 48) ∷ []) so_far.digits (omega (arith, digit), tt);
      spelled = take_more text k 0 within ∙ ap (λ l. l ++ b ∷ []) so_far.spelled ∙ ap (λ c. text_of so_far.ds ++ c ∷ []) byte
          ∙ sym (map-append (λ e. 48 + e) so_far.ds ((b - 48) ∷ []));
      value = value ∙ ap (λ v. v * 10 + (b - 48)) so_far.value ∙ sym last;
    }

-- there are as many digits as bytes
pub length_digits : (text : List ℕ) (n : ℕ) (h : AreDigitsOf text n) → length h.ds ≡ length text
length_digits text n h = sym (ap length h.spelled ∙ length-map h.ds (λ d. 48 + d))

-- what fewer than 18 digits write leaves room for another digit
pub leaves_room : (text : List ℕ) (k n : ℕ) → k ≤ length text → k < 18 → AreDigitsOf (take k text) n → n * 10 + 9 < 10 ^ 18
leaves_room text k n within few h =
    let size : length h.ds ≡ k = length_digits (take k text) n h ∙ length-take-le k text within in
    let small : n < 10 ^ length h.ds = subst (λ v. v < 10 ^ length h.ds) (sym h.value) (value_of-below h.ds h.digits) in
    let few_digits : length h.ds ≤ 17 = omega arith in
    let most : 10 ^ length h.ds ≤ 10 ^ 17 = pow-le-pow_right (lit< tt) few_digits in
    omega arith

-- a digit at each place
at_place : (ds : List ℕ) (k : ℕ) → AreDigits ds → k < length ds → IsAsciiDigit (get_or (text_of ds) k 0)
at_place [] k h within = absurd (omega (arith, within))
at_place (d ∷ ds) zero h within = let small : d < 10 = h.0 in omega arith
at_place (d ∷ ds) (suc k) h within = at_place ds k h.1 (omega (arith, within))

pub digit_at_place : (text : List ℕ) (k : ℕ) → AreDigitsAlone text → k < length text → IsAsciiDigit (get_or text k 0)
digit_at_place text k h within =
    let size : length text ≡ length h.0 = ap length h.2 ∙ length-map h.0 (λ d. 48 + d) in
    subst (λ (l : List ℕ). IsAsciiDigit (get_or l k 0)) (sym h.2) (at_place h.0 k h.1 (omega arith))

-- ---- the last digit that isn't 0

-- no digits have none
pub no_places : IsTrimmedAt 0 0 0 0
no_places = record { within = omega arith; scaled = refl; last = inl refl }

-- the least count of digits that are left, and what they write
pub trimmed_if_least : (places number w t : ℕ) → 10 ^ (places - w) ∣ number * 10 ^ 0
    → ((k : ℕ) → 10 ^ (places - k) ∣ number * 10 ^ 0 → w ≤ k) → t ≡ number * 10 ^ 0 / 10 ^ (places - w) → IsTrimmedAt places number w t
trimmed_if_least places number w t divides least value =
    let same : number * 10 ^ 0 ≡ number = omega arith in
    let none : 0 ≡ places - places = omega arith in
    let within : w ≤ places = least places (subst (λ (k : ℕ). 10 ^ k ∣ number * 10 ^ 0) none (dvd-mul_left (10 ^ 0) number)) in
    let scaled : number * 10 ^ 0 ≡ t * 10 ^ (places - w)
    = sym (ap (λ q. q * 10 ^ (places - w)) value ∙ div-mul_cancel (10 ^ (places - w)) divides) in
    record {
      within = within;
      scaled = sym same ∙ scaled;
      last = elim (cases_lt 0 w) [
        | inl some ↦ inr (λ zero.
            let shorter : number * 10 ^ 0 ≡ t / 10 * 10 ^ (places - (w - 1)) = one_zero_less t places w _ some within scaled zero in
            let fewer : w ≤ w - 1
            = least (w - 1) (subst (λ (n : ℕ). 10 ^ (places - (w - 1)) ∣ n) (sym shorter) (dvd-mul_left (10 ^ (places - (w - 1))) (t / 10))) in
            omega arith)
        | inr none ↦ inl (omega arith)
      ];
    }

-- the operands of a fraction whose last digit that isn't 0 is known
pub has_fraction : (o : Operands) (shown written : ℕ) → o.v ≡ shown → o.f ≡ written → IsTrimmedAt shown written o.w o.t
    → HasFraction o shown written
has_fraction o shown written v f h = record {
  v = v;
  f = f;
  w_divides = subst (λ (n : ℕ). 10 ^ (shown - o.w) ∣ n) (sym h.scaled) (dvd-mul_left (10 ^ (shown - o.w)) o.t);
  w_least = λ k d. elim (h.last) [
    | inl none ↦ omega arith
    | inr last ↦ no_fewer o.t shown o.w written h.within h.scaled last k d
  ];
  t = quotient o.t shown o.w written h.scaled;
}

-- ---- the number at the front

-- how many bytes are at the front
pub front_size : (text front rest : List ℕ) → text ≡ front ++ rest → length text - length rest ≡ length front
front_size text front rest e =
    let size : length text ≡ length front + length rest = ap length e ∙ length-append front rest in
    omega arith

-- digits without a point
pub whole_plain : (text rest : List ℕ) (n whole : ℕ) (o : Operands) → HasFront text n rest → whole ≡ length text - length rest → 0 < whole
    → o ≡ of_whole n → HasPlain text o whole rest
whole_plain text rest n whole o h e some same =
    let ds : List ℕ = h.digits.ds in
    let size : length ds ≡ length h.front = length_digits h.front n h.digits in
    let all : length text - length rest ≡ length h.front = front_size text h.front rest h.spelled in
    let few : length h.front ≤ 18 = h.few in
    let x : Places = record { whole = ds; fraction = [] } in
    let written : IsWritten x = record { nonempty = omega arith; whole = h.digits.digits; fraction = tt } in
    let plain : ArePlain x whole (of_whole n)
    = record {
      written = written;
      places = omega arith;
      few = omega arith;
      shown = refl;
      few_shown = omega arith;
      i = h.digits.value;
      f = refl;
      trimmed = no_places;
      c = refl;
    } in
    record {
      x = x;
      plain = subst (λ (p : Operands). ArePlain x whole p) (sym same) plain;
      front = h.front;
      written = record { digits = written; form = inl (refl, h.digits.spelled) };
      spelled = h.spelled;
    }

-- digits, a point, and digits behind it
pointed_at : (text front rest ds fs : List ℕ) (whole : ℕ) (o : Operands) → AreDigits ds → AreDigits fs → length ds ≤ 18 → length fs ≤ 18
    → o.v ≡ length fs → o.v ≢ 0 → front ≡ text_of ds ++ 46 ∷ text_of fs → text ≡ front ++ rest → whole ≡ max (length ds) 1
    → o.i ≡ value_of ds → o.f ≡ value_of fs → IsTrimmedAt o.v o.f o.w o.t → o.c ≡ 0 → HasPlain text o whole rest
pointed_at text front rest [] fs whole o h k few short v some e spelled places i f trimmed c =
    let x : Places = record { whole = 0 ∷ []; fraction = fs } in
    let written : IsWritten x = record { nonempty = lit< tt; whole = (lit< tt, tt); fraction = k } in
    let one : whole ≡ 1 = omega (arith, places) in
    record {
      x = x;
      plain = record {
        written = written;
        places = sym one;
        few = omega arith;
        shown = v;
        few_shown = omega arith;
        i = i;
        f = f;
        trimmed = trimmed;
        c = c;
      };
      front = front;
      written = record { digits = written; form = inr (inr (omega arith, refl, e)) };
      spelled = spelled;
    }
pointed_at text front rest (d ∷ ds) fs whole o h k few short v some e spelled places i f trimmed c =
    let x : Places = record { whole = d ∷ ds; fraction = fs } in
    let written : IsWritten x = record { nonempty = omega arith; whole = h; fraction = k } in
    let same : whole ≡ length (d ∷ ds) = omega (arith, places) in
    record {
      x = x;
      plain = record {
        written = written;
        places = sym same;
        few = omega (arith, few);
        shown = v;
        few_shown = omega arith;
        i = i;
        f = f;
        trimmed = trimmed;
        c = c;
      };
      front = front;
      written = record {
        digits = written;
        form = inr (inl (omega arith, e ∙ sym (append_assoc (text_of (d ∷ ds)) (46 ∷ []) (text_of fs))));
      };
      spelled = spelled;
    }

pub pointed_plain : (text rest after more : List ℕ) (n whole : ℕ) (o : Operands) → HasFront text n rest → rest ≡ 46 ∷ after
    → HasFractionFront after o more → o.i ≡ n → o.c ≡ 0 → o.v ≢ 0 → whole ≡ max (length text - length rest) 1
    → HasPlain text o whole more
pointed_plain text rest after more n whole o h point f i c some places =
    let size : length h.digits.ds ≡ length h.front = length_digits h.front n h.digits in
    let few : length h.front ≤ 18 = h.few in
    let fraction_size : length f.digits.ds ≡ length f.front = length_digits f.front o.f f.digits in
    let fraction_few : length f.front ≤ 18 = f.few in
    let all : length text - length rest ≡ length h.digits.ds = front_size text h.front rest h.spelled ∙ sym size in
    pointed_at text (h.front ++ 46 ∷ f.front) more h.digits.ds f.digits.ds whole o h.digits.digits f.digits.digits (omega arith) (omega arith)
    (f.shown ∙ sym fraction_size) some
    (ap (λ l. l ++ 46 ∷ f.front) h.digits.spelled ∙ ap (λ l. text_of h.digits.ds ++ 46 ∷ l) f.digits.spelled)
    (h.spelled ∙ ap (λ l. h.front ++ l) (point ∙ ap (λ l. 46 ∷ l) f.spelled) ∙ sym (append_assoc h.front (46 ∷ f.front) more))
    (places ∙ ap (λ k. max k 1) all) (i ∙ h.digits.value) f.digits.value f.trimmed c

-- nothing is left
pub nothing_left : (rest : List ℕ) → length rest < 1 → rest ≡ []
nothing_left [] h = refl
nothing_left (b ∷ bytes) h = absurd (omega (arith, h))

-- ---- the exponent

-- one digit
one_digit_exponent : (text : List ℕ) (d : ℕ) → length text ≡ 1 → get_or text 0 0 ≡ 48 + d → d < 10 → IsShortExponent text d
one_digit_exponent [] d size e small = absurd (omega (arith, size))
one_digit_exponent (b ∷ []) d size e small = record {
  digits = record { ds = d ∷ []; digits = (small, tt); spelled = ap (λ c. c ∷ []) e; value = omega arith };
  some = omega arith;
  few = omega arith;
}
one_digit_exponent (b ∷ c ∷ text) d size e small = absurd (omega (arith, size))

-- the same if it is one
pub one_if_digit : (text : List ℕ) (r : Option ℕ) → length text ≡ 1 → IfSome r (λ d. (get_or text 0 0 ≡ 48 + d) × (d < 10))
    → IfSome r (λ e. IsShortExponent text e)
one_if_digit text None size h = tt
one_if_digit text (Some d) size h = one_digit_exponent text d size h.0 h.1

-- two digits
pub two_digit_exponent : (text : List ℕ) (n m : ℕ) → length text ≡ 2 → get_or text 0 0 ≡ 48 + n → n < 10 → get_or text 1 0 ≡ 48 + m
    → m < 10 → IsShortExponent text (n * 10 + m)
two_digit_exponent [] n m size d few e small = absurd (omega (arith, size))
two_digit_exponent (a ∷ []) n m size d few e small = absurd (omega (arith, size))
two_digit_exponent (a ∷ b ∷ []) n m size d few e small = record {
  digits = record {
    ds = n ∷ m ∷ [];
    digits = (few, (small, tt));
    spelled = ap (λ c. c ∷ b ∷ []) d ∙ ap (λ c. (48 + n) ∷ c ∷ []) e;
    value = omega arith;
  };
  some = omega arith;
  few = omega arith;
}
two_digit_exponent (a ∷ b ∷ c ∷ text) n m size d few e small = absurd (omega (arith, size))

-- ---- the whole text

-- no exponent
pub without_exponent : (text rest : List ℕ) (whole : ℕ) (o : Operands) → HasPlain text o whole rest → rest ≡ [] → WritesShort text o
without_exponent text rest whole o h end =
    let few : whole ≤ 18 = h.plain.few in
    let short : length h.x.whole ≤ 18 = omega (arith, h.plain.places) in
    let shown : length h.x.fraction ≤ 18 = omega (arith, h.plain.shown, h.plain.few_shown) in
    let trimmed : IsTrimmedAt (length h.x.fraction) (value_of h.x.fraction) o.w o.t
    = subst (λ (n : ℕ). IsTrimmedAt n (value_of h.x.fraction) o.w o.t) h.plain.shown
    (subst (λ (m : ℕ). IsTrimmedAt o.v m o.w o.t) h.plain.f h.plain.trimmed) in
    record {
      x = h.x;
      front = h.front;
      written = h.written;
      whole = short;
      fraction = shown;
      exponent = 0;
      behind = rest;
      has_exponent = inl (end, refl);
      small = omega arith;
      spelled = h.spelled;
      kept = record {
        i = h.plain.i ∙ sym (kept_whole-short h.x.whole short);
        fraction = subst (λ (l : List ℕ). HasFraction o (length l) (value_of l)) (sym (take_all 18 h.x.fraction shown))
            (has_fraction o (length h.x.fraction) (value_of h.x.fraction) h.plain.shown h.plain.f trimmed);
        c = h.plain.c;
      };
    }

-- an exponent of one or two digits
with_exponent : (text rest more : List ℕ) (whole e : ℕ) (digits o : Operands) → HasPlain text digits whole rest → rest ≡ 99 ∷ more
    → IsShortExponent more e → ((x : Places) → ArePlain x whole digits → AreKept x e o) → WritesShort text o
with_exponent text rest more whole e digits o h letter exponent kept =
    let few : whole ≤ 18 = h.plain.few in
    let some : 1 ≤ length more = exponent.some in
    let two : length more ≤ 2 = exponent.few in
    let ds : List ℕ = exponent.digits.ds in
    let size : length ds ≡ length more = length_digits more e exponent.digits in
    let below : value_of ds < 10 ^ length ds = value_of-below ds exponent.digits.digits in
    let value : e ≡ value_of ds = exponent.digits.value in
    let short : length ds ≤ 2 = omega arith in
    let hundred : 10 ^ length ds ≤ 10 ^ 2 = pow-le-pow_right (lit< tt) short in
    record {
      x = h.x;
      front = h.front;
      written = h.written;
      whole = omega (arith, h.plain.places);
      fraction = omega (arith, h.plain.shown, h.plain.few_shown);
      exponent = e;
      behind = rest;
      has_exponent = inr (
        ds,
        record {
          digits = exponent.digits.digits;
          least = omega arith;
          most = omega arith;
          value = value;
          form = letter ∙ ap (λ l. 99 ∷ l) exponent.digits.spelled;
        },
      );
      small = omega arith;
      spelled = h.spelled;
      kept = kept h.x h.plain;
    }

-- ... if it isn't too large
pub with_exponent_if_kept : (text rest more : List ℕ) (whole e : ℕ) (digits : Operands) (r : Option Operands) → HasPlain text digits whole rest
    → rest ≡ 99 ∷ more → IsShortExponent more e → IfSome r (λ o. (x : Places) → ArePlain x whole digits → AreKept x e o)
    → IfSome r (λ o. WritesShort text o)
with_exponent_if_kept text rest more whole e digits None h letter exponent kept = tt
with_exponent_if_kept text rest more whole e digits (Some o) h letter exponent kept
    = with_exponent text rest more whole e digits o h letter exponent kept

-- after a sign or none
pub signed_if_read : (text unsigned : List ℕ) (r : Option Operands) → (s : Sign) × (text ≡ sign_text s ++ unsigned)
    → IfSome r (λ o. WritesShort unsigned o) → IfSome r (λ o. WritesShortSigned text o)
signed_if_read text unsigned None s h = tt
signed_if_read text unsigned (Some o) s h = record { sign = s.0; unsigned = unsigned; short = h; spelled = s.1 }

-- ---- digits alone

-- the integer that they write
pub integer_alone : (text rest : List ℕ) (n : ℕ) → HasFront text n rest → rest ≡ [] → 0 < length text → WritesInteger text n
integer_alone text rest n h end some =
    let all : text ≡ h.front = h.spelled ∙ ap (λ l. h.front ++ l) end ∙ append-nil h.front in
    let size : length h.digits.ds ≡ length h.front = length_digits h.front n h.digits in
    record {
      ds = h.digits.ds;
      digits = h.digits.digits;
      some = omega (arith, ap length all);
      few = subst (λ k. k ≤ 18) (sym size) h.few;
      spelled = all ∙ h.digits.spelled;
      value = h.digits.value;
    }

-- as a short number
pub integer_is_short : (text rest : List ℕ) (n : ℕ) → HasFront text n rest → rest ≡ [] → 0 < length text → WritesShortSigned text (of_whole n)
integer_is_short text rest n h end some =
    let size : length rest ≡ 0 = ap length end in
    let whole = whole_plain text rest n (length text) (of_whole n) h (omega arith) some refl in
    record { sign = sign.None; unsigned = text; short = without_exponent text rest (length text) (of_whole n) whole end; spelled = refl }

-- a text that writes an integer is digits alone
pub digits_of_integer : (text : List ℕ) (n : ℕ) → WritesInteger text n → AreDigitsAlone text × (0 < length text) × (length text ≤ 18)
digits_of_integer text n h =
    let size : length text ≡ length h.ds = ap length h.spelled ∙ length-map h.ds (λ d. 48 + d) in
    let few : length h.ds ≤ 18 = h.few in
    let some : 0 < length h.ds = h.some in
    ((h.ds, h.digits, h.spelled), omega arith, omega arith)

-- ---- as a compact decimal

-- the number that a short text writes
unfoldable pub short_number : (text : List ℕ) (o : Operands) → WritesShortSigned text o → CompactNumber
short_number text o h = record { significand = record { sign = h.sign; absolute = h.short.x }; exponent = h.short.exponent }

-- it writes the number
pub short_writes : (text : List ℕ) (o : Operands) (h : WritesShortSigned text o) → WritesCompact text (short_number text o h)
unfolding short_number
short_writes text o h = (
  sign_text h.sign ++ h.short.front,
  h.short.behind,
  (h.short.front, h.short.written, refl),
  h.short.has_exponent,
  h.spelled ∙ ap (λ l. sign_text h.sign ++ l) h.short.spelled ∙ sym (append_assoc (sign_text h.sign) h.short.front h.short.behind),
)

-- within the limits
pub short_limit : (text : List ℕ) (o : Operands) (h : WritesShortSigned text o)
    → IsWithinLimit (short_number text o h).significand.absolute
unfolding short_number
short_limit text o h =
    let whole : length h.short.x.whole ≤ 18 = h.short.whole in
    let fraction : length h.short.x.fraction ≤ 18 = h.short.fraction in
    record { whole = omega arith; fraction = omega arith }

pub short_exponent : (text : List ℕ) (o : Operands) (h : WritesShortSigned text o) → (short_number text o h).exponent ≤ 255
unfolding short_number
short_exponent text o h = let small : h.short.exponent < 100 = h.short.small in omega arith

-- of which the operands are
pub short_kept : (text : List ℕ) (o : Operands) (h : WritesShortSigned text o)
    → AreKept (short_number text o h).significand.absolute (short_number text o h).exponent o
unfolding short_number
short_kept text o h = h.short.kept

-- so it isn't over them
pub short_within : (text : List ℕ) (o : Operands) → OneCompact → WritesShortSigned text o
    → ¬ ((y : CompactNumber) × WritesCompact text y × IsCompactOverLimit y)
unfolding short_number
short_within text o one h over =
    let whole : length h.short.x.whole ≤ 18 = h.short.whole in
    let fraction : length h.short.x.fraction ≤ 18 = h.short.fraction in
    let small : h.short.exponent < 100 = h.short.small in
    let same : over.0 ≡ short_number text o h = one text over.0 (short_number text o h) over.1 (short_writes text o h) in
    let large : IsCompactOverLimit (short_number text o h) = subst IsCompactOverLimit same over.2 in
    elim large [
      | inl places ↦ elim places [ inl long ↦ omega arith | inr long ↦ omega arith ]
      | inr exponent ↦ omega arith
    ]
