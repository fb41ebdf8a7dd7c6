-- The text of a step is that of a number, whose operands come from its parts.
use Rattle.std.proofs.Common.{◌≡◌, ℕ, zero, suc, ◌+◌, ◌*◌, ◌/◌, ◌%◌, ◌^◌, ◌<◌, ◌≤◌, inl, inr, List, [], ◌∷◌, ◌++◌, refl, sym, ◌∙◌}
use Rattle.std.proofs.Common.{ap, subst, length, take, drop, leb, ◌-◌, arith, length-append, append_assoc, append-nil, codes}
use Rattle.std.proofs.lemmas.Bool.{le-leb, cond-true}
use Rattle.std.proofs.lemmas.Fmt.{decimal_by_steps_wide, length-decimal-le_wide}
use Rattle.std.proofs.lemmas.List.{map-append, take_all, length-map}
use Rattle.std.proofs.lemmas.Nat.{div-add-mod', mod_below, mod-mul-add, div-mul-add}
use Rattle.std.proofs.Math.Nat.{pow-suc}
use Rattle.std.specs.Fmt.{decimal}
use Rattle.std.specs.Int.{◌∣◌}
use Rattle.icu_plurals.specs.Digits.{value_of, text_of, AreDigits}
use Rattle.icu_plurals.specs.Operands.{Operands, HasFraction, kept_whole}
use Rattle.icu_plurals.specs.Places.{Places, IsWritten}
use Rattle.icu_plurals.specs.Written.{StandsAs}
use Rattle.icu_plurals.specs.declared.Sign.TheVariants as sign
use Rattle.plural_checker.specs.SampleNumbers.{parts_text, point_at, number_text}
use Rattle.plural_checker.specs.Inner.ShortNumbers.{WritesShortNumber}

-- one digit more
value_of-last : (ds : List ℕ) (d : ℕ) → value_of (ds ++ d ∷ []) ≡ value_of ds * 10 + d
value_of-last [] d = omega arith
value_of-last (x ∷ xs) d =
    let l : length (xs ++ d ∷ []) ≡ suc (length xs) = length-append xs (d ∷ []) ∙ omega arith in
    let p : 10 ^ length (xs ++ d ∷ []) ≡ 10 ^ length xs * 10 = ap (λ n. 10 ^ n) l ∙ pow-suc 10 (length xs) in
    regroup x (10 ^ length (xs ++ d ∷ [])) (10 ^ length xs) (value_of xs) d _ p (value_of-last xs d)
  where
    regroup : (x q p v d w : ℕ) → q ≡ p * 10 → w ≡ v * 10 + d → x * q + w ≡ (x * p + v) * 10 + d
    regroup x q p v d w e f = rw e (omega arith)

-- digits and one more are digits
AreDigits-last : (ds : List ℕ) (d : ℕ) → AreDigits ds → d < 10 → AreDigits (ds ++ d ∷ [])
AreDigits-last [] d h k = (k, tt)
AreDigits-last (x ∷ xs) d h k = (h.0, AreDigits-last xs d h.1 k)

-- their text
text_of-last : (ds : List ℕ) (d : ℕ) → text_of (ds ++ d ∷ []) ≡ text_of ds ++ (48 + d) ∷ []
text_of-last ds d = map-append _ ds (d ∷ [])

-- they are some
some_last : (ds : List ℕ) (d : ℕ) → 0 < length (ds ++ d ∷ [])
some_last ds d = omega (arith, length-append ds (d ∷ []))

-- ---- whole numbers

-- the text is digits, of which there are some, and which write the number
record Spells (n : ℕ) (text : List ℕ) : Type 0 where
  ds : List ℕ
  digits : AreDigits ds
  some : 0 < length ds
  spelled : text ≡ text_of ds
  value : value_of ds ≡ n

one_digit : (n : ℕ) → n < 10 → Spells n ((48 + n) ∷ [])
one_digit n h = record { ds = n ∷ []; digits = (h, tt); some = omega arith; spelled = refl; value = omega arith }

more_digits : (n : ℕ) (text : List ℕ) → 10 ≤ n → Spells (n / 10) text → Spells n (text ++ (48 + n % 10) ∷ [])
more_digits n text h t = record {
  ds = t.ds ++ n % 10 ∷ [];
  digits = AreDigits-last t.ds (n % 10) t.digits (mod_below n 10 (omega arith));
  some = some_last t.ds (n % 10);
  spelled = ap (λ front. front ++ (48 + n % 10) ∷ []) t.spelled ∙ sym (text_of-last t.ds (n % 10));
  value = value_of-last t.ds (n % 10) ∙ ap (λ v. v * 10 + n % 10) t.value ∙ div-add-mod' n 10;
}

spells : (n : ℕ) → n < 10 ^ 64 → Spells n (decimal n)
spells n h = decimal_by_steps_wide Spells one_digit more_digits n h

-- ---- steps

-- the point and the digits after it
abbrev shown_text : List ℕ → List ℕ
shown_text [] = []
shown_text (d ∷ ds) = codes "." ++ text_of (d ∷ ds)

-- with one digit more
shown_text-last : (f : List ℕ) (d : ℕ) → (shown_text f ++ point_at (length f)) ++ (48 + d) ∷ [] ≡ shown_text (f ++ d ∷ [])
shown_text-last [] d = refl
shown_text-last (x ∷ xs) d =
    ap (λ t. t ++ (48 + d) ∷ []) (append-nil (46 ∷ text_of (x ∷ xs))) ∙ ap (λ t. 46 ∷ t) (sym (text_of-last (x ∷ xs) d))

-- the digits on both sides are those of this many parts, and their text
record IsStep (places parts : ℕ) (text : List ℕ) : Type 0 where
  whole : List ℕ
  fraction : List ℕ
  some : 0 < length whole
  few : length whole ≤ 18
  digits : AreDigits whole
  fraction_digits : AreDigits fraction
  shown : length fraction ≡ places
  spelled : text ≡ text_of whole ++ shown_text fraction
  value : parts ≡ value_of whole * 10 ^ places + value_of fraction
  below : value_of fraction < 10 ^ places

-- no fraction digit
whole_step : (parts : ℕ) → parts < 10 ^ 18 → IsStep 0 parts (decimal parts)
whole_step parts h =
    let wide : parts < 10 ^ 64 = omega arith in
    let s : Spells parts (decimal parts) = spells parts wide in
    let l : length (decimal parts) ≤ 18 = length-decimal-le_wide 18 parts (omega arith) h wide in
    let m : length (decimal parts) ≡ length s.ds = ap length s.spelled ∙ length-map s.ds _ in
    let v : value_of s.ds ≡ parts = s.value in
    record {
      whole = s.ds;
      fraction = [];
      some = s.some;
      few = omega arith;
      digits = s.digits;
      fraction_digits = tt;
      shown = refl;
      spelled = s.spelled ∙ sym (append-nil (text_of s.ds));
      value = omega arith;
      below = omega arith;
    }

-- one more
longer_step : (places parts : ℕ) (text : List ℕ) → IsStep places (parts / 10) text
    → IsStep (suc places) parts ((text ++ point_at places) ++ (48 + parts % 10) ∷ [])
longer_step places parts text s =
    let d : ℕ = parts % 10 in
    let small : d < 10 = mod_below parts 10 (omega arith) in
    let all : parts / 10 * 10 + d ≡ parts = div-add-mod' parts 10 in
    let last : value_of (s.fraction ++ d ∷ []) ≡ value_of s.fraction * 10 + d = value_of-last s.fraction d in
    let power : 10 ^ suc places ≡ 10 ^ places * 10 = pow-suc 10 places in
    record {
      whole = s.whole;
      fraction = s.fraction ++ d ∷ [];
      some = s.some;
      few = s.few;
      digits = s.digits;
      fraction_digits = AreDigits-last s.fraction d s.fraction_digits small;
      shown = length-append s.fraction (d ∷ []) ∙ ap (λ n. n + 1) s.shown ∙ omega arith;
      spelled = spelled text s.whole s.fraction places d s.shown s.spelled;
      value = value (value_of s.whole) (10 ^ places) (10 ^ suc places) (value_of s.fraction) _ d parts (parts / 10) power s.value last all;
      below = below (10 ^ places) (10 ^ suc places) (value_of s.fraction) _ d power s.below last small;
    }
  where
    spelled : (text w f : List ℕ) (places d : ℕ) → length f ≡ places → text ≡ text_of w ++ shown_text f
        → (text ++ point_at places) ++ (48 + d) ∷ [] ≡ text_of w ++ shown_text (f ++ d ∷ [])
    spelled text w f places d e h =
        ap (λ t. (t ++ point_at places) ++ (48 + d) ∷ []) h
        ∙ ap (λ n. ((text_of w ++ shown_text f) ++ point_at n) ++ (48 + d) ∷ []) (sym e)
        ∙ ap (λ t. t ++ (48 + d) ∷ []) (append_assoc (text_of w) (shown_text f) (point_at (length f)))
        ∙ append_assoc (text_of w) (shown_text f ++ point_at (length f)) ((48 + d) ∷ [])
        ∙ ap (λ t. text_of w ++ t) (shown_text-last f d)

    value : (v p q f g d parts tenth : ℕ) → q ≡ p * 10 → tenth ≡ v * p + f → g ≡ f * 10 + d → tenth * 10 + d ≡ parts
        → parts ≡ v * q + g
    value v p q f g d parts tenth e h k all = sym all ∙ rw (e, h, k) (omega arith)

    below : (p q f g d : ℕ) → q ≡ p * 10 → f < p → g ≡ f * 10 + d → d < 10 → g < q
    below p q f g d e h k small = omega arith

-- each number of parts, with each count of places
step : (places parts : ℕ) → parts < 10 ^ 18 → IsStep places parts (parts_text places parts)
step zero parts h = whole_step parts h
step (suc places) parts h = longer_step places parts (parts_text places (parts / 10)) (step places (parts / 10) (tenth parts h))
  where
    tenth : (n : ℕ) → n < 10 ^ 18 → n / 10 < 10 ^ 18
    tenth n h = omega arith

-- ---- the number of a step

-- the form of its text
form : (w f : List ℕ) → StandsAs (text_of w ++ shown_text f) (record { whole = w; fraction = f })
form w [] = inl (refl, append-nil (text_of w))
form w (d ∷ ds) = inr (inl (omega arith, sym (append_assoc (text_of w) (codes ".") (text_of (d ∷ ds)))))

-- at most 18 integer digits are kept as they are
kept_whole-short : (ds : List ℕ) → length ds ≤ 18 → kept_whole ds ≡ value_of ds
kept_whole-short ds h
    = cond-true (leb (length ds) 18) (value_of ds) (value_of (drop (length ds - 18) ds) + 10 ^ 18) (le-leb (length ds) 18 h)

-- the text of a step writes a short number, whose operands are made of its parts
writes_step : (places parts : ℕ) (o : Operands) → places ≤ 18 → parts < 10 ^ 18
    → o.i ≡ parts / 10 ^ places → HasFraction o places (parts % 10 ^ places) → o.c ≡ 0
    → WritesShortNumber (number_text places parts 0) o
writes_step places parts o short below i fraction c =
    let s : IsStep places parts (parts_text places parts) = step places parts below in
    let x : Places = record { whole = s.whole; fraction = s.fraction } in
    let shown : length s.fraction ≡ places = s.shown in
    let few : length s.whole ≤ 18 = s.few in
    let written : IsWritten x = record { nonempty = s.some; whole = s.digits; fraction = s.fraction_digits } in
    let stands : StandsAs (parts_text places parts) x = subst (λ (t : List ℕ). StandsAs t x) (sym s.spelled) (form s.whole s.fraction) in
    let all : take 18 s.fraction ≡ s.fraction = take_all 18 s.fraction (omega arith) in
    let quotient : parts / 10 ^ places ≡ value_of s.whole
    = ap (λ n. n / 10 ^ places) s.value ∙ div-mul-add (value_of s.whole) (10 ^ places) (value_of s.fraction) s.below in
    let rest : parts % 10 ^ places ≡ value_of s.fraction
    = ap (λ n. n % 10 ^ places) s.value ∙ mod-mul-add (value_of s.whole) (10 ^ places) (value_of s.fraction) s.below in
    record {
      number = record { significand = record { sign = sign.None; absolute = x }; exponent = 0 };
      given = (
        (parts_text places parts, [], (parts_text places parts, record { digits = written; form = stands }, refl), inl (refl, refl), refl),
        record { whole = omega arith; fraction = omega arith },
        omega arith,
      );
      written = written;
      no_exponent = refl;
      whole = few;
      fraction = omega arith;
      kept = record {
        i = i ∙ quotient ∙ sym (kept_whole-short s.whole few);
        fraction = subst (λ (ds : List ℕ). HasFraction o (length ds) (value_of ds)) (sym all)
            (subst (λ (n : ℕ). HasFraction o n (value_of s.fraction)) (sym shown)
            (subst (λ (f : ℕ). HasFraction o places f) rest fraction));
        c = c;
      };
    }

-- So do the operands that are computed of them.
pub writes_computed : (places parts unit w t : ℕ) (o : Operands) → places ≤ 18 → parts < 10 ^ 18 → unit ≡ 10 ^ places
    → o ≡ record { i = parts / unit; v = places; w = w; f = parts % unit; t = t; c = 0 }
    → 10 ^ (places - w) ∣ parts % unit → ((k : ℕ) → 10 ^ (places - k) ∣ parts % unit → w ≤ k)
    → t ≡ parts % unit / 10 ^ (places - w) → WritesShortNumber (number_text places parts 0) o
writes_computed places parts unit w t o short below power e divides least trimmed =
    let made : Operands = record { i = parts / unit; v = places; w = w; f = parts % unit; t = t; c = 0 } in
    subst (λ (p : Operands). WritesShortNumber (number_text places parts 0) p) (sym e)
    (writes_step places parts made short below (ap (λ u. parts / u) power)
    (subst (λ (u : ℕ). HasFraction made places (parts % u)) power
    (record { v = refl; f = refl; w_divides = divides; w_least = least; t = trimmed })) refl)
