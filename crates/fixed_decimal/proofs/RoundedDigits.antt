-- The digits that a rounded number stores, and what they write.
use Rattle.std.proofs.Common.{◌≡◌, ◌≢◌, ℕ, zero, suc, ◌+◌, ◌-◌, ◌*◌, ◌%◌, ◌^◌, ◌<◌, ◌≤◌, Bool, true, false, inl, inr, List, [], ◌∷◌, ◌++◌}
use Rattle.std.proofs.Common.{if◌then◌else◌, nat_eq, min, refl, sym, ◌∙◌, ap, subst, length, take, drop, arith, get_or, replicate, length-append, length-drop}
use Rattle.std.proofs.lemmas.Bool.{cases_lt}
use Rattle.std.proofs.lemmas.Nat.{pow-add}
use Rattle.std.proofs.lemmas.List.{length-replicate, length-take-le, get_or-drop, get_or-take, take-append-drop, take-take, take_all}
use Rattle.std.proofs.Math.ListN.{drop_of_length-le}
use Rattle.std.proofs.Math.Nat.{pow-suc, one-le-pow, mul-le-mul_right, pow-le-pow_right}
use Rattle.std.proofs.Math.Seq.{drop-cons}
use Rattle.fixed_decimal.specs.Digits.{value_of, AreDigits}
use Rattle.fixed_decimal.specs.Rounding.{units_of}
use Rattle.fixed_decimal.specs.Inner.RoundingSteps.{IsRest, IsEndBefore, raised, rounded_digits, rounded_places}
use Rattle.fixed_decimal.specs.declared.rounding.Rest.{Rest}
use Rattle.fixed_decimal.specs.declared.rounding.Rest.TheVariants as rest
use Rattle.fixed_decimal.proofs.Spans.{padded, rest_zeros, spread, AreDigits-drop}
use Rattle.fixed_decimal.proofs.Values.{value_of-append, value_of-more, value_of-below}
use Rattle.fixed_decimal.proofs.Chosen.{IsRest-scaled, nothing_cut}

-- ---- runs of one digit

-- Zeros write 0.
pub value_of-zeros : (n : ℕ) → value_of (replicate n 0) ≡ 0
value_of-zeros zero = refl
value_of-zeros (suc n) = omega (arith, value_of-zeros n)

-- Nines write one less than a power of ten.
value_of-nines : (n : ℕ) → value_of (replicate n 9) + 1 ≡ 10 ^ n
value_of-nines zero = refl
value_of-nines (suc n) =
    let p : 10 ^ length (replicate {A = ℕ} n 9) ≡ 10 ^ n = ap (λ k. 10 ^ k) (length-replicate {A = ℕ} n 9) in
    omega (arith, value_of-nines n, pow-suc 10 n)

-- Zeros in front count nothing, and those behind count powers of ten.
value_of-padded : (n : ℕ) (s : List ℕ) (m : ℕ) → value_of (padded n s m) ≡ value_of s * 10 ^ m
value_of-padded n s m =
    let front : value_of (replicate n 0 ++ s) ≡ value_of s
    = value_of-append (replicate n 0) s ∙ ap (λ v. v * 10 ^ length s + value_of s) (value_of-zeros n) ∙ omega arith in
    value_of-append (replicate n 0 ++ s) (replicate m 0)
    ∙ ap (λ v. v * 10 ^ length (replicate {A = ℕ} m 0) + value_of (replicate m 0)) front
    ∙ ap (λ l. value_of s * 10 ^ l + value_of (replicate m 0)) (length-replicate {A = ℕ} m 0)
    ∙ ap (λ v. value_of s * 10 ^ m + v) (value_of-zeros m)
    ∙ omega arith

-- A span counts as many units of the last place as its zeros behind it say.
pub units_of-spread : (w f n : ℕ) (s : List ℕ) → units_of (spread w f n s) ≡ value_of s * 10 ^ rest_zeros w f n s
units_of-spread w f n s =
    ap value_of (take-append-drop w (padded n s (rest_zeros w f n s))) ∙ value_of-padded n s (rest_zeros w f n s)

-- Digits that are all the same are a run.
all_same : (d : ℕ) (ds : List ℕ) → ((k : ℕ) → k < length ds → get_or ds k 0 ≡ d) → ds ≡ replicate (length ds) d
all_same d [] h = refl
all_same d (x ∷ xs) h =
    let first : x ≡ d = h 0 (omega arith) in
    ap (λ y. y ∷ xs) first ∙ ap (λ ys. d ∷ ys) (all_same d xs (λ k inside. h (suc k) (omega arith)))

-- Digits up to an end, and a run.
ends_in : (ds : List ℕ) (d end : ℕ) → IsEndBefore ds d end → ds ≡ take end ds ++ replicate (length ds - end) d
ends_in ds d end h =
    let same : (k : ℕ) → k < length (drop end ds) → get_or (drop end ds) k 0 ≡ d
    = λ k inside. get_or-drop end ds k 0 ∙ h.run (end + k) (omega arith) (omega (arith, length-drop end ds)) in
    sym (take-append-drop end ds)
    ∙ ap (λ t. take end ds ++ t) (all_same d (drop end ds) same)
    ∙ ap (λ n. take end ds ++ replicate n d) (length-drop end ds)

-- what they write
value_of-run : (ds : List ℕ) (d end : ℕ) → IsEndBefore ds d end
    → value_of ds ≡ value_of (take end ds) * 10 ^ (length ds - end) + value_of (replicate (length ds - end) d)
value_of-run ds d end h =
    ap value_of (ends_in ds d end h)
    ∙ value_of-append (take end ds) (replicate (length ds - end) d)
    ∙ ap (λ l. value_of (take end ds) * 10 ^ l + value_of (replicate (length ds - end) d)) (length-replicate {A = ℕ} (length ds - end) d)

-- ... before zeros
before_zeros : (ds : List ℕ) (end : ℕ) → IsEndBefore ds 0 end → value_of ds ≡ value_of (take end ds) * 10 ^ (length ds - end)
before_zeros ds end h =
    value_of-run ds 0 end h
    ∙ ap (λ v. value_of (take end ds) * 10 ^ (length ds - end) + v) (value_of-zeros (length ds - end)) ∙ omega arith

-- ... and one more before nines
before_nines : (ds : List ℕ) (end : ℕ) → IsEndBefore ds 9 end
    → value_of ds + 1 ≡ (value_of (take end ds) + 1) * 10 ^ (length ds - end)
before_nines ds end h =
    let nines : value_of (replicate (length ds - end) 9) + 1 ≡ 10 ^ (length ds - end) = value_of-nines (length ds - end) in
    ap (λ v. v + 1) (value_of-run ds 9 end h) ∙ omega arith

-- ---- the last digit is one more

-- One more in the last digit is one more in all.
value_of-raised : (s : List ℕ) (i : ℕ) → i < length s → value_of (take i s ++ (get_or s i 0 + 1) ∷ []) ≡ value_of (take (i + 1) s) + 1
value_of-raised s i h =
    let e : value_of (take (i + 1) s) ≡ value_of (take i s) * 10 + get_or s i 0 = value_of-more s i h in
    value_of-append (take i s) ((get_or s i 0 + 1) ∷ []) ∙ omega arith

-- powers of ten one after the other
three_powers : (v a b c n : ℕ) → a + b + c ≡ n → v * 10 ^ a * 10 ^ b * 10 ^ c ≡ v * 10 ^ n
three_powers v a b c n e =
    let p : 10 ^ (a + b) ≡ 10 ^ a * 10 ^ b = pow-add 10 a b in
    let q : 10 ^ (a + b + c) ≡ 10 ^ (a + b) * 10 ^ c = pow-add 10 (a + b) c in
    let r : 10 ^ (a + b + c) ≡ 10 ^ n = ap (λ k. 10 ^ k) e in
    regroup v (10 ^ a) (10 ^ b) (10 ^ c) (10 ^ (a + b)) (10 ^ n) p (sym r ∙ q)
  where
    regroup : (v a b c d n : ℕ) → d ≡ a * b → n ≡ d * c → v * a * b * c ≡ v * n
    regroup v a b c d n e f = rw (f, e) (omega arith)

-- the digits before the end, of those that are kept
pub kept_end : (s : List ℕ) (kept d end : ℕ) → IsEndBefore (take kept s) d end
    → (end ≤ kept) × (end ≤ length s) × (take end (take kept s) ≡ take end s)
kept_end s kept d end h =
    let most : end ≤ length (take kept s) = h.most in
    elim (cases_lt kept (length s)) [
      | inl inside ↦
          (let l : length (take kept s) ≡ kept = length-take-le kept s (omega arith) in
          (omega arith, omega arith, take-take end kept s (omega arith)))
      | inr past ↦
          (let all : take kept s ≡ s = take_all kept s past in
          let l : length (take kept s) ≡ length s = ap length all in
          (omega arith, omega arith, ap (λ t. take end t) all))
    ]

-- how many are kept
length-kept : (s : List ℕ) (kept : ℕ) → length (take kept s) + (kept - length s) ≡ kept
length-kept s kept = elim (cases_lt kept (length s)) [
  | inl inside ↦ (let l : length (take kept s) ≡ kept = length-take-le kept s (omega arith) in omega arith)
  | inr past ↦ (let l : length (take kept s) ≡ length s = ap length (take_all kept s past) in omega arith)
]

-- No more digits are kept than there are.
pub take-min : (kept : ℕ) (s : List ℕ) (n : ℕ) → n ≡ min kept (length s) → take n s ≡ take kept s
take-min kept s n e = elim (cases_lt kept (length s)) [
  | inl inside ↦ (let e : n ≡ kept = omega arith in ap (λ k. take k s) e)
  | inr past ↦ (let all : length s ≤ n = omega arith in take_all n s all ∙ sym (take_all kept s past))
]

-- What is left of the digits where nothing goes up writes what was kept.
pub rounded_down : (s : List ℕ) (kept z end : ℕ) → IsEndBefore (take kept s) 0 end
    → value_of (take end s) * 10 ^ (rounded_places false end kept z - length (take end s))
    ≡ value_of (take kept s) * 10 ^ (kept - length s) * 10 ^ z
rounded_down s kept z zero h =
    let none : value_of (take kept s) ≡ 0 = before_zeros (take kept s) 0 h ∙ omega arith in
    let zero_times : 0 ≡ 0 * 10 ^ (kept - length s) * 10 ^ z = omega arith in
    zero_times ∙ sym (ap (λ v. v * 10 ^ (kept - length s) * 10 ^ z) none)
rounded_down s kept z (suc e) h =
    let k : (suc e ≤ kept) × (suc e ≤ length s) × (take (suc e) (take kept s) ≡ take (suc e) s) = kept_end s kept 0 (suc e) h in
    let l : length (take (suc e) s) ≡ suc e = length-take-le (suc e) s k.1 in
    let long : length (take kept s) + (kept - length s) ≡ kept = length-kept s kept in
    let some : suc e ≤ length (take kept s) = h.most in
    let v : value_of (take kept s) ≡ value_of (take (suc e) s) * 10 ^ (length (take kept s) - suc e)
    = before_zeros (take kept s) (suc e) h ∙ ap (λ t. value_of t * 10 ^ (length (take kept s) - suc e)) k.2 in
    ap (λ n. value_of (take (suc e) s) * 10 ^ (kept + z - n)) l
    ∙ sym (three_powers (value_of (take (suc e) s)) (length (take kept s) - suc e) (kept - length s) z (kept + z - suc e) (omega arith))
    ∙ sym (ap (λ n. n * 10 ^ (kept - length s) * 10 ^ z) v)

-- Where it goes up, they write one more.
pub rounded_up : (s : List ℕ) (kept z end : ℕ) → kept < length s → IsEndBefore (take kept s) 9 end
    → value_of (rounded_digits true end s) * 10 ^ (rounded_places true end kept z - length (rounded_digits true end s))
    ≡ (value_of (take kept s) + 1) * 10 ^ z
rounded_up s kept z zero inside h =
    let l : length (take kept s) ≡ kept = length-take-le kept s (omega arith) in
    let long : kept + 1 + z - 1 ≡ kept + z = omega arith in
    let all : length (take kept s) - 0 ≡ kept = omega arith in
    let nines : 1 * 10 ^ (length (take kept s) - 0) ≡ 10 ^ (length (take kept s) - 0) = omega arith in
    let v : value_of (take kept s) + 1 ≡ 10 ^ kept = before_nines (take kept s) 0 h ∙ nines ∙ ap (λ n. 10 ^ n) all in
    let p : 10 ^ (kept + z) ≡ 10 ^ kept * 10 ^ z = pow-add 10 kept z in
    let once : 1 * 10 ^ (kept + z) ≡ 10 ^ (kept + z) = omega arith in
    ap (λ n. 1 * 10 ^ n) long ∙ once ∙ p ∙ ap (λ n. n * 10 ^ z) (sym v)
rounded_up s kept z (suc i) inside h =
    let k : (suc i ≤ kept) × (suc i ≤ length s) × (take (suc i) (take kept s) ≡ take (suc i) s) = kept_end s kept 9 (suc i) h in
    let l : length (take kept s) ≡ kept = length-take-le kept s (omega arith) in
    let less : suc i - 1 ≡ i = omega arith in
    let one : i + 1 ≡ suc i = omega arith in
    let t : length (take i s) ≡ i = length-take-le i s (omega (arith, k.1)) in
    let long : length (take i s ++ (get_or s i 0 + 1) ∷ []) ≡ suc i
    = length-append (take i s) ((get_or s i 0 + 1) ∷ []) ∙ omega arith in
    let v : value_of (take i s ++ (get_or s i 0 + 1) ∷ []) ≡ value_of (take (suc i) s) + 1
    = value_of-raised s i (omega (arith, k.1)) ∙ ap (λ n. value_of (take n s) + 1) one in
    let w : value_of (take kept s) + 1 ≡ (value_of (take (suc i) s) + 1) * 10 ^ (kept - suc i)
    = before_nines (take kept s) (suc i) h
    ∙ ap (λ t. (value_of t + 1) * 10 ^ (length (take kept s) - suc i)) k.2
    ∙ ap (λ n. (value_of (take (suc i) s) + 1) * 10 ^ (n - suc i)) l in
    let p : 10 ^ (kept - suc i + z) ≡ 10 ^ (kept - suc i) * 10 ^ z = pow-add 10 (kept - suc i) z in
    let n : kept + z - suc i ≡ kept - suc i + z = omega (arith, k.0) in
    ap (λ j. value_of (take j s ++ (get_or s i 0 + 1) ∷ []) * 10 ^ (kept + z - length (take j s ++ (get_or s i 0 + 1) ∷ []))) less
    ∙ ap (λ m. value_of (take i s ++ (get_or s i 0 + 1) ∷ []) * 10 ^ (kept + z - m)) long
    ∙ ap (λ m. m * 10 ^ (kept + z - suc i)) v
    ∙ ap (λ m. (value_of (take (suc i) s) + 1) * 10 ^ m) n
    ∙ ap (λ m. (value_of (take (suc i) s) + 1) * m) p
    ∙ regroup (value_of (take (suc i) s) + 1) (10 ^ (kept - suc i)) (10 ^ z)
    ∙ ap (λ m. m * 10 ^ z) (sym w)
  where
    regroup : (a b c : ℕ) → a * (b * c) ≡ a * b * c
    regroup a b c = omega arith

-- ---- what is cut

-- A number in small units is what is kept in large ones, and a rest that is this part of a large
-- unit.
pub record IsSplit (c : Rest) (a q u : ℕ) : Type 0 where
  pub cut : ℕ
  pub sum : a ≡ q * u + cut
  pub part : IsRest c cut u

-- digits up to the place and behind it
pub cut_digits : (c : Rest) (s : List ℕ) (kept gap small large : ℕ) → small + length s + gap ≡ large + kept
    → (0 < gap → kept ≡ 0) → IsRest c (value_of (drop kept s)) (10 ^ (length s - kept + gap))
    → IsSplit c (value_of s * 10 ^ small) (value_of (take kept s) * 10 ^ (kept - length s)) (10 ^ large)
cut_digits c s kept gap small large balance apart h =
    elim (cases_lt kept (length s)) [
      | inl inside ↦ within inside
      | inr past ↦ behind past
    ]
  where
    -- some digits are cut
    within : kept < length s → IsSplit c (value_of s * 10 ^ small) (value_of (take kept s) * 10 ^ (kept - length s)) (10 ^ large)
    within inside =
        let none : kept - length s ≡ 0 = omega arith in
        let ten : 1 ≤ 10 ^ small = one-le-pow small 10 (omega arith) in
        let big : 10 ^ large ≡ 10 ^ (length s - kept + gap) * 10 ^ small
        = ap (λ n. 10 ^ n) (let e : large ≡ length s - kept + gap + small = omega arith in e) ∙ pow-add 10 (length s - kept + gap) small in
        let parts : value_of s ≡ value_of (take kept s) * 10 ^ (length s - kept) + value_of (drop kept s)
        = sym (ap value_of (take-append-drop kept s)) ∙ value_of-append (take kept s) (drop kept s)
        ∙ ap (λ n. value_of (take kept s) * 10 ^ n + value_of (drop kept s)) (length-drop kept s) in
        let front : value_of (take kept s) * 10 ^ (length s - kept) ≡ value_of (take kept s) * 10 ^ (length s - kept + gap) = no_gap in
        record {
          cut = value_of (drop kept s) * 10 ^ small;
          sum = regroup (value_of s) (value_of (take kept s)) (10 ^ (length s - kept)) (value_of (drop kept s))
              (10 ^ (length s - kept + gap)) (10 ^ small) (10 ^ large) (10 ^ (kept - length s)) parts front big (ap (λ n. 10 ^ n) none);
          part = subst (λ u. IsRest c (value_of (drop kept s) * 10 ^ small) u) (sym big)
              (IsRest-scaled c (value_of (drop kept s)) (10 ^ (length s - kept + gap)) (10 ^ small) ten h);
        }
      where
        no_gap : value_of (take kept s) * 10 ^ (length s - kept) ≡ value_of (take kept s) * 10 ^ (length s - kept + gap)
        no_gap = elim (cases_lt 0 gap) [
          | inl some ↦
              (let z : value_of (take kept s) ≡ 0 = ap (λ n. value_of (take n s)) (apart some) in
              ap (λ v. v * 10 ^ (length s - kept)) z ∙ omega arith ∙ sym (ap (λ v. v * 10 ^ (length s - kept + gap)) z))
          | inr closed ↦ (let e : length s - kept ≡ length s - kept + gap = omega arith in ap (λ n. value_of (take kept s) * 10 ^ n) e)
        ]

        regroup : (v t d r u c l o : ℕ) → v ≡ t * d + r → t * d ≡ t * u → l ≡ u * c → o ≡ 1 → v * c ≡ t * o * l + r * c
        regroup v t d r u c l o e f g i = rw (e, f, g, i) (omega arith)

    -- nothing is cut
    behind : length s ≤ kept → IsSplit c (value_of s * 10 ^ small) (value_of (take kept s) * 10 ^ (kept - length s)) (10 ^ large)
    behind past =
        let no_rest : value_of (drop kept s) ≡ 0 = ap value_of (drop_of_length-le s past) in
        let all : take kept s ≡ s = take_all kept s past in
        let unit : 1 ≤ 10 ^ (length s - kept + gap) = one-le-pow (length s - kept + gap) 10 (omega arith) in
        let is : c ≡ rest.Nothing = nothing_cut c (10 ^ (length s - kept + gap)) unit
        (subst (λ r. IsRest c r (10 ^ (length s - kept + gap))) no_rest h) in
        record {
          cut = 0;
          sum = same ∙ ap (λ t. value_of t * 10 ^ (kept - length s) * 10 ^ large) (sym all) ∙ omega arith;
          part = subst (λ (k : Rest). IsRest k 0 (10 ^ large)) (sym is) refl;
        }
      where
        no_digits : (ds : List ℕ) → length ds ≡ 0 → value_of ds ≡ 0
        no_digits [] h = refl
        no_digits (d ∷ ds) h = absurd (omega arith)

        regroup : (a b c : ℕ) → a * (b * c) ≡ a * b * c
        regroup a b c = omega arith

        same : value_of s * 10 ^ small ≡ value_of s * 10 ^ (kept - length s) * 10 ^ large
        same = elim (cases_lt 0 gap) [
          | inl some ↦
              (let none : length s ≡ 0 = omega (arith, apart some) in
              let z : value_of s ≡ 0 = no_digits s none in
              ap (λ v. v * 10 ^ small) z ∙ omega arith ∙ sym (ap (λ v. v * 10 ^ (kept - length s) * 10 ^ large) z))
          | inr closed ↦
              (let e : small ≡ kept - length s + large = omega arith in
              let p : 10 ^ small ≡ 10 ^ (kept - length s) * 10 ^ large = ap (λ n. 10 ^ n) e ∙ pow-add 10 (kept - length s) large in
              ap (λ n. value_of s * n) p ∙ regroup (value_of s) (10 ^ (kept - length s)) (10 ^ large))
        ]

-- ---- what is cut, beside half a unit

-- Digits of which one isn't 0 don't write 0.
pub value_of-some : (ds : List ℕ) (i : ℕ) → get_or ds i 0 ≢ 0 → 0 < value_of ds
value_of-some [] i h = absurd (h refl)
value_of-some (d ∷ ds) zero h =
    let p : 1 ≤ 10 ^ length ds = one-le-pow (length ds) 10 (omega arith) in
    let some : 1 ≤ d = omega arith in
    let m : 1 * 10 ^ length ds ≤ d * 10 ^ length ds = mul-le-mul_right (10 ^ length ds) some in
    omega arith
value_of-some (d ∷ ds) (suc i) h = let some : 0 < value_of ds = value_of-some ds i h in omega arith

-- From an index on there is another digit than 0, since the last one is.
some_left : (s : List ℕ) (kept : ℕ) → (0 < length s → get_or s (length s - 1) 0 ≢ 0) → kept < length s → 0 < value_of (drop kept s)
some_left s kept last inside =
    let e : kept + (length s - 1 - kept) ≡ length s - 1 = omega arith in
    let other : get_or s (length s - 1) 0 ≢ 0 = last (omega arith) in
    value_of-some (drop kept s) (length s - 1 - kept)
    (λ z. other (sym (get_or-drop kept s (length s - 1 - kept) 0 ∙ ap (λ i. get_or s i 0) e) ∙ z))

-- The first digit that is cut counts as many units as digits follow it.
record IsCut (s : List ℕ) (kept power : ℕ) : Type 0 where
  value : value_of (drop kept s) ≡ get_or s kept 0 * power + value_of (drop (kept + 1) s)
  below : value_of (drop (kept + 1) s) < power
  some : 1 ≤ power
  unit : 10 ^ (length s - kept) ≡ power * 10
  digit : get_or s kept 0 < 10

first_cut : (s : List ℕ) (kept : ℕ) → AreDigits s → kept < length s → IsCut s kept (10 ^ (length s - (kept + 1)))
first_cut s kept digits inside =
    let one : suc kept ≡ kept + 1 = omega arith in
    let parts : drop kept s ≡ get_or s kept 0 ∷ drop (kept + 1) s
    = drop-cons s kept 0 inside ∙ ap (λ n. get_or s kept 0 ∷ drop n s) one in
    let l : length (drop (kept + 1) s) ≡ length s - (kept + 1) = length-drop (kept + 1) s in
    let e : length s - kept ≡ suc (length s - (kept + 1)) = omega arith in
    let all : AreDigits (get_or s kept 0 ∷ drop (kept + 1) s) = subst AreDigits parts (AreDigits-drop kept s digits) in
    record {
      value = ap value_of parts ∙ ap (λ n. get_or s kept 0 * 10 ^ n + value_of (drop (kept + 1) s)) l;
      below = subst (λ n. value_of (drop (kept + 1) s) < 10 ^ n) l (value_of-below (drop (kept + 1) s) all.1);
      some = one-le-pow (length s - (kept + 1)) 10 (omega arith);
      unit = ap (λ n. 10 ^ n) e ∙ pow-suc 10 (length s - (kept + 1));
      digit = all.0;
    }

-- Below a first digit of five it is less than half a unit,
pub below_half : (s : List ℕ) (kept gap : ℕ) → AreDigits s → (0 < length s → get_or s (length s - 1) 0 ≢ 0) → kept < length s
    → get_or s kept 0 < 5 → gap ≡ 0
    → (0 < value_of (drop kept s)) × (2 * value_of (drop kept s) < 10 ^ (length s - kept + gap))
below_half s kept gap digits last inside small none =
    let p : ℕ = 10 ^ (length s - (kept + 1)) in
    let cut : IsCut s kept p = first_cut s kept digits inside in
    let v : value_of (drop kept s) ≡ get_or s kept 0 * p + value_of (drop (kept + 1) s) = cut.value in
    let b : value_of (drop (kept + 1) s) < p = cut.below in
    let m : get_or s kept 0 * p ≤ 4 * p = mul-le-mul_right p (omega arith) in
    let u : 10 ^ (length s - kept) ≡ p * 10 = cut.unit in
    let n : length s - kept + gap ≡ length s - kept = omega arith in
    (some_left s kept last inside, subst (λ j. 2 * value_of (drop kept s) < 10 ^ j) (sym n) (omega arith))

-- and with a zero before the first digit too.
pub below_tenth : (s : List ℕ) (kept gap : ℕ) → AreDigits s → (0 < length s → get_or s (length s - 1) 0 ≢ 0) → kept < length s
    → 0 < gap → (0 < value_of (drop kept s)) × (2 * value_of (drop kept s) < 10 ^ (length s - kept + gap))
below_tenth s kept gap digits last inside some =
    let ten : 0 < 10 = omega arith in
    let l : length (drop kept s) ≡ length s - kept = length-drop kept s in
    let b : value_of (drop kept s) < 10 ^ (length s - kept)
    = subst (λ n. value_of (drop kept s) < 10 ^ n) l (value_of-below (drop kept s) (AreDigits-drop kept s digits)) in
    let u : 10 ^ suc (length s - kept) ≡ 10 ^ (length s - kept) * 10 = pow-suc 10 (length s - kept) in
    let m : 10 ^ suc (length s - kept) ≤ 10 ^ (length s - kept + gap) = pow-le-pow_right ten (omega arith) in
    (some_left s kept last inside, omega arith)

-- From a five with another digit behind it, or a greater digit, it is more.
pub above_half : (s : List ℕ) (kept gap : ℕ) → AreDigits s → (0 < length s → get_or s (length s - 1) 0 ≢ 0) → kept < length s → gap ≡ 0
    → 5 ≤ get_or s kept 0 → (get_or s kept 0 ≡ 5 → kept + 1 < length s)
    → (10 ^ (length s - kept + gap) < 2 * value_of (drop kept s)) × (value_of (drop kept s) < 10 ^ (length s - kept + gap))
above_half s kept gap digits last inside none five more =
    let p : ℕ = 10 ^ (length s - (kept + 1)) in
    let cut : IsCut s kept p = first_cut s kept digits inside in
    let v : value_of (drop kept s) ≡ get_or s kept 0 * p + value_of (drop (kept + 1) s) = cut.value in
    let b : value_of (drop (kept + 1) s) < p = cut.below in
    let d : get_or s kept 0 < 10 = cut.digit in
    let m : get_or s kept 0 * p ≤ 9 * p = mul-le-mul_right p (omega arith) in
    let u : 10 ^ (length s - kept) ≡ p * 10 = cut.unit in
    let n : length s - kept + gap ≡ length s - kept = omega arith in
    let low : p * 10 < 2 * value_of (drop kept s)
    = elim (cases_lt 5 (get_or s kept 0)) [
      | inl six ↦ (let k : 6 * p ≤ get_or s kept 0 * p = mul-le-mul_right p (omega arith) in let o : 1 ≤ p = cut.some in omega arith)
      | inr same ↦
          (let e : get_or s kept 0 ≡ 5 = omega arith in
          let t : get_or s kept 0 * p ≡ 5 * p = ap (λ j. j * p) e in
          let o : 0 < value_of (drop (kept + 1) s) = some_left s (kept + 1) last (more e) in omega arith)
    ] in
    subst (λ j. (10 ^ j < 2 * value_of (drop kept s)) × (value_of (drop kept s) < 10 ^ j)) (sym n) (omega arith, omega arith)

-- ---- odd and even

-- The last digit tells whether a number is odd.
pub odd_last : (ds : List ℕ) → 0 < length ds → value_of ds % 2 ≡ (if nat_eq (get_or ds (length ds - 1) 0 % 2) 1 then 1 else 0)
odd_last ds some =
    let e : length ds - 1 + 1 ≡ length ds = omega arith in
    let v : value_of ds ≡ value_of (take (length ds - 1) ds) * 10 + get_or ds (length ds - 1) 0
    = sym (ap value_of (take_all (length ds - 1 + 1) ds (omega arith))) ∙ value_of-more ds (length ds - 1) (omega arith) in
    let same : value_of ds % 2 ≡ get_or ds (length ds - 1) 0 % 2 = omega arith in
    same ∙ told (get_or ds (length ds - 1) 0)
  where
    told : (n : ℕ) → n % 2 ≡ (if nat_eq (n % 2) 1 then 1 else 0)
    told n = elim (cases_lt (n % 2) 1) [
      | inl zero_left ↦ (let e : n % 2 ≡ 0 = omega arith in e ∙ ap (λ m. (if nat_eq m 1 then 1 else 0)) (sym e))
      | inr one_left ↦ (let e : n % 2 ≡ 1 = omega arith in e ∙ ap (λ m. (if nat_eq m 1 then 1 else 0)) (sym e))
    ]
