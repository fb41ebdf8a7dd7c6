-- A rounded number is what its mode, its place and its digits say.
use Rattle.std.proofs.Common.{◌≡◌, ◌≢◌, ℕ, zero, suc, ◌+◌, ◌-◌, ◌*◌, ◌%◌, ◌^◌, ◌<◌, ◌≤◌, Bool, true, false, inl, inr, List, [], ◌∷◌, ◌++◌}
use Rattle.std.proofs.Common.{refl, sym, ◌∙◌, ap, subst, length, take, drop, arith, get_or, replicate, length-append, length-drop, max, ℤ}
use Rattle.std.proofs.lemmas.Bool.{cases_lt}
use Rattle.std.proofs.lemmas.Nat.{pow-add}
use Rattle.std.proofs.lemmas.List.{length-take-le, get_or-take}
use Rattle.std.proofs.Math.Nat.{one-le-pow}
use Rattle.std.proofs.Math.ListN.{get_or-append, drop_of_length-le}
use Rattle.std.proofs.lemmas.List.{get_or_at}
use Rattle.fixed_decimal.specs.Digits.{value_of, AreDigits}
use Rattle.fixed_decimal.specs.Places.{Places, IsWritten}
use Rattle.fixed_decimal.specs.FractionEnds.{places_down_to}
use Rattle.fixed_decimal.specs.Rounding.{zeros_below, units_of, IsChosen, IsRounded}
use Rattle.fixed_decimal.specs.Inner.RoundingSteps.{IsRest, IsEndBefore, IsRoundedEnd, goes_up, run_digit, raised, rounded_digits, rounded_places}
use Rattle.fixed_decimal.specs.declared.rounding.RoundingMode.{RoundingMode}
use Rattle.fixed_decimal.specs.declared.rounding.Rest.{Rest}
use Rattle.fixed_decimal.specs.declared.rounding.Rest.TheVariants as rest
use Rattle.fixed_decimal.proofs.Spans.{AreDigits-append, AreDigits-take, AreDigits-drop, AreDigits-padded, padded, padded-after, rest_zeros, spread}
use Rattle.fixed_decimal.proofs.Spans.{length-spread}
use Rattle.fixed_decimal.proofs.Chosen.{one_if, chosen, nothing_cut, goes_up-nothing}
use Rattle.fixed_decimal.proofs.RoundedDigits.{units_of-spread, rounded_down, rounded_up, kept_end, IsSplit, cut_digits}

-- ---- the stored digits

-- what holds of the digits of a span
pub record AreSpan (s : List ℕ) : Type 0 where
  pub digits : AreDigits s
  pub first : 0 < length s → get_or s 0 0 ≢ 0
  pub last : 0 < length s → get_or s (length s - 1) 0 ≢ 0

-- A digit of digits is below ten.
pub digit_below : (ds : List ℕ) (i : ℕ) → AreDigits ds → get_or ds i 0 < 10
digit_below [] i h = omega arith
digit_below (d ∷ ds) zero h = h.0
digit_below (d ∷ ds) (suc i) h = digit_below ds i h.1

-- Past the last digit nothing is cut.
rest_past : (m : RoundingMode) (s : List ℕ) (kept gap end : ℕ) (up : Bool) (r : IsRoundedEnd m s kept gap end up)
    → length s ≤ kept → r.rest ≡ rest.Nothing
rest_past m s kept gap end up r past =
    let unit : 1 ≤ 10 ^ (length s - kept + gap) = one-le-pow (length s - kept + gap) 10 (omega arith) in
    let none : value_of (drop kept s) ≡ 0 = ap value_of (drop_of_length-le s past) in
    nothing_cut r.rest (10 ^ (length s - kept + gap)) unit
    (subst (λ n. IsRest r.rest n (10 ^ (length s - kept + gap))) none r.is_rest)

-- So nothing goes up there.
pub up_cuts : (m : RoundingMode) (s : List ℕ) (kept gap end : ℕ) → IsRoundedEnd m s kept gap end true → kept < length s
up_cuts m s kept gap end r =
    elim (cases_lt kept (length s)) [
      | inl inside ↦ inside
      | inr past ↦
          (let up : true ≡ false = r.is_up ∙ ap (λ c. goes_up m c r.odd) (rest_past m s kept gap end true r past) ∙ goes_up-nothing m r.odd in
          absurd (cc up))
    ]

-- The digits that are stored are a span's, and as many as there are places, at most.
pub rounded_span : (m : RoundingMode) (s : List ℕ) (kept gap z end : ℕ) (up : Bool) → AreSpan s → IsRoundedEnd m s kept gap end up
    → AreSpan (rounded_digits up end s) × (length (rounded_digits up end s) ≤ rounded_places up end kept z)
    × (0 < rounded_places up end kept z → 0 < length (rounded_digits up end s))
rounded_span m s kept gap z zero false h r =
    (record { digits = tt; first = λ some. absurd (omega arith); last = λ some. absurd (omega arith) }, omega arith, λ some. absurd (omega arith))
rounded_span m s kept gap z (suc i) false h r =
    let e : IsEndBefore (take kept s) 0 (suc i) = r.is_end in
    let k : (suc i ≤ kept) × (suc i ≤ length s) × (take (suc i) (take kept s) ≡ take (suc i) s) = kept_end s kept 0 (suc i) e in
    let l : length (take (suc i) s) ≡ suc i = length-take-le (suc i) s k.1 in
    let first : get_or s 0 0 ≢ 0 = h.first (omega (arith, k.1)) in
    let other : get_or (take kept s) (suc i - 1) 0 ≢ 0 = e.other (omega arith) in
    let same_first : get_or (take (suc i) s) 0 0 ≡ get_or s 0 0 = get_or-take (suc i) s 0 0 (omega arith) in
    let last_at : length (take (suc i) s) - 1 ≡ suc i - 1 = omega arith in
    let same_last : get_or (take (suc i) s) (length (take (suc i) s) - 1) 0 ≡ get_or (take kept s) (suc i - 1) 0
    = ap (λ j. get_or (take (suc i) s) j 0) last_at
    ∙ get_or-take (suc i) s (suc i - 1) 0 (omega arith) ∙ sym (get_or-take kept s (suc i - 1) 0 (omega (arith, k.0))) in (
      record {
        digits = AreDigits-take (suc i) s h.digits;
        first = λ some e. first (sym same_first ∙ e);
        last = λ some e. other (sym same_last ∙ e);
      },
      omega (arith, k.0),
      λ some. omega arith,
    )
rounded_span m s kept gap z zero true h r =
    (record { digits = (omega arith, tt); first = λ some. omega arith; last = λ some. omega arith }, omega arith, λ some. omega arith)
rounded_span m s kept gap z (suc i) true h r =
    let e : IsEndBefore (take kept s) 9 (suc i) = r.is_end in
    let inside : kept < length s = up_cuts m s kept gap (suc i) r in
    let k : (suc i ≤ kept) × (suc i ≤ length s) × (take (suc i) (take kept s) ≡ take (suc i) s) = kept_end s kept 9 (suc i) e in
    let less : suc i - 1 ≡ i = omega arith in
    let other : get_or (take kept s) (suc i - 1) 0 ≢ 9 = e.other (omega arith) in
    let same : get_or (take kept s) (suc i - 1) 0 ≡ get_or s i 0
    = get_or-take kept s (suc i - 1) 0 (omega (arith, k.0)) ∙ ap (λ j. get_or s j 0) less in
    let below : get_or s i 0 < 10 = digit_below s i h.digits in
    subst (λ j. AreSpan (take j s ++ (get_or s i 0 + 1) ∷ []) × (length (take j s ++ (get_or s i 0 + 1) ∷ []) ≤ kept + z)
    × (0 < kept + z → 0 < length (take j s ++ (get_or s i 0 + 1) ∷ []))) (sym less)
    (one_more i s h (omega (arith, k.1)) (omega arith) kept z (omega (arith, k.0)))
  where
    one_more : (i : ℕ) (s : List ℕ) → AreSpan s → i < length s → get_or s i 0 + 1 < 10 → (kept z : ℕ) → i < kept
        → AreSpan (take i s ++ (get_or s i 0 + 1) ∷ []) × (length (take i s ++ (get_or s i 0 + 1) ∷ []) ≤ kept + z)
        × (0 < kept + z → 0 < length (take i s ++ (get_or s i 0 + 1) ∷ []))
    one_more i s h inside small kept z some =
        let t : length (take i s) ≡ i = length-take-le i s (omega arith) in
        let l : length (take i s ++ (get_or s i 0 + 1) ∷ []) ≡ i + 1
        = length-append (take i s) ((get_or s i 0 + 1) ∷ []) ∙ omega arith in
        let at : length (take i s ++ (get_or s i 0 + 1) ∷ []) - 1 ≡ i = omega arith in
        let last : get_or (take i s ++ (get_or s i 0 + 1) ∷ []) (length (take i s ++ (get_or s i 0 + 1) ∷ []) - 1) 0 ≡ get_or s i 0 + 1
        = ap (λ j. get_or (take i s ++ (get_or s i 0 + 1) ∷ []) j 0) at ∙ get_or_at (take i s) (get_or s i 0 + 1) [] 0 i t in (
          record {
            digits = AreDigits-append (take i s) _ (AreDigits-take i s h.digits) (small, tt);
            first = λ more. first i s h inside;
            last = λ more e. (let f : get_or s i 0 + 1 ≡ 0 = sym last ∙ e in omega arith);
          },
          omega arith,
          λ more. omega arith,
        )
      where
        first : (i : ℕ) (s : List ℕ) → AreSpan s → i < length s → get_or (take i s ++ (get_or s i 0 + 1) ∷ []) 0 0 ≢ 0
        first zero s h inside e = omega arith
        first (suc i) s h inside e =
            let l : length (take (suc i) s) ≡ suc i = length-take-le (suc i) s (omega arith) in
            let first : get_or s 0 0 ≢ 0 = h.first (omega arith) in
            first (sym (get_or-append (take (suc i) s) ((get_or s (suc i) 0 + 1) ∷ []) 0 0 (omega arith)
            ∙ get_or-take (suc i) s 0 0 (omega arith)) ∙ e)

-- ---- the written places

-- Digits that are spread over places are a written number.
pub written_spread : (w f n : ℕ) (s : List ℕ) → 0 < w → n + length s ≤ w + f → AreDigits s → IsWritten (spread w f n s)
written_spread w f n s some h digits =
    let d : AreDigits (padded n s (rest_zeros w f n s)) = AreDigits-padded n s (rest_zeros w f n s) digits in
    let l : length (padded n s (rest_zeros w f n s)) ≡ w + f = length-spread w f n s h in
    let k : length (take w (padded n s (rest_zeros w f n s))) ≡ w = length-take-le w _ (omega arith) in
    record {
      nonempty = omega arith;
      whole = AreDigits-take w _ d;
      fraction = AreDigits-drop w _ d;
    }

-- how many of them are on each side
pub length-spread_fraction : (w f n : ℕ) (s : List ℕ) → n + length s ≤ w + f → length (spread w f n s).fraction ≡ f
length-spread_fraction w f n s h = length-drop w (padded n s (rest_zeros w f n s)) ∙ omega (arith, length-spread w f n s h)

pub length-spread_whole : (w f n : ℕ) (s : List ℕ) → n + length s ≤ w + f → length (spread w f n s).whole ≡ w
length-spread_whole w f n s h = length-take-le w (padded n s (rest_zeros w f n s)) (omega (arith, length-spread w f n s h))

-- With as many places as the digits need, no zero is in front of another integer digit.
shortest : (g places : ℕ) (s : List ℕ) → AreSpan s → length s ≤ places → (0 < places → 0 < length s)
    → get_or (spread (max (places - g) 1) g (max (places - g) 1 + g - places) s).whole 0 0 ≡ 0
    → length (spread (max (places - g) 1) g (max (places - g) 1 + g - places) s).whole ≡ 1
shortest g places s h most some e =
    elim (cases_lt 1 (places - g)) [
      | inl more ↦ absurd (first (omega arith) (some (omega arith)))
      | inr one ↦ length-spread_whole (max (places - g) 1) g (max (places - g) 1 + g - places) s (omega arith) ∙ omega arith
    ]
  where
    first : max (places - g) 1 + g - places ≡ 0 → 0 < length s → ⊥
    first z some_digit =
        let w : ℕ = max (places - g) 1 in
        let n : ℕ = max (places - g) 1 + g - places in
        let i : n + 0 ≡ 0 = omega arith in
        h.first some_digit (sym (padded-after n s (rest_zeros w g n s) 0) ∙ ap (λ j. get_or (padded n s (rest_zeros w g n s)) j 0) i
        ∙ sym (get_or-take w (padded n s (rest_zeros w g n s)) 0 0 (omega arith)) ∙ e)

-- a multiple in a unit of f places less
in_units : (m v z f : ℕ) → v ≡ m * 10 ^ z → v * 10 ^ f ≡ m * 10 ^ (z + f)
in_units m v z f e = ap (λ t. t * 10 ^ f) e ∙ regroup m (10 ^ z) (10 ^ f) ∙ ap (λ t. m * t) (sym (pow-add 10 z f))
  where
    regroup : (a b c : ℕ) → a * b * c ≡ a * (b * c)
    regroup a b c = omega arith

-- ---- the rounded number

-- What the stored digits write.
rounded_value : (m : RoundingMode) (s : List ℕ) (kept gap z end : ℕ) (up : Bool) → IsRoundedEnd m s kept gap end up
    → value_of (rounded_digits up end s) * 10 ^ (rounded_places up end kept z - length (rounded_digits up end s))
    ≡ (value_of (take kept s) * 10 ^ (kept - length s) + one_if up) * 10 ^ z
rounded_value m s kept gap z end false r = rounded_down s kept z end r.is_end ∙ omega arith
rounded_value m s kept gap z end true r =
    let inside : kept < length s = up_cuts m s kept gap end r in
    let none : 0 ≡ kept - length s = omega arith in
    rounded_up s kept z end inside r.is_end
    ∙ omega arith
    ∙ ap (λ n. (value_of (take kept s) * 10 ^ n + 1) * 10 ^ z) none

-- The last digit tells whether half a unit goes up.
half_odd : (m : RoundingMode) (s : List ℕ) (kept gap end : ℕ) (up : Bool) (r : IsRoundedEnd m s kept gap end up)
    → r.rest ≡ rest.Half → value_of (take kept s) * 10 ^ (kept - length s) % 2 ≡ one_if r.odd
half_odd m s kept gap end up r half =
    elim (cases_lt kept (length s)) [
      | inl inside ↦
          (let none : kept - length s ≡ 0 = omega arith in
          ap (λ n. value_of (take kept s) * 10 ^ n % 2) none ∙ ap (λ n. n % 2) (one_time (value_of (take kept s))) ∙ r.is_odd)
      | inr past ↦ (let no : rest.Nothing ≡ rest.Half = sym (rest_past m s kept gap end up r past) ∙ half in absurd (cc no))
    ]
  where
    one_time : (n : ℕ) → n * 10 ^ 0 ≡ n
    one_time n = omega arith

-- Rounded to its places and with the digits of the code, a number is rounded as its mode says.
pub is_rounded : (m : RoundingMode) (k : ℤ) (w f n : ℕ) (s : List ℕ) (kept gap end places : ℕ) (up : Bool)
    → n + length s ≤ w + f → AreSpan s
    → kept ≡ w + places_down_to k - (n + zeros_below k) → gap ≡ n + zeros_below k - (w + places_down_to k)
    → places ≡ rounded_places up end kept (zeros_below k) → IsRoundedEnd m s kept gap end up
    → IsRounded m k (spread w f n s)
    (spread (max (places - places_down_to k) 1) (places_down_to k)
    (max (places - places_down_to k) 1 + places_down_to k - places) (rounded_digits up end s))
is_rounded m k w f n s kept gap end places up i h kept_is gap_is places_is r =
    let g : ℕ = places_down_to k in
    let z : ℕ = zeros_below k in
    let t : List ℕ = rounded_digits up end s in
    let whole : ℕ = max (places - g) 1 in
    let lead : ℕ = max (places - g) 1 + g - places in
    let x : Places = spread w f n s in
    let y : Places = spread whole g lead t in
    let span : AreSpan t × (length t ≤ rounded_places up end kept z) × (0 < rounded_places up end kept z → 0 < length t)
    = rounded_span m s kept gap z end up h r in
    let few : length t ≤ places = omega (arith, span.1) in
    let j : lead + length t ≤ whole + g = omega arith in
    let lf : length x.fraction ≡ f = length-spread_fraction w f n s i in
    let lg : length y.fraction ≡ g = length-spread_fraction whole g lead t j in
    let q : ℕ = value_of (take kept s) * 10 ^ (kept - length s) in
    let rest_is : rest_zeros whole g lead t ≡ rounded_places up end kept z - length t = omega arith in
    let vy : units_of y ≡ (q + one_if up) * 10 ^ z
    = units_of-spread whole g lead t ∙ ap (λ e. value_of t * 10 ^ e) rest_is ∙ rounded_value m s kept gap z end up r in
    let by : units_of y * 10 ^ f ≡ (q + one_if up) * 10 ^ (z + f) = in_units (q + one_if up) (units_of y) z f vy in
    let ax : units_of x * 10 ^ g ≡ value_of s * 10 ^ (rest_zeros w f n s + g)
    = ap (λ v. v * 10 ^ g) (units_of-spread w f n s) ∙ joined (value_of s) (rest_zeros w f n s) g in
    let split : IsSplit r.rest (value_of s * 10 ^ (rest_zeros w f n s + g)) q (10 ^ (z + f))
    = cut_digits r.rest s kept gap (rest_zeros w f n s + g) (z + f) (omega arith) (λ some. omega arith) r.is_rest in
    let unit : 1 ≤ 10 ^ (z + f) = one-le-pow (z + f) 10 (omega arith) in
    let c : IsChosen m (q + one_if (goes_up m r.rest r.odd)) (10 ^ (z + f)) (units_of x * 10 ^ g)
    ((q + one_if (goes_up m r.rest r.odd)) * 10 ^ (z + f))
    = chosen q (10 ^ (z + f)) (units_of x * 10 ^ g) split.cut unit (ax ∙ split.sum) m r.rest r.odd split.part
    (half_odd m s kept gap end up r) in
    let d : IsChosen m (q + one_if up) (10 ^ (z + f)) (units_of x * 10 ^ g) ((q + one_if up) * 10 ^ (z + f))
    = subst (λ (b : Bool). IsChosen m (q + one_if b) (10 ^ (z + f)) (units_of x * 10 ^ g) ((q + one_if b) * 10 ^ (z + f))) (sym r.is_up) c in
    let e : IsChosen m (q + one_if up) (10 ^ (z + f)) (units_of x * 10 ^ g) (units_of y * 10 ^ f)
    = subst (λ b. IsChosen m (q + one_if up) (10 ^ (z + f)) (units_of x * 10 ^ g) b) (sym by) d in
    record {
      written = written_spread whole g lead t (omega arith) j span.0.digits;
      fraction = lg;
      no_leading_zero = shortest g places t span.0 few (λ some. span.2 (omega arith));
      multiple = q + one_if up;
      is_multiple = subst (λ l. units_of y * 10 ^ l ≡ (q + one_if up) * 10 ^ (z + l)) (sym lf) by;
      chosen = subst (λ l. IsChosen m (q + one_if up) (10 ^ (z + l)) (units_of x * 10 ^ length y.fraction) (units_of y * 10 ^ l)) (sym lf)
          (subst (λ l. IsChosen m (q + one_if up) (10 ^ (z + f)) (units_of x * 10 ^ l) (units_of y * 10 ^ f)) (sym lg) e);
    }
  where
    joined : (v a b : ℕ) → v * 10 ^ a * 10 ^ b ≡ v * 10 ^ (a + b)
    joined v a b = regroup v (10 ^ a) (10 ^ b) ∙ ap (λ p. v * p) (sym (pow-add 10 a b))
      where
        regroup : (a b c : ℕ) → a * b * c ≡ a * (b * c)
        regroup a b c = omega arith
