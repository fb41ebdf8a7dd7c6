-- A stored number that is rounded.
use Rattle.std.proofs.Common.{◌≡◌, ◌≢◌, ℕ, zero, suc, ◌+◌, ◌-◌, ◌<◌, ◌≤◌, Bool, true, false, inl, inr, List, refl, sym, ◌∙◌, ap, subst}
use Rattle.std.proofs.Common.{length, take, arith, get_or, max, ℤ}
use Rattle.std.proofs.lemmas.Bool.{cases_lt}
use Rattle.std.proofs.lemmas.List.{get_or-take}
use Rattle.fixed_decimal.specs.Digits.{AreDigits}
use Rattle.fixed_decimal.specs.Places.{Places, IsWithinLimit, IsOverLimit}
use Rattle.fixed_decimal.specs.FractionEnds.{places_down_to}
use Rattle.fixed_decimal.specs.Rounding.{zeros_below, IsRounded}
use Rattle.fixed_decimal.specs.Inner.UnsignedInside.{places_of, IsSpan}
use Rattle.fixed_decimal.specs.Inner.RoundingSteps.{IsEndBefore, IsRoundedEnd, rounded_digits, rounded_places}
use Rattle.fixed_decimal.specs.declared.rounding.RoundingMode.{RoundingMode}
use Rattle.fixed_decimal.specs.declared.unsigned.UnsignedDecimal.TheInside.{Inside}
use Rattle.fixed_decimal.proofs.Spans.{spread, within}
use Rattle.fixed_decimal.proofs.RoundedDigits.{kept_end}
use Rattle.fixed_decimal.proofs.Rounds.{AreSpan, up_cuts, digit_below, rounded_span, length-spread_whole, length-spread_fraction, is_rounded}
use Rattle.fixed_decimal.proofs.OneRounding.{one_rounding}

-- what the code finds before it changes a number
pub record IsPlan (a : Inside) (k : ℤ) (m : RoundingMode) (kept gap end : ℕ) (up : Bool) (places : ℕ) : Type 0 where
  pub kept_is : kept ≡ a.whole_places + places_down_to k - (a.leading_zeros + zeros_below k)
  pub gap_is : gap ≡ a.leading_zeros + zeros_below k - (a.whole_places + places_down_to k)
  pub places_is : places ≡ rounded_places up end kept (zeros_below k)
  pub is_end : IsRoundedEnd m a.span.items kept gap end up

-- It is what its calls say.
pub plan_of : (a : Inside) (k : ℤ) (m : RoundingMode) (kept gap end : ℕ) (up : Bool) (places fraction below : ℕ) (digits : List ℕ)
    → fraction ≡ places_down_to k → below ≡ zeros_below k → kept ≡ a.whole_places + fraction - (a.leading_zeros + below)
    → gap ≡ a.leading_zeros + below - (a.whole_places + fraction) → places ≡ rounded_places up end kept below
    → digits ≡ a.span.items → IsRoundedEnd m digits kept gap end up → IsPlan a k m kept gap end up places
plan_of a k m kept gap end up places fraction below digits f z kept_is gap_is places_is d h = record {
  kept_is = omega arith;
  gap_is = omega arith;
  places_is = places_is ∙ ap (λ n. rounded_places up end kept n) z;
  is_end = subst (λ ds. IsRoundedEnd m ds kept gap end up) d h;
}

-- the digits of a stored number
stored_span : (a : Inside) → IsSpan a → AreSpan a.span.items
stored_span a h = record { digits = h.digits; first = h.first_nonzero; last = h.last_nonzero }

-- how many integer digits are written then, and how many zeros are before the stored ones
abbrev pub whole_of : ℕ → ℕ → ℕ
whole_of places fraction = max (places - fraction) 1

abbrev pub leading_of : ℕ → ℕ → ℕ
leading_of places fraction = whole_of places fraction + fraction - places

module _ (a : Inside) (k : ℤ) (m : RoundingMode) (kept gap end : ℕ) (up : Bool) (places : ℕ) (h : IsSpan a)
    (p : IsPlan a k m kept gap end up places) where
  -- They are a span within the places.
  span_after : AreSpan (rounded_digits up end a.span.items) × (length (rounded_digits up end a.span.items) ≤ places)
      × (0 < places → 0 < length (rounded_digits up end a.span.items))
  span_after =
      let s : AreSpan (rounded_digits up end a.span.items)
      × (length (rounded_digits up end a.span.items) ≤ rounded_places up end kept (zeros_below k))
      × (0 < rounded_places up end kept (zeros_below k) → 0 < length (rounded_digits up end a.span.items))
      = rounded_span m a.span.items kept gap (zeros_below k) end up (stored_span a h) p.is_end in
      let e : places ≡ rounded_places up end kept (zeros_below k) = p.places_is in
      (s.0, omega (arith, s.1), λ some. s.2 (omega arith))

  -- Rounded so, the number is as its mode and its place say.
  rounded_places_of : IsRounded m k (places_of a)
      (spread (whole_of places (places_down_to k)) (places_down_to k) (leading_of places (places_down_to k)) (rounded_digits up end a.span.items))
  rounded_places_of =
      is_rounded m k a.whole_places a.fraction_places a.leading_zeros a.span.items kept gap end places up h.inside (stored_span a h)
      p.kept_is p.gap_is p.places_is p.is_end

  -- the stored digits fit the places
  digits_fit : leading_of places (places_down_to k) + length (rounded_digits up end a.span.items)
      ≤ whole_of places (places_down_to k) + places_down_to k
  digits_fit = let few : length (rounded_digits up end a.span.items) ≤ places = span_after.1 in omega arith

  -- Too many places on a side are over the limit.
  pub rounded_over : 32767 < max (whole_of places (places_down_to k)) (places_down_to k)
      → (x : Places) × IsRounded m k (places_of a) x × IsOverLimit x
  rounded_over over = (
    spread (whole_of places (places_down_to k)) (places_down_to k) (leading_of places (places_down_to k))
        (rounded_digits up end a.span.items),
    rounded_places_of,
    sides,
  )
    where
      sides : IsOverLimit (spread (whole_of places (places_down_to k)) (places_down_to k) (leading_of places (places_down_to k))
          (rounded_digits up end a.span.items))
      sides =
          let w : length (spread (whole_of places (places_down_to k)) (places_down_to k) (leading_of places (places_down_to k))
          (rounded_digits up end a.span.items)).whole ≡ whole_of places (places_down_to k)
          = length-spread_whole (whole_of places (places_down_to k)) (places_down_to k) (leading_of places (places_down_to k))
          (rounded_digits up end a.span.items) digits_fit in
          let f : length (spread (whole_of places (places_down_to k)) (places_down_to k) (leading_of places (places_down_to k))
          (rounded_digits up end a.span.items)).fraction ≡ places_down_to k
          = length-spread_fraction (whole_of places (places_down_to k)) (places_down_to k) (leading_of places (places_down_to k))
          (rounded_digits up end a.span.items) digits_fit in
          elim (cases_lt 32767 (places_down_to k)) [
            | inl fraction ↦ inr (omega arith)
            | inr short ↦ inl (omega arith)
          ]

  -- What may be raised is a digit below nine.
  pub raises_digit : up ≡ true → (0 < length a.span.items) × (end ≤ length a.span.items)
      × (0 < end → get_or a.span.items (end - 1) 0 < 9)
  raises_digit goes =
      let r : IsRoundedEnd m a.span.items kept gap end true
      = subst (λ (b : Bool). IsRoundedEnd m a.span.items kept gap end b) goes p.is_end in
      let inside : kept < length a.span.items = up_cuts m a.span.items kept gap end r in
      let e : IsEndBefore (take kept a.span.items) 9 end = r.is_end in
      let stay : (end ≤ kept) × (end ≤ length a.span.items) × (take end (take kept a.span.items) ≡ take end a.span.items)
      = kept_end a.span.items kept 9 end e in (
        omega arith,
        stay.1,
        λ some.
            (let other : get_or (take kept a.span.items) (end - 1) 0 ≢ 9 = e.other some in
            let same : get_or (take kept a.span.items) (end - 1) 0 ≡ get_or a.span.items (end - 1) 0
            = get_or-take kept a.span.items (end - 1) 0 (omega (arith, stay.0)) in
            let below : get_or a.span.items (end - 1) 0 < 10 = digit_below a.span.items (end - 1) h.digits in
            omega arith),
      )

  module _ (b : Inside) (whole : b.whole_places ≡ whole_of places (places_down_to k)) (fraction : b.fraction_places ≡ places_down_to k)
      (leading : b.leading_zeros ≡ leading_of places (places_down_to k)) (span : b.span.items ≡ rounded_digits up end a.span.items)
      (fits : max (whole_of places (places_down_to k)) (places_down_to k) ≤ 32767) where
    -- What is stored is a span.
    pub rounded_stored : IsSpan b
    rounded_stored =
        let t : AreSpan b.span.items = subst AreSpan (sym span) span_after.0 in
        let l : length b.span.items ≡ length (rounded_digits up end a.span.items) = ap length span in
        let i : leading_of places (places_down_to k) + length (rounded_digits up end a.span.items)
        ≤ whole_of places (places_down_to k) + places_down_to k = digits_fit in
        record {
          whole_nonempty = omega arith;
          whole_within = omega arith;
          fraction_within = omega arith;
          inside = omega arith;
          digits = t.digits;
          first_nonzero = t.first;
          last_nonzero = t.last;
        }

    -- It is the rounded number.
    pub rounded_view : IsRounded m k (places_of a) (places_of b)
    rounded_view =
        subst (λ (x : Places). IsRounded m k (places_of a) x)
        (sym (ap (λ w. spread w b.fraction_places b.leading_zeros b.span.items) whole
        ∙ ap (λ f. spread (whole_of places (places_down_to k)) f b.leading_zeros b.span.items) fraction
        ∙ ap (λ n. spread (whole_of places (places_down_to k)) (places_down_to k) n b.span.items) leading
        ∙ ap (λ s. spread (whole_of places (places_down_to k)) (places_down_to k) (leading_of places (places_down_to k)) s) span))
        rounded_places_of

    -- No other number is, so none over the limit.
    pub rounded_within : (x : Places) → IsRounded m k (places_of a) x → IsOverLimit x → ⊥
    rounded_within x r o =
        let e : x ≡ places_of b = one_rounding m k (places_of a) x (places_of b) r rounded_view in
        not_within (within b rounded_stored) (subst IsOverLimit e o)
      where
        not_within : IsWithinLimit (places_of b) → IsOverLimit (places_of b) → ⊥
        not_within i (inl w) = let l : length (places_of b).whole ≤ 32767 = i.whole in omega arith
        not_within i (inr f) = let l : length (places_of b).fraction ≤ 32767 = i.fraction in omega arith
