-- Which of the two multiples beside a number a mode chooses.
use Rattle.std.proofs.Common.{◌≡◌, ℕ, ◌+◌, ◌-◌, ◌*◌, ◌%◌, ◌<◌, ◌≤◌, Bool, true, false, inl, inr, refl, sym, ◌∙◌, ap, arith, if◌then◌else◌}
use Rattle.std.proofs.lemmas.Bool.{cases_lt}
use Rattle.std.proofs.Math.Nat.{mul-le-mul_right, mul-lt-mul_of_pos_right}
use Rattle.fixed_decimal.specs.Rounding.{distance, IsNextDown, IsNextUp, IsNearest, IsChosen}
use Rattle.fixed_decimal.specs.Inner.RoundingSteps.{IsRest, is_some_rest, is_large_rest, goes_up}
use Rattle.fixed_decimal.specs.declared.rounding.RoundingMode.{RoundingMode}
use Rattle.fixed_decimal.specs.declared.rounding.RoundingMode.TheVariants as mode
use Rattle.fixed_decimal.specs.declared.rounding.Rest.{Rest}
use Rattle.fixed_decimal.specs.declared.rounding.Rest.TheVariants as rest

-- one more if it goes up
abbrev pub one_if : Bool → ℕ
one_if up = (if up then 1 else 0)

-- A number is q units and r, less than a unit.
module _ (q u a r : ℕ) (some : 0 < u) (is : a ≡ q * u + r) where
  next_down : r < u → IsNextDown u a ((q + 0) * u)
  next_down h = record { down = omega arith; near = omega arith }

  next_up : 0 < r → r < u → IsNextUp u a ((q + 1) * u)
  next_up h k = record { up = omega arith; near = omega arith }

  stays : r ≡ 0 → IsNextUp u a ((q + 0) * u)
  stays h = record { up = omega arith; near = omega arith }

  nearest_down : (tie : Type 0) → 2 * r ≤ u → (2 * r ≡ u → tie) → IsNearest tie u a ((q + 0) * u)
  nearest_down tie h t = record { near = omega arith; halfway = λ e. t (omega arith) }

  nearest_up : (tie : Type 0) → u ≤ 2 * r → r < u → (2 * r ≡ u → tie) → IsNearest tie u a ((q + 1) * u)
  nearest_up tie h k t = record { near = omega arith; halfway = λ e. t (omega arith) }

  -- what is cut is less than a unit
  below_unit : (c : Rest) → IsRest c r u → r < u
  below_unit rest.Nothing h = omega arith
  below_unit rest.BelowHalf h = omega (arith, h.1)
  below_unit rest.Half h = omega arith
  below_unit rest.AboveHalf h = h.1

  -- Up, unless nothing is cut.
  chosen_up : (c : Rest) → IsRest c r u → IsNextUp u a ((q + one_if (is_some_rest c)) * u)
  chosen_up rest.Nothing h = stays h
  chosen_up rest.BelowHalf h = next_up h.0 (below_unit rest.BelowHalf h)
  chosen_up rest.Half h = next_up (omega arith) (below_unit rest.Half h)
  chosen_up rest.AboveHalf h = next_up (omega (arith, h.0)) h.1

  -- Halfway to the even one.
  chosen_even : (c : Rest) (odd : Bool) → IsRest c r u → (c ≡ rest.Half → q % 2 ≡ one_if odd)
      → IsNearest ((q + one_if (is_large_rest odd c)) % 2 ≡ 0) u a ((q + one_if (is_large_rest odd c)) * u)
  chosen_even rest.Nothing odd h o = nearest_down _ (omega arith) (λ t. absurd (omega arith))
  chosen_even rest.BelowHalf odd h o = nearest_down _ (omega (arith, h.1)) (λ t. absurd (omega (arith, h.1)))
  chosen_even rest.Half false h o = let even : q % 2 ≡ 0 = o refl in nearest_down _ (omega arith) (λ t. omega arith)
  chosen_even rest.Half true h o = let odd : q % 2 ≡ 1 = o refl in nearest_up _ (omega arith) (omega arith) (λ t. omega arith)
  chosen_even rest.AboveHalf odd h o = nearest_up _ (omega (arith, h.0)) h.1 (λ t. absurd (omega (arith, h.0)))

  -- Halfway away from zero.
  chosen_expand : (c : Rest) → IsRest c r u
      → IsNearest (a ≤ (q + one_if (is_large_rest true c)) * u) u a ((q + one_if (is_large_rest true c)) * u)
  chosen_expand rest.Nothing h = nearest_down _ (omega arith) (λ t. absurd (omega arith))
  chosen_expand rest.BelowHalf h = nearest_down _ (omega (arith, h.1)) (λ t. absurd (omega (arith, h.1)))
  chosen_expand rest.Half h = nearest_up _ (omega arith) (omega arith) (λ t. omega arith)
  chosen_expand rest.AboveHalf h = nearest_up _ (omega (arith, h.0)) h.1 (λ t. absurd (omega (arith, h.0)))

  -- The multiple above or below, as the code decides, is what the mode chooses.
  pub chosen : (m : RoundingMode) (c : Rest) (odd : Bool) → IsRest c r u → (c ≡ rest.Half → q % 2 ≡ one_if odd)
      → IsChosen m (q + one_if (goes_up m c odd)) u a ((q + one_if (goes_up m c odd)) * u)
  chosen mode.HalfEven c odd h o = chosen_even c odd h o
  chosen mode.HalfExpand c odd h o = chosen_expand c h
  chosen mode.Trunc c odd h o = next_down (below_unit c h)
  chosen mode.Expand c odd h o = chosen_up c h
  chosen mode.Ceil c odd h o = chosen_up c h
  chosen mode.Floor c odd h o = next_down (below_unit c h)

-- ---- nothing cut

-- Of nothing, the rest is nothing.
pub nothing_cut : (c : Rest) (u : ℕ) → 0 < u → IsRest c 0 u → c ≡ rest.Nothing
nothing_cut rest.Nothing u some h = refl
nothing_cut rest.BelowHalf u some h = absurd (omega (arith, h.0))
nothing_cut rest.Half u some h = absurd (omega arith)
nothing_cut rest.AboveHalf u some h = absurd (omega (arith, h.0))

-- Then no mode goes up.
pub goes_up-nothing : (m : RoundingMode) (odd : Bool) → goes_up m rest.Nothing odd ≡ false
goes_up-nothing mode.HalfEven odd = refl
goes_up-nothing mode.HalfExpand odd = refl
goes_up-nothing mode.Trunc odd = refl
goes_up-nothing mode.Expand odd = refl
goes_up-nothing mode.Ceil odd = refl
goes_up-nothing mode.Floor odd = refl

-- In a smaller unit the rest is the same part.
pub IsRest-scaled : (c : Rest) (r u n : ℕ) → 0 < n → IsRest c r u → IsRest c (r * n) (u * n)
IsRest-scaled rest.Nothing r u n some h = ap (λ t. t * n) h ∙ omega arith
IsRest-scaled rest.BelowHalf r u n some h =
    let low : 0 * n < r * n = mul-lt-mul_of_pos_right h.0 some in
    let high : 2 * r * n < u * n = mul-lt-mul_of_pos_right h.1 some in
    (omega arith, omega arith)
IsRest-scaled rest.Half r u n some h = let e : 2 * r * n ≡ u * n = ap (λ t. t * n) h in omega arith
IsRest-scaled rest.AboveHalf r u n some h =
    let low : u * n < 2 * r * n = mul-lt-mul_of_pos_right h.0 some in
    let high : r * n < u * n = mul-lt-mul_of_pos_right h.1 some in
    (omega arith, omega arith)

-- ---- one multiple

-- No mode chooses two multiples, of which the first is less.
not_both : (k : RoundingMode) (m n u a : ℕ) → 0 < u → m < n → IsChosen k m u a (m * u) → IsChosen k n u a (n * u) → ⊥
not_both k m n u a some less x y =
    let apart : (m + 1) * u ≤ n * u = mul-le-mul_right u (omega arith) in
    both k (omega arith) x y
  where
    even : IsNearest (m % 2 ≡ 0) u a (m * u) → IsNearest (n % 2 ≡ 0) u a (n * u) → m * u + u ≤ n * u → ⊥
    even x y apart =
        let xn : 2 * distance a (m * u) ≤ u = x.near in
        let yn : 2 * distance a (n * u) ≤ u = y.near in
        let xe : m % 2 ≡ 0 = x.halfway (omega arith) in
        let ye : n % 2 ≡ 0 = y.halfway (omega arith) in
        elim (cases_lt (m + 1) n) [
          | inl two ↦ (let more : (m + 2) * u ≤ n * u = mul-le-mul_right u (omega arith) in omega arith)
          | inr one ↦ omega arith
        ]

    both : (k : RoundingMode) → m * u + u ≤ n * u → IsChosen k m u a (m * u) → IsChosen k n u a (n * u) → ⊥
    both mode.HalfEven apart x y = even x y apart
    both mode.HalfExpand apart x y =
        let xn : 2 * distance a (m * u) ≤ u = x.near in
        let yn : 2 * distance a (n * u) ≤ u = y.near in
        let up : a ≤ m * u = x.halfway (omega arith) in omega arith
    both mode.Trunc apart x y = omega arith
    both mode.Expand apart x y = omega arith
    both mode.Ceil apart x y = omega arith
    both mode.Floor apart x y = omega arith

-- So a mode chooses one.
pub one_chosen : (k : RoundingMode) (m n u a : ℕ) → 0 < u → IsChosen k m u a (m * u) → IsChosen k n u a (n * u) → m ≡ n
one_chosen k m n u a some x y =
    elim (cases_lt m n) [
      | inl less ↦ absurd (not_both k m n u a some less x y)
      | inr most ↦ elim (cases_lt n m) [
        | inl more ↦ absurd (not_both k n m u a some more y x)
        | inr least ↦ omega arith
      ]
    ]
