-- Digits outside the written places are 0.
use Rattle.std.proofs.Common.{◌≡◌, ◌⊎◌, ◌↔◌, ◌≤◌, ◌<◌, ℕ, zero, suc, ℤ, pos, negsuc, ◌+ℤ◌, ◌<ℤ◌, ◌≤ℤ◌, neg_ℤ, Bool, true, false}
use Rattle.std.proofs.Common.{List, [], ◌∷◌, length, reverse, get_or, refl, sym, ap, subst, ◌∙◌, inl, inr, arith}
use lib.Signed.{lt_z}
use Rattle.std.specs.Bool.{IsTrue}
use Rattle.std.proofs.lemmas.Int.{ints}
use Rattle.std.proofs.lemmas.List.{length-reverse}
use Rattle.fixed_decimal.specs.Places.{Places, digit_at}
use Rattle.fixed_decimal.specs.Written.{CompactNumber}
use Rattle.fixed_decimal.specs.SameValue.{digit_of, HaveSameDigits}
use Rattle.message_format.specs.Inner.FormatViews.{IsZeroOutside}

-- past the end of a list
past : (s : List ℕ) (k : ℕ) → length s ≤ k → get_or s k 0 ≡ 0
past [] k h = refl
past (b ∷ s) zero h = absurd (omega arith)
past (b ∷ s) (suc k) h = past s k (omega arith)

-- above the highest place
pub above : (x : Places) (k : ℤ) → pos (length x.whole) ≤ℤ k → digit_at x k ≡ 0
above x (pos n) h = let e = length-reverse x.whole in past (reverse x.whole) n (omega (arith, ints))
above x (negsuc n) h = absurd (omega (arith, ints))

-- below the lowest place
pub below : (x : Places) (k : ℤ) → k <ℤ neg_ℤ (pos (length x.fraction)) → digit_at x k ≡ 0
below x (pos n) h = absurd (omega (arith, ints))
below x (negsuc n) h = past x.fraction n (omega (arith, ints))

-- ---- two numbers

less : (a b : ℤ) → lt_z a b ≡ true → a <ℤ b
less a b e = grind (arith, ints)

not_less : (a b : ℤ) → lt_z a b ≡ false → b ≤ℤ a
not_less a b e = grind (arith, ints)

split : (a b : ℤ) → (a <ℤ b) ⊎ (b ≤ℤ a)
split a b =
    elim (lt_z a b) as (λ (v : Bool). lt_z a b ≡ v → (a <ℤ b) ⊎ (b ≤ℤ a)) [
      | true ↦ λ e. inl (less a b e)
      | false ↦ λ e. inr (not_less a b e)
    ] refl

-- where the digits below a power are the same, and those from it on are 0, all are the same
pub all_same : (x y : CompactNumber) (low high low' high' end : ℤ) → IsZeroOutside x low high → IsZeroOutside y low' high' → high <ℤ end
    → high' <ℤ end
    → ((k : ℤ) → k <ℤ end → digit_of x k ≡ digit_of y k) → HaveSameDigits x y
all_same x y low high low' high' end h h' l l' same k =
    elim (split k end) [
      | inl e ↦ same k e
      | inr e ↦ h.above k (omega (arith, ints)) ∙ sym (h'.above k (omega (arith, ints)))
    ]

-- both are 0 below both places
pub none_below : (x y : CompactNumber) (low high low' high' k : ℤ) → IsZeroOutside x low high → IsZeroOutside y low' high' → k <ℤ low
    → k <ℤ low'
    → digit_of x k ≡ digit_of y k
none_below x y low high low' high' k h h' l l' = h.below k l ∙ sym (h'.below k l')

-- a digit at a place that was computed
pub moved : (x y : Places) (k j : ℤ) (r : ℕ) → r ≡ digit_at x k → x ≡ y → k ≡ j → r ≡ digit_at y j
moved x y k j r e p q = e ∙ (ap (λ (z : Places). digit_at z k) p ∙ ap (λ (i : ℤ). digit_at y i) q)

-- one power more
pub one_more : (x y : CompactNumber) (power next k : ℤ) → ((k : ℤ) → k <ℤ power → digit_of x k ≡ digit_of y k)
    → digit_of x power ≡ digit_of y power
    → next ≡ power +ℤ pos 1 → k <ℤ next → digit_of x k ≡ digit_of y k
one_more x y power next k before here e h =
    elim (split k power) [
      | inl l ↦ before k l
      | inr l ↦ let same : power ≡ k = omega (arith, ints) in subst (λ (i : ℤ). digit_of x i ≡ digit_of y i) same here
    ]

-- ---- the span of the digits other than 0

-- the digits below one power more are 0
pub zeros_below_next : (x : CompactNumber) (power next k : ℤ) → ((k : ℤ) → k <ℤ power → digit_of x k ≡ 0) → digit_of x power ≡ 0
    → next ≡ power +ℤ pos 1 → k <ℤ next → digit_of x k ≡ 0
zeros_below_next x power next k before here e h =
    elim (split k power) [
      | inl l ↦ before k l
      | inr l ↦ let same : power ≡ k = omega (arith, ints) in subst (λ (i : ℤ). digit_of x i ≡ 0) same here
    ]

-- the digits between the highest one so far and one power more are 0
pub zeros_between : (x : CompactNumber) (top power next k : ℤ) → ((k : ℤ) → top <ℤ k → k <ℤ power → digit_of x k ≡ 0) → digit_of x power ≡ 0
    → next ≡ power +ℤ pos 1 → top <ℤ k → k <ℤ next → digit_of x k ≡ 0
zeros_between x top power next k between here e l h =
    elim (split k power) [
      | inl m ↦ between k l m
      | inr m ↦ let same : power ≡ k = omega (arith, ints) in subst (λ (i : ℤ). digit_of x i ≡ 0) same here
    ]

-- none is between a power and the next
pub none_between : (x : CompactNumber) (power next k : ℤ) → next ≡ power +ℤ pos 1 → power <ℤ k → k <ℤ next → digit_of x k ≡ 0
none_between x power next k e l h = absurd (omega (arith, ints))

-- where the digits below a power are 0, and those from it on, all are
pub none_other : (x : CompactNumber) (low high end k : ℤ) → IsZeroOutside x low high → high <ℤ end → ((k : ℤ) → k <ℤ end → digit_of x k ≡ 0)
    → digit_of x k ≡ 0
none_other x low high end k h l before =
    elim (split k end) [
      | inl e ↦ before k e
      | inr e ↦ h.above k (omega (arith, ints))
    ]

-- a digit above those of the other number
pub not_same : (x y : CompactNumber) (low high k : ℤ) → IsZeroOutside y low high → high <ℤ k → 0 < digit_of x k
    → IsTrue false ↔ HaveSameDigits x y
not_same x y low high k h l positive =
    (λ t. let e : false ≡ true = t in cc, λ same. let e = same k in let z = h.above k l in absurd (omega (arith, e, z)))
