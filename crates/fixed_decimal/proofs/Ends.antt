-- Places that are added after a fraction, or cut from it, when all their digits are zeros.
use Rattle.std.proofs.Common.{◌≡◌, ◌≢◌, ℕ, zero, suc, ◌+◌, ◌-◌, ◌<◌, ◌≤◌, List, [], ◌∷◌, ◌++◌, refl, sym, ◌∙◌, ap, subst, length, take}
use Rattle.std.proofs.Common.{drop, arith, get_or, replicate, append_assoc, append-nil, length-drop, max, pos, negsuc, ℤ, int_lt, nat_abs}
use Rattle.std.proofs.Common.{true, false}
use Rattle.std.proofs.lemmas.Int.{ints}
use Rattle.std.proofs.lemmas.List.{replicate-append-replicate, take-append-le, drop-append-le, get_or-drop}
use Rattle.fixed_decimal.specs.Places.{Places}
use Rattle.fixed_decimal.specs.FractionEnds.{places_down_to, padded_to, IsTrimmed}
use Rattle.fixed_decimal.specs.Inner.UnsignedInside.{places_of, IsSpan}
use Rattle.fixed_decimal.specs.declared.unsigned.UnsignedDecimal.TheInside.{Inside}
use Rattle.fixed_decimal.proofs.Spans.{padded, rest_zeros, cut_at, spread, length-spread, same_places, length-fraction, padded-after}

-- more zeros after the digits
padded-more : (n : ℕ) (s : List ℕ) (m k : ℕ) → padded n s (m + k) ≡ padded n s m ++ replicate k 0
padded-more n s m k =
    ap (λ t. (replicate n 0 ++ s) ++ t) (sym (replicate-append-replicate m k 0))
    ∙ sym (append_assoc (replicate n 0 ++ s) (replicate m 0) (replicate k 0))

-- a number with more zeros at its end
abbrev pub with_zeros : Places → ℕ → Places
with_zeros x k = record { whole = x.whole; fraction = x.fraction ++ replicate k 0 }

-- More fraction places are zeros at the end.
pub more_places : (w f n k : ℕ) (s : List ℕ) → n + length s ≤ w + f → spread w (f + k) n s ≡ with_zeros (spread w f n s) k
more_places w f n k s h =
    let e : rest_zeros w (f + k) n s ≡ rest_zeros w f n s + k = omega arith in
    let l : length (padded n s (rest_zeros w f n s)) ≡ w + f = length-spread w f n s h in
    ap (λ m. cut_at w (padded n s m)) e ∙ ap (cut_at w) (padded-more n s (rest_zeros w f n s) k)
    ∙ same_places _ _ _ _ (take-append-le w _ _ (omega arith)) (drop-append-le w _ _ (omega arith))

-- So a fraction is padded by its count of places alone.
pub pad_view : (a : Inside) (n : ℕ) → IsSpan a
    → places_of (record a { fraction_places = max a.fraction_places n }) ≡ padded_to n (places_of a)
pad_view a n h =
    let e : max a.fraction_places n ≡ a.fraction_places + (n - a.fraction_places) = omega arith in
    ap (λ f. spread a.whole_places f a.leading_zeros a.span.items) e
    ∙ more_places a.whole_places a.fraction_places a.leading_zeros (n - a.fraction_places) a.span.items h.inside
    ∙ ap (λ f. with_zeros (places_of a) (n - f)) (sym (length-fraction a h))

-- ---- cut zeros

-- Fewer places with the same digits, of which the last isn't 0, are the number trimmed.
cut_places : (w f k n : ℕ) (s : List ℕ) → n + length s ≤ w + f
    → (0 < f → get_or (spread w f n s).fraction (f - 1) 0 ≢ 0) → IsTrimmed (spread w (f + k) n s) (spread w f n s)
cut_places w f k n s h other =
    let l : length (drop w (padded n s (rest_zeros w f n s))) ≡ f = length-drop w _ ∙ omega (arith, length-spread w f n s h) in
    let e : spread w (f + k) n s ≡ with_zeros (spread w f n s) k = more_places w f n k s h in
    record {
      whole = ap (λ (x : Places). x.whole) e;
      zeros = (k, ap (λ (x : Places). x.fraction) e);
      last = λ some. subst (λ i. get_or (spread w f n s).fraction (i - 1) 0 ≢ 0) (sym l) (other (omega arith));
    }

-- With a span the places end with it, or with the integer digits.
pub trim_view : (a : Inside) → IsSpan a → 0 < length a.span.items
    → IsTrimmed (places_of a) (places_of (record a { fraction_places = a.leading_zeros + length a.span.items - a.whole_places }))
trim_view a h some =
    let w : ℕ = a.whole_places in
    let n : ℕ = a.leading_zeros in
    let s : List ℕ = a.span.items in
    let f : ℕ = n + length s - w in
    let i : n + length s ≤ w + a.fraction_places = h.inside in
    let e : a.fraction_places ≡ f + (a.fraction_places - f) = omega arith in
    let last : get_or s (length s - 1) 0 ≢ 0 = h.last_nonzero some in
    subst (λ g. IsTrimmed (spread w g n s) (spread w f n s)) (sym e)
    (cut_places w f (a.fraction_places - f) n s (omega arith) (λ more zero_digit.
    let j : w + (f - 1) ≡ n + (length s - 1) = omega arith in
    last (sym (get_or-drop w (padded n s (rest_zeros w f n s)) (f - 1) 0
    ∙ ap (λ i. get_or (padded n s (rest_zeros w f n s)) i 0) j
    ∙ padded-after n s (rest_zeros w f n s) (length s - 1)) ∙ zero_digit)))

-- without a span all digits are zeros, wherever it would begin
all_zeros : (n m : ℕ) (s : List ℕ) → length s ≡ 0 → padded n s m ≡ padded 0 s (n + m)
all_zeros n m [] h = ap (λ t. t ++ replicate m 0) (append-nil (replicate n 0)) ∙ replicate-append-replicate n m 0
all_zeros n m (d ∷ s) h = absurd (omega arith)

-- Then no fraction place is left.
pub trim_zero : (a : Inside) → IsSpan a → length a.span.items ≡ 0
    → IsTrimmed (places_of a) (places_of (record a { leading_zeros = 0; fraction_places = 0 }))
trim_zero a h none =
    let w : ℕ = a.whole_places in
    let f : ℕ = a.fraction_places in
    let n : ℕ = a.leading_zeros in
    let s : List ℕ = a.span.items in
    let i : n + length s ≤ w + f = h.inside in
    let e : n + rest_zeros w f n s ≡ rest_zeros w (0 + f) 0 s = omega arith in
    let same : spread w f n s ≡ spread w (0 + f) 0 s
    = ap (cut_at w) (all_zeros n (rest_zeros w f n s) s none ∙ ap (padded 0 s) e) in
    subst (λ (x : Places). IsTrimmed x (spread w 0 0 s)) (sym same)
    (cut_places w 0 f 0 s (omega arith) (λ more. absurd (omega arith)))
