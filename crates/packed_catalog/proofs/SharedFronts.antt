-- Lists that have their first numbers in common, and their order.
use Rattle.std.proofs.Common.{◌≡◌, ℕ, zero, suc, ◌+◌, ◌<◌, ◌≤◌, List, [], ◌∷◌, length, drop, take, get_or, refl, sym, ap, ◌∙◌, arith, inl}
use Rattle.std.proofs.Common.{inr, subst, min, ◌↔◌}
use Rattle.std.proofs.lemmas.Bool.{cases_lt, lt-ltb, ltb-true}
use Rattle.std.proofs.lemmas.Cmp.{by_ranked, nat_cmp_total, ranked, tied_itself}
use Rattle.std.proofs.lemmas.List.{drop_all, drop_more, take-take, take_more}
use Rattle.std.specs.Cmp.Lexicographic.{slice_cmp}
use Rattle.std.specs.declared.cmp.Ordering.{Ordering}
use Rattle.std.specs.declared.cmp.Ordering.TheVariants.{Less, Greater}
use Rattle.std.specs.Ordering.{is_lt, nat_cmp, ord_min, ordering_then}
use Rattle.std.specs.Prelude.{◌≢◌, IsTrue, cond, nat_lt}
use Rattle.packed_catalog.specs.Inner.CatalogReading.{SharesFront}

-- any two lists share their first 0 numbers
pub shares_none : (a b : List ℕ) → SharesFront 0 a b
shares_none a b = record { front = refl; in_first = omega arith; in_second = omega arith }

-- one number more that is shared
pub shares_more : (c : ℕ) (a b : List ℕ) → SharesFront c a b → c < length a → c < length b → get_or a c 0
    ≡ get_or b c 0 → SharesFront (c + 1) a b
shares_more c a b h la lb same = record {
  front = rw (take_more a c 0 la, take_more b c 0 lb, h.front, same) refl;
  in_first = omega arith;
  in_second = omega arith;
}

-- what orders begins with decides, if it isn't a tie
starts_low : (x y : ℕ) (rest : Ordering) → ordering_then (nat_cmp x y) rest ≡ Less → x ≤ y
starts_low x y rest h = by_ranked (x < y) (x ≡ y) (y < x) (nat_cmp x y) (ranked x y (nat_cmp x y) refl)
    (λ e less. omega arith)
    (λ e same. omega arith)
    (λ e more. let g : Greater ≡ Less = ap (λ o. ordering_then o rest) (sym e) ∙ h in absurd (cc))

-- else the rest does
tied_start : (x : ℕ) (rest : Ordering) → ordering_then (nat_cmp x x) rest ≡ rest
tied_start x rest = ap (λ o. ordering_then o rest) (tied_itself nat_cmp_total x)

-- what is between two lists that share a front with a third shares it too
pub shares_between : (c : ℕ) (a m b k : List ℕ) → slice_cmp nat_cmp a m ≡ Less → slice_cmp nat_cmp m b ≡ Less
    → SharesFront c a k → SharesFront c b k → SharesFront c m k
shares_between zero a m b k h g p q = shares_none m k
shares_between (suc c) [] m b k h g p q = absurd (omega (arith, p.in_first))
shares_between (suc c) (x ∷ a) m [] k h g p q = absurd (omega (arith, q.in_first))
shares_between (suc c) (x ∷ a) m (z ∷ b) [] h g p q = absurd (omega (arith, p.in_second))
shares_between (suc c) (x ∷ a) [] (z ∷ b) (y ∷ k) h g p q = absurd (cc)
shares_between (suc c) (x ∷ a) (w ∷ m) (z ∷ b) (y ∷ k) h g p q =
    let pf = p.front in
    let qf = q.front in
    let xy : x ≡ y = cc in
    let zy : z ≡ y = cc in
    let pr : take c a ≡ take c k = cc in
    let qr : take c b ≡ take c k = cc in
    let wy : w ≡ y = omega (arith, starts_low x w (slice_cmp nat_cmp a m) h, starts_low w z (slice_cmp nat_cmp m b) g, xy, zy) in
    let xw : x ≡ w = xy ∙ sym wy in
    let zw : z ≡ w = zy ∙ sym wy in
    let ha : slice_cmp nat_cmp a m ≡ Less =
    sym (tied_start w (slice_cmp nat_cmp a m)) ∙ ap (λ v. ordering_then (nat_cmp v w) (slice_cmp nat_cmp a m)) (sym xw) ∙ h in
    let hb : slice_cmp nat_cmp m b ≡ Less =
    sym (tied_start w (slice_cmp nat_cmp m b)) ∙ ap (λ v. ordering_then (nat_cmp w v) (slice_cmp nat_cmp m b)) (sym zw) ∙ g in
    let again = shares_between c a m b k ha hb
    (record { front = pr; in_first = omega (arith, p.in_first); in_second = omega (arith, p.in_second) })
    (record { front = qr; in_first = omega (arith, q.in_first); in_second = omega (arith, q.in_second) }) in
    record {
      front = ap (λ v. v ∷ take c m) wy ∙ ap (λ r. y ∷ r) again.front;
      in_first = omega (arith, again.in_first);
      in_second = p.in_second;
    }

-- fewer numbers are shared too
pub shares_fewer : (c d : ℕ) (a b : List ℕ) → d ≤ c → SharesFront c a b → SharesFront d a b
shares_fewer c d a b l h = record {
  front = sym (take-take d c a l) ∙ ap (take d) h.front ∙ take-take d c b l;
  in_first = omega (arith, h.in_first);
  in_second = omega (arith, h.in_second);
}

-- behind a front that is shared the order is the same
cmp-drop : (c : ℕ) (a b : List ℕ) → SharesFront c a b → slice_cmp nat_cmp a b ≡ slice_cmp nat_cmp (drop c a) (drop c b)
cmp-drop zero a b h = refl
cmp-drop (suc c) [] b h = absurd (omega (arith, h.in_first))
cmp-drop (suc c) (x ∷ a) [] h = absurd (omega (arith, h.in_second))
cmp-drop (suc c) (x ∷ a) (y ∷ b) h =
    let f = h.front in
    let xy : x ≡ y = cc in
    let r : take c a ≡ take c b = cc in
    ap (λ v. ordering_then (nat_cmp v y) (slice_cmp nat_cmp a b)) xy ∙ tied_start y (slice_cmp nat_cmp a b)
    ∙ cmp-drop c a b (record { front = r; in_first = omega (arith, h.in_first); in_second = omega (arith, h.in_second) })

-- the first numbers that differ decide
pub low_below : (c : ℕ) (a b : List ℕ) → SharesFront c a b → c < length a → c < length b → get_or a c 0 < get_or b c 0
    → slice_cmp nat_cmp a b ≡ Less
low_below c a b h la lb low =
    let x : ℕ = get_or a c 0 in
    let y : ℕ = get_or b c 0 in
    rw (cmp-drop c a b h, drop_more a c 0 la, drop_more b c 0 lb)
    (by_ranked (x < y) (x ≡ y) (y < x) (nat_cmp x y) (ranked x y (nat_cmp x y) refl)
    (λ e less. ap (λ o. ordering_then o (slice_cmp nat_cmp (drop (c + 1) a) (drop (c + 1) b))) e)
    (λ e same. absurd (omega arith))
    (λ e more. absurd (omega arith)))

pub high_not_below : (c : ℕ) (a b : List ℕ) → SharesFront c a b → c < length a → c < length b → get_or b c 0 < get_or a c 0
    → slice_cmp nat_cmp a b ≢ Less
high_not_below c a b h la lb high less =
    let e : slice_cmp nat_cmp (get_or a c 0 ∷ drop (c + 1) a) (get_or b c 0 ∷ drop (c + 1) b) ≡ Less =
    sym (cmp-drop c a b h ∙ ap (λ xs. slice_cmp nat_cmp xs (drop c b)) (drop_more a c 0 la)
    ∙ ap (slice_cmp nat_cmp (get_or a c 0 ∷ drop (c + 1) a)) (drop_more b c 0 lb)) ∙ less in
    omega (arith, starts_low (get_or a c 0) (get_or b c 0) (slice_cmp nat_cmp (drop (c + 1) a) (drop (c + 1) b)) e, high)

-- else a list that ends first is below the other
pub short_below : (c : ℕ) (a b : List ℕ) → SharesFront c a b → length a ≤ c → c < length b → slice_cmp nat_cmp a b ≡ Less
short_below c a b h l lb = rw (cmp-drop c a b h, drop_all c a l, drop_more b c 0 lb) refl

none_below_nil : (xs : List ℕ) → slice_cmp nat_cmp xs [] ≢ Less
none_below_nil [] e = absurd (cc)
none_below_nil (x ∷ xs) e = absurd (cc)

pub long_not_below : (c : ℕ) (a b : List ℕ) → SharesFront c a b → length b ≤ c → slice_cmp nat_cmp a b ≢ Less
long_not_below c a b h l less =
    none_below_nil (drop c a) (ap (slice_cmp nat_cmp (drop c a)) (sym (drop_all c b l)) ∙ sym (cmp-drop c a b h) ∙ less)

-- what the test of two numbers that differ tells
pub below_at_difference : (c : ℕ) (a b : List ℕ) → SharesFront c a b → c < length a → c < length b → get_or a c 0 ≢ get_or b c 0
    → IsTrue (nat_lt (get_or a c 0) (get_or b c 0)) ↔ (slice_cmp nat_cmp a b ≡ Less)
below_at_difference c a b h la lb other =
    let x : ℕ = get_or a c 0 in
    let y : ℕ = get_or b c 0 in (
      (λ t. low_below c a b h la lb (ltb-true x y t)),
      (λ less. elim (cases_lt x y) [
        | inl low ↦ lt-ltb x y low
        | inr high ↦ absurd (high_not_below c a b h la lb (omega (arith, other, high)) less)
      ]),
    )

-- what the test of two lengths tells, if one of the lists is shared whole
pub below_at_end : (c : ℕ) (a b : List ℕ) → SharesFront c a b → c ≡ min (length a) (length b)
    → IsTrue (nat_lt (length a) (length b)) ↔ (slice_cmp nat_cmp a b ≡ Less)
below_at_end c a b h e = (
  (λ t. let l = ltb-true (length a) (length b) t in short_below c a b h (omega (arith, e, l)) (omega (arith, e, l))),
  (λ less. elim (cases_lt (length a) (length b)) [
    | inl low ↦ lt-ltb (length a) (length b) low
    | inr high ↦ absurd (long_not_below c a b h (omega (arith, e, high)) less)
  ]),
)

-- the smaller of two numbers is at most each
pub smaller : (c d : ℕ) → (ord_min nat_cmp c d ≤ c) × (ord_min nat_cmp c d ≤ d)
smaller c d =
    let Fits : Ordering → Type 0 = λ o. (cond (is_lt o) d c ≤ c) × (cond (is_lt o) d c ≤ d) in
    by_ranked (d < c) (d ≡ c) (c < d) (nat_cmp d c) (ranked d c (nat_cmp d c) refl)
    (λ e less. subst Fits (sym e) (omega arith, omega arith))
    (λ e same. subst Fits (sym e) (omega arith, omega arith))
    (λ e more. subst Fits (sym e) (omega arith, omega arith))
