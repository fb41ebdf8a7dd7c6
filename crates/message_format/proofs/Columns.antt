-- Digits in columns, and the numbers that they write.
use Rattle.std.proofs.Common.{◌≡◌, ◌↔◌, true, ℕ, zero, suc, ◌+◌, ◌-◌, ◌*◌, ◌^◌, ◌<◌, ◌≤◌, List, [], ◌∷◌, ◌++◌, length, take, drop}
use Rattle.std.proofs.Common.{replicate, get_or, reverse, refl, sym, ap, subst, ◌∙◌, arith, length-append}
use Rattle.std.specs.Bool.{IsTrue}
use Rattle.std.proofs.Math.Nat.{pow-suc, mul-le-mul_right}
use Rattle.std.proofs.Math.Seq.{drop-cons}
use Rattle.std.proofs.lemmas.List.{reverse-append, length-replicate}
use Rattle.fixed_decimal.specs.Digits.{value_of, AreDigits}
use Rattle.message_format.specs.declared.difference.Aligned.{Aligned}
use Rattle.message_format.specs.Inner.FormatColumns.{behind_zeros, lined, IsBorrowed, IsCarried, IsSum}

-- ---- runs of digits

pub digits_append : (s t : List ℕ) → AreDigits s → AreDigits t → AreDigits (s ++ t)
digits_append [] t h k = k
digits_append (d ∷ s) t h k = (h.0, digits_append s t h.1 k)

pub digits_take : (n : ℕ) (s : List ℕ) → AreDigits s → AreDigits (take n s)
digits_take zero s h = tt
digits_take (suc n) [] h = tt
digits_take (suc n) (d ∷ s) h = (h.0, digits_take n s h.1)

pub digits_drop : (n : ℕ) (s : List ℕ) → AreDigits s → AreDigits (drop n s)
digits_drop zero s h = h
digits_drop (suc n) [] h = tt
digits_drop (suc n) (d ∷ s) h = digits_drop n s h.1

pub ten_power : (n : ℕ) → 0 < 10 ^ n
ten_power zero = omega arith
ten_power (suc n) = let e : 10 ^ suc n ≡ 10 ^ n * 10 = pow-suc 10 n in let r : 0 < 10 ^ n = ten_power n in omega arith

-- nine times a power and less than one more is below ten times it
top_below : (d p v q : ℕ) → d < 10 → v < p → q ≡ p * 10 → d * p + v < q
top_below d p v q h k e = let m : d * p ≤ 9 * p = mul-le-mul_right p (omega arith) in omega arith

-- digits write less than the power of ten of their length
pub value_below : (ds : List ℕ) → AreDigits ds → value_of ds < 10 ^ length ds
value_below [] h = omega arith
value_below (d ∷ ds) h = top_below d (10 ^ length ds) (value_of ds) _ h.0 (value_below ds h.1) (pow-suc 10 (length ds))

-- zeros before digits change no number
pub value_behind_zeros : (n : ℕ) (ds : List ℕ) → value_of (replicate n 0 ++ ds) ≡ value_of ds
value_behind_zeros zero ds = refl
value_behind_zeros (suc n) ds = let e : value_of (replicate n 0 ++ ds) ≡ value_of ds = value_behind_zeros n ds in omega arith

-- a digit that isn't 0 makes a number above 0
pub some_above : (d : ℕ) (ds : List ℕ) → (d ≡ 0 → ⊥) → 0 < value_of (d ∷ ds)
some_above zero ds h = absurd (h refl)
some_above (suc d) ds h =
    let p : 0 < 10 ^ length ds = ten_power (length ds) in
    let m : 1 * 10 ^ length ds ≤ suc d * 10 ^ length ds = mul-le-mul_right (10 ^ length ds) (omega arith) in
    omega arith

pub first_above : (s : List ℕ) (v : ℕ) → 1 ≤ length s → (get_or s 0 0 ≡ 0 → ⊥) → value_of s ≡ v → IsTrue true ↔ (0 < v)
first_above [] v l h e = absurd (omega arith)
first_above (d ∷ ds) v l h e = let p : 0 < value_of (d ∷ ds) = some_above d ds h in (λ t. omega arith, λ k. refl)

-- ---- the digit in a column

-- one digit, as a number and a power of ten
pub one_digit : (n z v : ℕ) → n * 10 ^ z ≡ v → z ≤ 1 → n * 10 ^ z < 10 → (n ≡ v) × (n < 10)
one_digit n zero v e l b = (omega arith, omega arith)
one_digit n (suc zero) v e l b = (omega arith, omega arith)
one_digit n (suc (suc z)) v e l b = absurd (omega arith)

pub digit_behind : (n : ℕ) (s : List ℕ) (i : ℕ) → n ≤ i → get_or (replicate n 0 ++ s) i 0 ≡ get_or s (i - n) 0
digit_behind zero s i h = let e : i ≡ i - 0 = omega arith in ap (λ (k : ℕ). get_or s k 0) e
digit_behind (suc n) s zero h = absurd (omega arith)
digit_behind (suc n) s (suc i) h =
    let e : i - n ≡ suc i - suc n = omega arith in
    digit_behind n s i (omega arith) ∙ ap (λ (k : ℕ). get_or s k 0) e

-- the digit that a run of one digit writes
pub digit_at_column : (n : ℕ) (s : List ℕ) (i r : ℕ) → n ≤ i → r ≡ value_of (get_or s (i - n) 0 ∷ []) → r ≡ get_or (replicate n 0 ++ s) i 0
digit_at_column n s i r h e =
    let v : value_of (get_or s (i - n) 0 ∷ []) ≡ get_or s (i - n) 0 = omega arith in
    e ∙ (v ∙ sym (digit_behind n s i h))

all_zeros : (n i : ℕ) → get_or {A = ℕ} (replicate {A = ℕ} n 0) i 0 ≡ 0
all_zeros zero i = refl
all_zeros (suc n) zero = refl
all_zeros (suc n) (suc i) = all_zeros n i

-- zeros behind the digits change none
pub digit_before_zeros : (s : List ℕ) (n i : ℕ) → get_or (s ++ replicate n 0) i 0 ≡ get_or s i 0
digit_before_zeros [] n i = all_zeros n i
digit_before_zeros (d ∷ s) n zero = refl
digit_before_zeros (d ∷ s) n (suc i) = digit_before_zeros s n i

pub lined_digit : (columns : ℕ) (a : Aligned) (i r : ℕ) → r ≡ get_or (behind_zeros a) i 0 → r ≡ get_or (lined columns a) i 0
lined_digit columns a i r e = e ∙ sym (digit_before_zeros (behind_zeros a) (columns - length (behind_zeros a)) i)

pub lined_length : (columns : ℕ) (a : Aligned) → length (behind_zeros a) ≤ columns → length (lined columns a) ≡ columns
lined_length columns a h =
    let e : length (lined columns a) ≡ length (behind_zeros a) + length (replicate {A = ℕ} (columns - length (behind_zeros a)) 0)
    = length-append (behind_zeros a) (replicate (columns - length (behind_zeros a)) 0) in
    let z : length (replicate {A = ℕ} (columns - length (behind_zeros a)) 0) ≡ columns - length (behind_zeros a)
    = length-replicate {A = ℕ} (columns - length (behind_zeros a)) 0 in
    e ∙ (ap (λ (n : ℕ). length (behind_zeros a) + n) z ∙ omega arith)

-- ---- a column more

pub drop_all : (s : List ℕ) (n : ℕ) → length s ≤ n → drop n s ≡ []
drop_all [] zero h = refl
drop_all [] (suc n) h = refl
drop_all (d ∷ s) zero h = absurd (omega arith)
drop_all (d ∷ s) (suc n) h = drop_all s n (omega arith)

-- the last digit that was added comes first
pub added_first : (old new : List ℕ) (d : ℕ) → new ≡ old ++ d ∷ [] → reverse new ≡ d ∷ reverse old
added_first old new d e = ap reverse e ∙ reverse-append old (d ∷ [])

-- the digits from a column on
dropped : (s : List ℕ) (i j d : ℕ) → i < length s → j ≡ suc i → d ≡ get_or s i 0 → drop i s ≡ d ∷ drop j s
dropped s i j d h e is =
    drop-cons s i 0 h ∙ (ap (λ (n : ℕ). n ∷ drop (suc i) s) (sym is) ∙ ap (λ (n : ℕ). d ∷ drop n s) (sym e))

borrow_value : (d b c a next p q r low high : ℕ) → d + (b + c) ≡ a + 10 * next → q ≡ p * 10 → r + low ≡ high + c * p
    → (d * p + r) + (b * p + low) ≡ (a * p + high) + next * q
borrow_value d b c a next p q r low high h e k =
    let m : (d + (b + c)) * p ≡ (a + 10 * next) * p = ap (λ (n : ℕ). n * p) h in
    rw e (omega arith)

borrow_more : (a b c d next : ℕ) (s t r : List ℕ) → IsBorrowed s t r c → d + (b + c) ≡ a + 10 * next → d < 10 → next ≤ 1
    → IsBorrowed (a ∷ s) (b ∷ t) (d ∷ r) next
borrow_more a b c d next s t r h e l n =
    let v = borrow_value d b c a next (10 ^ length r) (10 ^ suc (length r)) (value_of r) (value_of t) (value_of s) e (pow-suc 10 (length r))
    h.value in
    let up : 10 ^ length r ≡ 10 ^ length s = ap (λ (n : ℕ). 10 ^ n) h.upper in
    let down : 10 ^ length r ≡ 10 ^ length t = ap (λ (n : ℕ). 10 ^ n) h.lower in
    record {
      value =
          subst (λ (p : ℕ). (d * 10 ^ length r + value_of r) + (b * p + value_of t) ≡ value_of (a ∷ s) + next * 10 ^ suc (length r)) down
          (subst (λ (p : ℕ). (d * 10 ^ length r + value_of r) + (b * 10 ^ length r + value_of t)
          ≡ (a * p + value_of s) + next * 10 ^ suc (length r)) up v);
      digits = (l, h.digits);
      upper = ap suc h.upper;
      lower = ap suc h.lower;
      most = n;
    }

pub borrow_init : (s t items : List ℕ) (n : ℕ) → length s ≡ n → length t ≡ n → items ≡ []
    → IsBorrowed (drop n s) (drop n t) (reverse items) 0
borrow_init s t items n h k e =
    let none : IsBorrowed [] [] [] 0 = record { value = refl; digits = tt; upper = refl; lower = refl; most = omega arith } in
    rw (drop_all s n (omega arith), drop_all t n (omega arith), e) none

pub borrow_step : (s t old new : List ℕ) (i j a b c d next n : ℕ) → length s ≡ n → length t ≡ n → i < n → j ≡ suc i → a ≡ get_or s i 0
    → b ≡ get_or t i 0
    → d + (b + c) ≡ a + 10 * next → d < 10 → next ≤ 1 → new ≡ old ++ d ∷ [] → IsBorrowed (drop j s) (drop j t) (reverse old) c
    → IsBorrowed (drop i s) (drop i t) (reverse new) next
borrow_step s t old new i j a b c d next n hs ht l e ea eb v below least pushed h =
    let more : IsBorrowed (a ∷ drop j s) (b ∷ drop j t) (d ∷ reverse old) next =
    borrow_more a b c d next (drop j s) (drop j t) (reverse old) h v below least in
    let first : IsBorrowed (drop i s) (b ∷ drop j t) (d ∷ reverse old) next
    = subst (λ (u : List ℕ). IsBorrowed u (b ∷ drop j t) (d ∷ reverse old) next) (sym (dropped s i j a (omega arith) e ea)) more in
    let second : IsBorrowed (drop i s) (drop i t) (d ∷ reverse old) next
    = subst (λ (u : List ℕ). IsBorrowed (drop i s) u (d ∷ reverse old) next) (sym (dropped t i j b (omega arith) e eb)) first in
    subst (λ (u : List ℕ). IsBorrowed (drop i s) (drop i t) u next) (sym (added_first old new d pushed)) second

-- all columns
pub borrow_all : (s t items new : List ℕ) (i c : ℕ) → i ≡ 0 → new ≡ reverse items → IsBorrowed (drop i s) (drop i t) (reverse items) c
    → IsBorrowed s t new c
borrow_all s t items new i c none e h =
    let k : IsBorrowed (drop 0 s) (drop 0 t) (reverse items) c =
    subst (λ (n : ℕ). IsBorrowed (drop n s) (drop n t) (reverse items) c) none h in
    subst (λ (u : List ℕ). IsBorrowed s t u c) (sym e) k

-- ---- the same of sums

carry_value : (d b c a next p q r low high : ℕ) → d + 10 * next ≡ a + b + c → q ≡ p * 10 → r + c * p ≡ high + low
    → (d * p + r) + next * q ≡ (a * p + high) + (b * p + low)
carry_value d b c a next p q r low high h e k =
    let m : (d + 10 * next) * p ≡ (a + b + c) * p = ap (λ (n : ℕ). n * p) h in
    rw e (omega arith)

carry_more : (a b c d next : ℕ) (s t r : List ℕ) → IsCarried s t r c → d + 10 * next ≡ a + b + c → d < 10 → next ≤ 1
    → IsCarried (a ∷ s) (b ∷ t) (d ∷ r) next
carry_more a b c d next s t r h e l n =
    let v = carry_value d b c a next (10 ^ length r) (10 ^ suc (length r)) (value_of r) (value_of t) (value_of s) e (pow-suc 10 (length r))
    h.value in
    let up : 10 ^ length r ≡ 10 ^ length s = ap (λ (n : ℕ). 10 ^ n) h.upper in
    let down : 10 ^ length r ≡ 10 ^ length t = ap (λ (n : ℕ). 10 ^ n) h.lower in
    record {
      value =
          subst (λ (p : ℕ). (d * 10 ^ length r + value_of r) + next * 10 ^ suc (length r) ≡ value_of (a ∷ s) + (b * p + value_of t)) down
          (subst (λ (p : ℕ). (d * 10 ^ length r + value_of r) + next * 10 ^ suc (length r)
          ≡ (a * p + value_of s) + (b * 10 ^ length r + value_of t)) up v);
      digits = (l, h.digits);
      upper = ap suc h.upper;
      lower = ap suc h.lower;
      most = n;
    }

pub carry_init : (s t items : List ℕ) (n : ℕ) → length s ≡ n → length t ≡ n → items ≡ [] → IsCarried (drop n s) (drop n t) (reverse items) 0
carry_init s t items n h k e =
    let none : IsCarried [] [] [] 0 = record { value = refl; digits = tt; upper = refl; lower = refl; most = omega arith } in
    rw (drop_all s n (omega arith), drop_all t n (omega arith), e) none

pub carry_step : (s t old new : List ℕ) (i j a b c d next n : ℕ) → length s ≡ n → length t ≡ n → i < n → j ≡ suc i → a ≡ get_or s i 0
    → b ≡ get_or t i 0
    → d + 10 * next ≡ a + b + c → d < 10 → next ≤ 1 → new ≡ old ++ d ∷ [] → IsCarried (drop j s) (drop j t) (reverse old) c
    → IsCarried (drop i s) (drop i t) (reverse new) next
carry_step s t old new i j a b c d next n hs ht l e ea eb v below least pushed h =
    let more : IsCarried (a ∷ drop j s) (b ∷ drop j t) (d ∷ reverse old) next =
    carry_more a b c d next (drop j s) (drop j t) (reverse old) h v below least in
    let first : IsCarried (drop i s) (b ∷ drop j t) (d ∷ reverse old) next
    = subst (λ (u : List ℕ). IsCarried u (b ∷ drop j t) (d ∷ reverse old) next) (sym (dropped s i j a (omega arith) e ea)) more in
    let second : IsCarried (drop i s) (drop i t) (d ∷ reverse old) next
    = subst (λ (u : List ℕ). IsCarried (drop i s) u (d ∷ reverse old) next) (sym (dropped t i j b (omega arith) e eb)) first in
    subst (λ (u : List ℕ). IsCarried (drop i s) (drop i t) u next) (sym (added_first old new d pushed)) second

sum_of : (s t r : List ℕ) (c : ℕ) → IsCarried s t r c → IsSum s t (c ∷ r)
sum_of s t r c h =
    let v : value_of r + c * 10 ^ length r ≡ value_of s + value_of t = h.value in
    let l : c ≤ 1 = h.most in
    let n : length r ≡ length s = h.upper in
    record { value = omega arith; digits = (omega arith, h.digits); places = omega arith }

-- all columns, and what is carried
pub carry_all : (s t items last new : List ℕ) (i c : ℕ) → i ≡ 0 → last ≡ items ++ c ∷ [] → new ≡ reverse last
    → IsCarried (drop i s) (drop i t) (reverse items) c
    → IsSum s t new
carry_all s t items last new i c none pushed e h =
    let k : IsCarried (drop 0 s) (drop 0 t) (reverse items) c =
    subst (λ (n : ℕ). IsCarried (drop n s) (drop n t) (reverse items) c) none h in
    subst (λ (u : List ℕ). IsSum s t u) (sym (e ∙ added_first items last c pushed)) (sum_of s t (reverse items) c k)
