-- The bits of masks.
use Rattle.std.proofs.Common.{◌≡◌, ◌≢◌, ◌^◌, ℕ, zero, suc, ◌+◌, ◌-◌, ◌*◌, ◌/◌, ◌%◌, ◌<◌, ◌≤◌, Bool, true, false, refl, sym, ◌∙◌, ap, subst, arith, ⊎_elim, bit_and, bit_or}
use Rattle.std.specs.Prelude.{◌==◌, ◌&&◌, ◌||◌, not, nat_lt, nat_le, min, max, if◌then◌else◌}
use Rattle.plural_reference.specs.Truth.{remainder}
use Rattle.std.proofs.Math.Nat.{mod-add-mod, mod-eq_of_lt, mod-le, mod-lt, zero-mod, one-mul}
use Rattle.std.specs.Int.{w128, bit_at, bit_not, trailing_ones, trailing_zeros}
use Rattle.std.proofs.lemmas.Bool.{cases_lt, eqb-true, lt-ltb}
use Rattle.std.proofs.lemmas.Bool.Decides.{nat_tests}
use Rattle.std.proofs.lemmas.Nat.{div-add-mod', pow_pos, mul-mod_first, and_le_r}
use Rattle.std.proofs.lemmas.Nat.Bits.{bit_at-lt, bit_at_and, bit_at_or, bit_at_not, bit_at_ones, bit_at_ones_above, bit_at_cat_low, bit_at_cat_high, bit_at-zero, bit_at-pow_same, bit_at-pow_other, bit_at_lowest, bit_at-suc, bit_at-trailing_ones, bit_at-trailing_zeros}
use Rattle.plural_base.specs.Inner.Masks.{has_bit}

-- ---- `&`, `|` and `!`

both_bits : (x y : ℕ) → x < 2 → y < 2 → (min x y == 1) ≡ ((x == 1) && (y == 1))
both_bits zero zero h i = refl
both_bits zero (suc zero) h i = refl
both_bits (suc zero) zero h i = refl
both_bits (suc zero) (suc zero) h i = refl
both_bits zero (suc (suc y)) h i = absurd (omega arith)
both_bits (suc zero) (suc (suc y)) h i = absurd (omega arith)
both_bits (suc (suc x)) y h i = absurd (omega arith)

either_bit : (x y : ℕ) → x < 2 → y < 2 → (max x y == 1) ≡ ((x == 1) || (y == 1))
either_bit zero zero h i = refl
either_bit zero (suc zero) h i = refl
either_bit (suc zero) zero h i = refl
either_bit (suc zero) (suc zero) h i = refl
either_bit zero (suc (suc y)) h i = absurd (omega arith)
either_bit (suc zero) (suc (suc y)) h i = absurd (omega arith)
either_bit (suc (suc x)) y h i = absurd (omega arith)

other_bit : (x : ℕ) → x < 2 → (1 - x == 1) ≡ not (x == 1)
other_bit zero h = refl
other_bit (suc zero) h = refl
other_bit (suc (suc x)) h = absurd (omega arith)

pub has-and : (a b k : ℕ) → has_bit (bit_and a b) k ≡ (has_bit a k && has_bit b k)
unfolding has_bit
has-and a b k =
    ap (λ bit. bit == 1) (bit_at_and a b k)
    ∙ both_bits (bit_at a k) (bit_at b k) (bit_at-lt a k) (bit_at-lt b k)

pub has-or : (a b k : ℕ) → has_bit (bit_or a b) k ≡ (has_bit a k || has_bit b k)
unfolding has_bit
has-or a b k =
    ap (λ bit. bit == 1) (bit_at_or a b k)
    ∙ either_bit (bit_at a k) (bit_at b k) (bit_at-lt a k) (bit_at-lt b k)

pub has-not : (a k : ℕ) → a < 2 ^ 128 → k < 128 → has_bit (bit_not w128 a) k ≡ not (has_bit a k)
unfolding has_bit
has-not a k fits within =
    ap (λ bit. bit == 1) (bit_at_not w128 a k fits within) ∙ other_bit (bit_at a k) (bit_at-lt a k)

-- ---- Runs of ones

pub has-none : (k : ℕ) → has_bit 0 k ≡ false
unfolding has_bit
has-none k = ap (λ bit. bit == 1) (bit_at-zero k)

not_below : (k limit : ℕ) → limit ≤ k → nat_lt k limit ≡ false
not_below k limit h = grind (arith, nat_tests)

-- the mask of the numbers below a limit
pub has-ones : (limit k : ℕ) → has_bit (2 ^ limit - 1) k ≡ nat_lt k limit
unfolding has_bit
has-ones limit k =
    ⊎_elim
    (λ below. ap (λ bit. bit == 1) (bit_at_ones limit k below) ∙ sym (lt-ltb k limit below))
    (λ above. ap (λ bit. bit == 1) (bit_at_ones_above limit k above) ∙ sym (not_below k limit above))
    (cases_lt k limit)

-- ---- `<<`

-- what leaves 128 bits is lost
low_bits : (n k : ℕ) → k < 128 → has_bit (n % 2 ^ 128) k ≡ has_bit n k
unfolding has_bit
low_bits n k within =
    ap (λ bit. bit == 1) (sym (bit_at_cat_low (n / 2 ^ 128) 128 (n % 2 ^ 128) k within)
    ∙ ap (λ m. bit_at m k) (div-add-mod' n (2 ^ 128)))

add_nothing : (n : ℕ) → n + 0 ≡ n
add_nothing n = omega arith

-- below the shift there is nothing
pub has-shl_low : (a shift k : ℕ) → k < 128 → k < shift → has_bit (a * 2 ^ shift % 2 ^ 128) k ≡ false
unfolding has_bit
has-shl_low a shift k within below =
    low_bits (a * 2 ^ shift) k within
    ∙ ap (λ bit. bit == 1) (ap (λ n. bit_at n k) (sym (add_nothing (a * 2 ^ shift))) ∙ bit_at_cat_low a shift 0 k below ∙ bit_at-zero k)

-- from the shift on are the bits from 0 on
pub has-shl_high : (a shift k : ℕ) → k < 128 → shift ≤ k → has_bit (a * 2 ^ shift % 2 ^ 128) k ≡ has_bit a (k - shift)
unfolding has_bit
has-shl_high a shift k within from =
    let above : 0 < 2 ^ shift = pow_pos shift in
    low_bits (a * 2 ^ shift) k within
    ∙ ap (λ bit. bit == 1) (ap (λ n. bit_at n k) (sym (add_nothing (a * 2 ^ shift))) ∙ bit_at_cat_high a shift 0 k above from)

-- ---- Ranges, and masks that are repeated

-- the numbers below the number after an end, and not below a start
pub inside : (start end k : ℕ) → (nat_lt k (end + 1) && not (nat_lt k start)) ≡ (nat_le start k && nat_le k end)
inside start end k = grind (arith, nat_tests)

-- a multiple of the modulus more or less leaves the same
same_remainder : (m width k : ℕ) → width % m ≡ 0 → width ≤ k → (k - width) % m ≡ k % m
same_remainder m width k none from =
    let P : ℕ → Type 0 = λ r. (r + (k - width)) % m ≡ (width + (k - width)) % m in
    let first : 0 + (k - width) ≡ k - width = omega arith in
    let second : width + (k - width) ≡ k = omega (arith, from) in
    ap (λ n. n % m) (sym first) ∙ subst P none (mod-add-mod width m (k - width)) ∙ ap (λ n. n % m) second

or_false : (b : Bool) → (b || false) ≡ b
or_false true = refl
or_false false = refl

pub doubled : (width m : ℕ) → width % m ≡ 0 → width * 2 % m ≡ 0
doubled width m none = sym (mul-mod_first width 2 m) ∙ ap (λ r. r * 2 % m) none ∙ zero-mod m

-- the mask as far as it is repeated, and its double: in the part there
pub wider_low : (mask found m width k : ℕ) → width % m ≡ 0
    → ((j : ℕ) → j < 128 → j < width → has_bit found j ≡ has_bit mask (j % m))
    → ((j : ℕ) → j < 128 → width ≤ j → has_bit found j ≡ false)
    → k < 128 → k < width * 2 → has_bit (bit_or found (found * 2 ^ width % 2 ^ 128)) k ≡ has_bit mask (k % m)
wider_low mask found m width k none low high within below =
    has-or found (found * 2 ^ width % 2 ^ 128) k
    ∙ ⊎_elim
    (λ first. ap (λ b. has_bit found k || b) (has-shl_low found width k within first)
    ∙ or_false (has_bit found k)
    ∙ low k within first)
    (λ from. ap (λ b. b || has_bit (found * 2 ^ width % 2 ^ 128) k) (high k within from)
    ∙ has-shl_high found width k within from
    ∙ low (k - width) (omega (arith, within)) (omega (arith, from, below))
    ∙ ap (λ r. has_bit mask r) (same_remainder m width k none from))
    (cases_lt k width)

-- ... and above it
pub wider_high : (found width k : ℕ)
    → ((j : ℕ) → j < 128 → width ≤ j → has_bit found j ≡ false)
    → k < 128 → width * 2 ≤ k → has_bit (bit_or found (found * 2 ^ width % 2 ^ 128)) k ≡ false
wider_high found width k high within from =
    has-or found (found * 2 ^ width % 2 ^ 128) k
    ∙ ap (λ b. b || has_bit (found * 2 ^ width % 2 ^ 128) k) (high k within (omega (arith, from)))
    ∙ has-shl_high found width k within (omega (arith, from))
    ∙ high (k - width) (omega (arith, within)) (omega (arith, from))

pub not_both : (b : Bool) → b ≡ true → b ≡ false → ⊥
not_both true t f = cc
not_both false t f = cc

-- without a modulus, and by a greater one, a number leaves itself
pub leaves_itself : (m k : ℕ) → (m ≢ 0 → k < m) → remainder m k ≡ k
leaves_itself m k less = by (m == 0) refl
  where
    by : (none : Bool) → (m == 0) ≡ none → (if none then k else (k % m)) ≡ k
    by true e = refl
    by false e = mod-eq_of_lt (less (λ none. absurd (not_both (m == 0) (ap (λ n. n == 0) none) e)))

-- what is left of a number is not greater
pub remainder-below : (m k limit : ℕ) → k < limit → remainder m k < limit
remainder-below m k limit below = by (m == 0)
  where
    by : (none : Bool) → (if none then k else (k % m)) < limit
    by true = below
    by false = let less = mod-le k m in omega (arith, below, less)

and_true : (b : Bool) → (b && true) ≡ b
and_true true = refl
and_true false = refl

and_false : (b : Bool) → (b && false) ≡ false
and_false true = refl
and_false false = refl

-- what a mask has below a limit
pub cut_low : (mask cut limit k : ℕ) → has_bit cut k ≡ nat_lt k limit → k < limit → has_bit (bit_and mask cut) k ≡ has_bit mask k
cut_low mask cut limit k is below =
    has-and mask cut k ∙ ap (λ b. has_bit mask k && b) (is ∙ lt-ltb k limit below) ∙ and_true (has_bit mask k)

pub cut_high : (mask cut limit k : ℕ) → has_bit cut k ≡ nat_lt k limit → limit ≤ k → has_bit (bit_and mask cut) k ≡ false
cut_high mask cut limit k is above =
    has-and mask cut k ∙ ap (λ b. has_bit mask k && b) (is ∙ not_below k limit above) ∙ and_false (has_bit mask k)

-- ---- One number of a mask

one_fits : (place : ℕ) → 1 * 2 ^ place % 2 ^ 128 < 2 ^ 128
one_fits place = mod-lt (1 * 2 ^ place) (pow_pos 128)

-- a mask of one number has it, and its complement doesn't
has-one : (place : ℕ) → place < 128 → has_bit (1 * 2 ^ place % 2 ^ 128) place ≡ true
unfolding has_bit
has-one place within =
    low_bits (1 * 2 ^ place) place within
    ∙ ap (λ n. bit_at n place == 1) (one-mul (2 ^ place)) ∙ ap (λ bit. bit == 1) (bit_at-pow_same place)

pub lacks-one : (place : ℕ) → place < 128 → has_bit (bit_not w128 (1 * 2 ^ place % 2 ^ 128)) place ≡ false
lacks-one place within = has-not (1 * 2 ^ place % 2 ^ 128) place (one_fits place) within ∙ ap not (has-one place within)

-- the first number of a mask that isn't empty
pub first_of_mask : (mask : ℕ) → 0 < mask → mask < 2 ^ 128
    → (trailing_zeros w128 mask < 128) × (has_bit mask (trailing_zeros w128 mask) ≡ true)
    × ((k : ℕ) → k < trailing_zeros w128 mask → has_bit mask k ≡ false)
unfolding has_bit
first_of_mask mask above fits =
    let first = bit_at-trailing_zeros w128 mask above fits in
    (first.0, ap (λ bit. bit == 1) first.1, λ k below. ap (λ bit. bit == 1) (first.2 k below))

not_zero : (bit : ℕ) → bit ≡ 0 → bit ≡ 1 → ⊥
not_zero bit none one = omega (arith, none, one)

none_least : (bit : ℕ) → min bit 0 ≡ 0
none_least bit = omega arith

least_none : (bit : ℕ) → min 0 bit ≡ 0
least_none bit = omega arith

twice_least : (bit : ℕ) → min bit bit ≡ bit
twice_least bit = omega arith

-- half of one less than an even number that isn't 0
half_less : (place n : ℕ) → ((k : ℕ) → k < suc place → bit_at n k ≡ 0) → bit_at n (suc place) ≡ 1 → (n - 1) / 2 ≡ n / 2 - 1
half_less place n first here =
    let even : n % 2 ≡ 0 = sym (bit_at_lowest n) ∙ first 0 (omega arith) in
    let some : n ≢ 0 = λ none. not_zero (bit_at n (suc place)) (ap (λ m. bit_at m (suc place)) none ∙ bit_at-zero (suc place)) here in
    omega (arith, even, some)

-- one less than a number whose first bit is at a place: there it has none
less_there : (place n : ℕ) → ((k : ℕ) → k < place → bit_at n k ≡ 0) → bit_at n place ≡ 1 → bit_at (n - 1) place ≡ 0
less_there zero n first here =
    let odd : n % 2 ≡ 1 = sym (bit_at_lowest n) ∙ here in
    let rest : (n - 1) % 2 ≡ 0 = omega (arith, odd) in
    bit_at_lowest (n - 1) ∙ rest
less_there (suc place) n first here =
    let half = half_less place n first here in
    bit_at-suc (n - 1) place ∙ ap (λ m. bit_at m place) half
    ∙ less_there place (n / 2) (λ k below. sym (bit_at-suc n k) ∙ first (suc k) (omega (arith, below))) (sym (bit_at-suc n place) ∙ here)

-- ... and above it those of the number
less_above : (place n k : ℕ) → ((j : ℕ) → j < place → bit_at n j ≡ 0) → bit_at n place ≡ 1 → place < k → bit_at (n - 1) k ≡ bit_at n k
less_above place n zero first here above = absurd (omega (arith, above))
less_above zero n (suc k) first here above =
    let odd : n % 2 ≡ 1 = sym (bit_at_lowest n) ∙ here in
    let half : (n - 1) / 2 ≡ n / 2 = omega (arith, odd) in
    bit_at-suc (n - 1) k ∙ ap (λ m. bit_at m k) half ∙ sym (bit_at-suc n k)
less_above (suc place) n (suc k) first here above =
    bit_at-suc (n - 1) k ∙ ap (λ m. bit_at m k) (half_less place n first here)
    ∙ less_above place (n / 2) k (λ j below. sym (bit_at-suc n j) ∙ first (suc j) (omega (arith, below)))
    (sym (bit_at-suc n place) ∙ here) (omega (arith, above))
    ∙ sym (bit_at-suc n k)

-- without its first number a mask has the others
pub without_first_same : (mask : ℕ) → 0 < mask → mask < 2 ^ 128
    → has_bit (bit_and mask (mask - 1)) (trailing_zeros w128 mask) ≡ false
unfolding has_bit
without_first_same mask above fits =
    let first = bit_at-trailing_zeros w128 mask above fits in
    let place = trailing_zeros w128 mask in
    ap (λ bit. bit == 1) (bit_at_and mask (mask - 1) place ∙ ap (min (bit_at mask place)) (less_there place mask first.2 first.1)
    ∙ none_least (bit_at mask place))

pub without_first_other : (mask k : ℕ) → 0 < mask → mask < 2 ^ 128 → k ≢ trailing_zeros w128 mask
    → has_bit (bit_and mask (mask - 1)) k ≡ has_bit mask k
unfolding has_bit
without_first_other mask k above fits other =
    let first = bit_at-trailing_zeros w128 mask above fits in
    let place = trailing_zeros w128 mask in
    ap (λ bit. bit == 1) (bit_at_and mask (mask - 1) k
    ∙ ⊎_elim
    (λ below. ap (λ bit. min bit (bit_at (mask - 1) k)) (first.2 k below) ∙ least_none (bit_at (mask - 1) k) ∙ sym (first.2 k below))
    (λ from. ap (min (bit_at mask k)) (less_above place mask k first.2 first.1 (omega (arith, from, other))) ∙ twice_least (bit_at mask k))
    (cases_lt k place))

-- ... and is a smaller number
pub smaller : (mask : ℕ) → 0 < mask → bit_and mask (mask - 1) < mask
smaller mask above =
    let most : bit_and mask (mask - 1) ≤ mask - 1 = and_le_r mask (mask - 1) in
    omega (arith, most, above)

-- the numbers below the first that a mask lacks
pub ones_there : (mask k : ℕ) → mask < 2 ^ 128 → k < 128 → k < trailing_ones w128 mask → has_bit mask k ≡ true
unfolding has_bit
ones_there mask k fits within below =
    ⊎_elim
    (λ some. ap (λ bit. bit == 1) ((bit_at-trailing_ones w128 mask some).2 k below))
    (λ none. let all : mask ≡ 2 ^ 128 - 1 = omega (arith, fits, none) in
    ap (λ m. bit_at m k == 1) all ∙ ap (λ bit. bit == 1) (bit_at_ones 128 k within))
    (cases_lt (mask + 1) (2 ^ 128))

-- a mask of which another takes every number
pub none_open : (wanted closed k : ℕ) → closed < 2 ^ 128 → k < 128 → bit_and wanted (bit_not w128 closed) ≡ 0 → has_bit wanted k ≡ true
    → has_bit closed k ≡ true
none_open wanted closed k fits within none here = by (has_bit closed k) refl
  where
    by : (b : Bool) → has_bit closed k ≡ b → has_bit closed k ≡ true
    by true e = e
    by false e =
        absurd (not_both (has_bit (bit_and wanted (bit_not w128 closed)) k)
        (has-and wanted (bit_not w128 closed) k ∙ ap (λ b. b && has_bit (bit_not w128 closed) k) here ∙ has-not closed k fits within ∙ ap not e)
        (ap (λ n. has_bit n k) none ∙ has-none k))

-- tests of numbers
pub same_test : (a b : ℕ) → a ≡ b → (a == b) ≡ true
same_test a b is = grind (arith, nat_tests)

pub differs : (a b : ℕ) → a ≢ b → (a == b) ≡ false
differs a b apart = grind (arith, nat_tests)

-- the complement of a mask of one number has the others
pub lacks_place : (place k : ℕ) → place < 128 → k < 128 → has_bit (bit_not w128 (1 * 2 ^ place % 2 ^ 128)) k ≡ not (place == k)
unfolding has_bit
lacks_place place k within below = has-not (1 * 2 ^ place % 2 ^ 128) k (one_fits place) below ∙ ap not (by (place == k) refl)
  where
    by : (same : Bool) → (place == k) ≡ same → has_bit (1 * 2 ^ place % 2 ^ 128) k ≡ same
    by true e = ap (has_bit (1 * 2 ^ place % 2 ^ 128)) (sym (eqb-true place k e)) ∙ has-one place within
    by false e =
        let other : k ≢ place = λ same. not_both (place == k) (same_test place k (sym same)) e in
        low_bits (1 * 2 ^ place) k below ∙ ap (λ n. bit_at n k == 1) (one-mul (2 ^ place))
        ∙ ap (λ bit. bit == 1) (bit_at-pow_other place k other)
