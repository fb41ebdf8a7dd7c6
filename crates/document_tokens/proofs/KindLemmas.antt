-- What is open, as bits.
use Rattle.std.proofs.Common.{◌≡◌, ℕ, zero, suc, ◌+◌, ◌*◌, ◌/◌, ◌^◌, ◌<◌, ◌≤◌, ◌∷◌, Bool, true, false, cond, length, lit≤, refl, ap, subst, arith}
use mir.Val.{bool_byte}
use Rattle.std.proofs.Math.Pow.{pow_mono}
use Rattle.std.proofs.lemmas.Nat.{div-mul-add, mod-mul-add}
use Rattle.document_tokens.specs.Inner.OpenKinds.{open_of}

sucs : (n : ℕ) → n + 1 ≡ suc n
sucs n = omega arith

-- one bit more
pub opened_more : (count objects : ℕ) (is_object : Bool) (bit : ℕ) → bit ≡ cond is_object 1 0
    → open_of (count + 1) (objects * 2 + bit) ≡ is_object ∷ open_of count objects
opened_more count objects true bit is =
    rw (sucs count, is, mod-mul-add objects 2 1 (omega arith), div-mul-add objects 2 1 (omega arith)) refl
opened_more count objects false bit is =
    rw (sucs count, is, mod-mul-add objects 2 0 (omega arith), div-mul-add objects 2 0 (omega arith)) refl

pow-suc : (n : ℕ) → 2 ^ suc n ≡ 2 ^ n * 2
pow-suc n = omega (arith)

twice_below : (n bit p q : ℕ) → n < p → p * 2 ≤ q → bit ≤ 1 → n * 2 + bit < q
twice_below n bit p q less room small = omega arith

-- a bit more is a power of two more
pub more_below : (n bit count most : ℕ) → n < 2 ^ count → suc count ≤ most → bit ≤ 1 → n * 2 + bit < 2 ^ most
more_below n bit count most less room small =
    twice_below n bit (2 ^ count) (2 ^ most) less
    (subst (λ (p : ℕ). p ≤ 2 ^ most) (pow-suc count) (pow_mono {i = suc count} {j = most} room)) small

pub length_opened : (count objects : ℕ) → length (open_of count objects) ≡ count
length_opened zero objects = refl
length_opened (suc count) objects = ap suc (length_opened count (objects / 2))

-- the number of a truth value
pub bit_of : (b : Bool) → bool_byte b ≡ cond b 1 0
bit_of true = refl
bit_of false = refl

pub bit_small : (b : Bool) → bool_byte b ≤ 1
bit_small true = lit≤ tt
bit_small false = lit≤ tt
