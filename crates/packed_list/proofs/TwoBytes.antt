-- Numbers in two bytes each.
use Rattle.std.proofs.Common.{◌≡◌, ℕ, zero, suc, ◌+◌, ◌*◌, ◌/◌, ◌%◌, ◌<◌, List, [], ◌∷◌, ◌++◌, length, get_or, refl, sym, ap, ◌∙◌}
use Rattle.std.proofs.Common.{arith, Some}
use Rattle.std.specs.List.{slice_get}
use Rattle.std.specs.Prelude.{flat_map}
use Rattle.packed_list.specs.ListBytes.{two_bytes, two_byte_number}
use Rattle.packed_list.specs.Inner.ListReading.{numbers}

-- a number comes back from its two bytes
pub two_bytes_again : (n : ℕ) → (n % 256) + 256 * (n / 256) ≡ n
two_bytes_again n = omega arith

-- two bytes at the front
pub two_byte_number-cons : (a b : ℕ) (bytes : List ℕ) (place : ℕ)
    → two_byte_number (a ∷ b ∷ bytes) (suc (suc place)) ≡ two_byte_number bytes place
two_byte_number-cons a b bytes place =
    let e : suc (suc place) + 1 ≡ suc (suc (place + 1)) = omega arith in
    ap (λ at. get_or bytes place 0 + 256 * get_or (a ∷ b ∷ bytes) at 0) e

-- two bytes more for one number more
pub twice : (n : ℕ) → 2 * suc n ≡ suc (suc (2 * n))
twice n = omega arith

-- numbers take two bytes each
pub length-flat_map_two_bytes : (ns : List ℕ) → length (flat_map two_bytes ns) ≡ 2 * length ns
length-flat_map_two_bytes [] = refl
length-flat_map_two_bytes (n ∷ ns) = let h = length-flat_map_two_bytes ns in omega arith

-- the number at a place is in the two bytes at that place
pub two_byte_number-flat_map : (ns rest : List ℕ) (k : ℕ) → k < length ns
    → slice_get ns k ≡ Some (two_byte_number (flat_map two_bytes ns ++ rest) (2 * k))
two_byte_number-flat_map [] rest k h = absurd (omega arith)
two_byte_number-flat_map (n ∷ ns) rest zero h = ap Some (sym (two_bytes_again n))
two_byte_number-flat_map (n ∷ ns) rest (suc k) h =
    let l : k < length ns = omega arith in
    let again = two_byte_number-flat_map ns rest k l in
    let all : List ℕ = flat_map two_bytes (n ∷ ns) ++ rest in
    again ∙ ap Some (sym (ap (two_byte_number all) (twice k)
    ∙ two_byte_number-cons (n % 256) (n / 256) (flat_map two_bytes ns ++ rest) (2 * k)))

-- numbers come back from their bytes
pub numbers-flat_map : (ns rest : List ℕ) → numbers (length ns) (flat_map two_bytes ns ++ rest) ≡ ns
numbers-flat_map [] rest = refl
numbers-flat_map (n ∷ ns) rest = rw (two_bytes_again n, numbers-flat_map ns rest) refl
