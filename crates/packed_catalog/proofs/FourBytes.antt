-- Numbers in four bytes each.
use Rattle.std.proofs.Common.{◌≡◌, ℕ, ◌+◌, ◌*◌, ◌/◌, ◌%◌, ◌<◌, ◌≤◌, List, [], ◌∷◌, ◌++◌, length, drop, get_or, refl, sym, ap, ◌∙◌, arith}
use Rattle.std.proofs.lemmas.List.{drop_more, get_or-drop}
use Rattle.std.specs.Prelude.{flat_map}
use Rattle.packed_catalog.specs.CatalogBytes.{four_bytes}
use Rattle.packed_catalog.specs.CatalogFaults.{four_byte_number_at}

-- a number comes back from its four bytes
pub four_bytes_again : (n : ℕ) → n % 256 + 256 * (n / 256 % 256) + 65536 * (n / 256 / 256 % 256) + 16777216 * (n / 256 / 256 / 256) ≡ n
four_bytes_again n = omega arith

-- the four bytes of a number that is read from four bytes are those four bytes
pub four_bytes-number : (a b c d : ℕ) → a < 256 → b < 256 → c < 256 → d < 256
    → four_bytes (a + 256 * b + 65536 * c + 16777216 * d) ≡ a ∷ b ∷ c ∷ d ∷ []
four_bytes-number a b c d la lb lc ld =
    let n : ℕ = a + 256 * b + 65536 * c + 16777216 * d in
    let m : n / 256 ≡ b + 256 * c + 65536 * d = omega arith in
    let l : n / 256 / 256 ≡ c + 256 * d = omega arith in
    let ea : n % 256 ≡ a = omega arith in
    let eb : n / 256 % 256 ≡ b = omega arith in
    let ec : n / 256 / 256 % 256 ≡ c = omega arith in
    let ed : n / 256 / 256 / 256 ≡ d = omega arith in
    rw (ea, eb, ec, ed) refl

-- numbers take four bytes each
pub length-flat_map_four_bytes : (ns : List ℕ) → length (flat_map four_bytes ns) ≡ 4 * length ns
length-flat_map_four_bytes [] = refl
length-flat_map_four_bytes (n ∷ ns) = let h = length-flat_map_four_bytes ns in omega arith

-- the four bytes at a place, and what follows them
pub drop-four : (bytes : List ℕ) (place : ℕ) → place + 4 ≤ length bytes
    → drop place bytes ≡ get_or bytes place 0 ∷ get_or bytes (place + 1) 0 ∷ get_or bytes (place + 2) 0 ∷ get_or bytes (place + 3) 0
    ∷ drop (place + 4) bytes
drop-four bytes place h =
    let e : (n m k : ℕ) → n + m ≡ k → drop (place + n + m) bytes ≡ drop (place + k) bytes =
    λ n m k g. ap (λ p. drop p bytes) (omega (arith, g)) in
    let one = drop_more bytes place 0 (omega arith) in
    let two = drop_more bytes (place + 1) 0 (omega arith) in
    let three = drop_more bytes (place + 2) 0 (omega arith) in
    let four = drop_more bytes (place + 3) 0 (omega arith) in
    rw (one, two, e 1 1 2 refl, three, e 2 1 3 refl, four, e 3 1 4 refl) refl

-- the number that is spelled at a place
pub number_spelled : (bytes : List ℕ) (place n : ℕ) (rest : List ℕ) → drop place bytes ≡ four_bytes n ++ rest
    → four_byte_number_at bytes place ≡ n
number_spelled bytes place n rest h =
    let at : (i : ℕ) → get_or bytes (place + i) 0 ≡ get_or (four_bytes n ++ rest) i 0 =
    λ i. sym (get_or-drop place bytes i 0) ∙ ap (λ (l : List ℕ). get_or l i 0) h in
    let zero : get_or bytes place 0 ≡ n % 256 = ap (λ p. get_or bytes p 0) (omega arith) ∙ at 0 in
    rw (zero, at 1, at 2, at 3) (four_bytes_again n)
