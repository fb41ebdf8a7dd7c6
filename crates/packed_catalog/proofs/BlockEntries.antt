-- The entries that are read from a block.
use Rattle.std.proofs.Common.{◌≡◌, ℕ, zero, suc, ◌+◌, ◌*◌, ◌<◌, List, [], ◌∷◌, length, get_or, refl, ap, ◌∙◌, arith, Some, sym}
use Rattle.std.specs.Prelude.{slice_get}
use Rattle.packed_catalog.specs.CatalogBytes.{entry_keys_of, pieces_of}
use Rattle.packed_catalog.specs.CatalogFaults.{count_in, key_in, piece_in}
use Rattle.packed_catalog.specs.Inner.CatalogReading.{entries_from, entries_in, entry_in}

-- so many pieces, from one on
abbrev pub pieces_in : List ℕ → ℕ → ℕ → List (List ℕ)
pieces_in bytes k zero = []
pieces_in bytes k (suc m) = piece_in bytes k ∷ pieces_in bytes (suc k) m

-- twice a number more
pub twice : (n : ℕ) → 2 * suc n ≡ suc (suc (2 * n))
twice n = omega arith

-- the pieces of the entries from a place on
pieces_of-entries_from : (bytes : List ℕ) (index n : ℕ) → pieces_of (entries_from bytes index n) ≡ pieces_in bytes (2 * index) (2 * n)
pieces_of-entries_from bytes index zero = refl
pieces_of-entries_from bytes index (suc n) =
    let again = pieces_of-entries_from bytes (suc index) n in
    ap (λ ps. piece_in bytes (2 * index) ∷ piece_in bytes (suc (2 * index)) ∷ ps)
    (again ∙ ap (λ k. pieces_in bytes k (2 * n)) (twice index))
    ∙ ap (pieces_in bytes (2 * index)) (sym (twice n))

-- the pieces of the entries
pub pieces_of-entries_in : (bytes : List ℕ) → pieces_of (entries_in bytes) ≡ pieces_in bytes 0 (2 * count_in bytes)
unfolding entries_in
pieces_of-entries_in bytes = pieces_of-entries_from bytes 0 (count_in bytes)

length-entries_from : (bytes : List ℕ) (index n : ℕ) → length (entries_from bytes index n) ≡ n
length-entries_from bytes index zero = refl
length-entries_from bytes index (suc n) = ap suc (length-entries_from bytes (suc index) n)

-- how many entries there are
pub length-entries_in : (bytes : List ℕ) → length (entries_in bytes) ≡ count_in bytes
unfolding entries_in
length-entries_in bytes = length-entries_from bytes 0 (count_in bytes)

slice_get-entries_from : (bytes : List ℕ) (index n k : ℕ) → k < n → slice_get (entries_from bytes index n) k
    ≡ Some (entry_in bytes (index + k))
slice_get-entries_from bytes index zero k h = absurd (omega arith)
slice_get-entries_from bytes index (suc n) zero h = ap (λ i. Some (entry_in bytes i)) (omega arith)
slice_get-entries_from bytes index (suc n) (suc k) h =
    slice_get-entries_from bytes (suc index) n k (omega arith) ∙ ap (λ i. Some (entry_in bytes i)) (omega arith)

-- the entry at a place
pub slice_get-entries_in : (bytes : List ℕ) (k : ℕ) → k < count_in bytes → slice_get (entries_in bytes) k ≡ Some (entry_in bytes k)
unfolding entries_in
slice_get-entries_in bytes k h = slice_get-entries_from bytes 0 (count_in bytes) k h ∙ ap (λ i. Some (entry_in bytes i)) (omega arith)

get_or-keys_of : (bytes : List ℕ) (index n k : ℕ) → k < n → get_or (entry_keys_of (entries_from bytes index n)) k [] ≡ key_in bytes (index + k)
get_or-keys_of bytes index zero k h = absurd (omega arith)
get_or-keys_of bytes index (suc n) zero h = ap (key_in bytes) (omega arith)
get_or-keys_of bytes index (suc n) (suc k) h = get_or-keys_of bytes (suc index) n k (omega arith) ∙ ap (key_in bytes) (omega arith)

-- the key at a place
pub get_or-keys_in : (bytes : List ℕ) (k : ℕ) → k < count_in bytes → get_or (entry_keys_of (entries_in bytes)) k [] ≡ key_in bytes k
unfolding entries_in
get_or-keys_in bytes k h = get_or-keys_of bytes 0 (count_in bytes) k h ∙ ap (key_in bytes) (omega arith)
