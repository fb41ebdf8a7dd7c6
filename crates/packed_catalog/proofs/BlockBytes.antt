-- A block encodes the entries that are read from it.
use Rattle.std.proofs.Common.{◌≡◌, ℕ, zero, suc, ◌+◌, ◌-◌, ◌*◌, ◌<◌, ◌≤◌, ◌^◌, List, [], ◌∷◌, ◌++◌, length, drop, take, get_or, refl, sym}
use Rattle.std.proofs.Common.{ap, ◌∙◌, arith, length-drop, lit<, subst}
use Rattle.std.proofs.lemmas.Cmp.{nat_list_cmp_total}
use Rattle.std.proofs.lemmas.List.{drop_all, drop-drop, length-map, length-take-le, take-append-drop}
use Rattle.std.proofs.lemmas.List.Folds.{drop_split}
use Rattle.std.proofs.lemmas.Map.Keys.{sorted_from_all_adjacent}
use Rattle.std.specs.List.{concat}
use Rattle.std.specs.Prelude.{flat_map, slice_index}
use Rattle.packed_catalog.specs.CatalogBytes.{AreSorted, CatalogBytes, Entry, ends_from, four_bytes, entry_keys_of, pieces_of}
use Rattle.packed_catalog.specs.CatalogFaults.{HasGoodEnds, count_in, data_in, piece_in, start_of}
use Rattle.packed_catalog.specs.Inner.CatalogReading.{IsBlock, entries_in}
use Rattle.packed_catalog.proofs.FourBytes.{drop-four, four_bytes-number}
use Rattle.packed_catalog.proofs.BlockEntries.{get_or-keys_in, length-entries_in, pieces_in, pieces_of-entries_in}

-- each number of a list is a byte
abbrev pub AreBytes : List ℕ → Type 0
AreBytes bytes = (i : ℕ) → slice_index bytes i < 256

-- so many starts, from that behind a piece on
abbrev starts_in : List ℕ → ℕ → ℕ → List ℕ
starts_in bytes k zero = []
starts_in bytes k (suc m) = start_of bytes (suc k) ∷ starts_in bytes (suc k) m

-- a piece starts no later than each piece after it
pub rises-on : (bytes : List ℕ) → HasGoodEnds bytes → (k m : ℕ) → k + m ≤ 2 * count_in bytes → start_of bytes k ≤ start_of bytes (k + m)
rises-on bytes h k zero l = let e : k + 0 ≡ k = omega arith in rw e (omega arith)
rises-on bytes h k (suc m) l =
    let here = h.rises k (omega arith) in
    let again = rises-on bytes h (suc k) m (omega arith) in
    let e : suc k + m ≡ k + suc m = omega arith in
    subst (λ n. start_of bytes k ≤ start_of bytes n) e (omega (arith, here, again))

-- a piece starts within the data
pub starts_within : (bytes : List ℕ) → HasGoodEnds bytes → (k : ℕ) → k ≤ 2 * count_in bytes → start_of bytes k ≤ length (data_in bytes)
starts_within bytes h k l =
    let n = 2 * count_in bytes in
    let e : k + (n - k) ≡ n = omega arith in
    subst (λ m. start_of bytes k ≤ m) h.data_is.whole
    (subst (λ m. start_of bytes k ≤ start_of bytes m) e (rises-on bytes h k (n - k) (omega arith)))

-- a piece ends where the next one starts
length-piece_in : (bytes : List ℕ) → HasGoodEnds bytes → (k : ℕ) → k < 2 * count_in bytes
    → start_of bytes k + length (piece_in bytes k) ≡ start_of bytes (suc k)
length-piece_in bytes h k l =
    let rise = h.rises k l in
    let within = starts_within bytes h (suc k) (omega arith) in
    let fits : start_of bytes (suc k) - start_of bytes k ≤ length (drop (start_of bytes k) (data_in bytes)) =
    omega (arith, within, length-drop (start_of bytes k) (data_in bytes)) in
    let e = length-take-le (start_of bytes (suc k) - start_of bytes k) (drop (start_of bytes k) (data_in bytes)) fits in
    omega (arith, e, rise)

-- four bytes hold where a piece starts
start-small : (bytes : List ℕ) → AreBytes bytes → (k : ℕ) → start_of bytes k < 2 ^ 32
start-small bytes is zero = lit< tt
start-small bytes is (suc k) =
    let p : ℕ = 4 * suc k in
    omega (arith, is p, is (p + 1), is (p + 2), is (p + 3))

-- the pieces end at their numbers
ends_from-pieces_in : (bytes : List ℕ) → HasGoodEnds bytes → (k m : ℕ) → k + m ≤ 2 * count_in bytes
    → ends_from (start_of bytes k) (pieces_in bytes k m) ≡ starts_in bytes k m
ends_from-pieces_in bytes h k zero l = refl
ends_from-pieces_in bytes h k (suc m) l =
    let e = length-piece_in bytes h k (omega arith) in
    ap (λ p. p ∷ ends_from p (pieces_in bytes (suc k) m)) e
    ∙ ap (λ ps. start_of bytes (suc k) ∷ ps) (ends_from-pieces_in bytes h (suc k) m (omega arith))

-- the numbers, spelled, are the bytes that they are read from
flat_map-starts_in : (bytes : List ℕ) → AreBytes bytes → (k m : ℕ) → 4 * suc k + 4 * m ≤ length bytes
    → flat_map four_bytes (starts_in bytes k m) ≡ take (4 * m) (drop (4 * suc k) bytes)
flat_map-starts_in bytes is k zero l = refl
flat_map-starts_in bytes is k (suc m) l =
    let p : ℕ = 4 * suc k in
    let e : 4 * suc m ≡ suc (suc (suc (suc (4 * m)))) = omega arith in
    let n : p + 4 ≡ 4 * suc (suc k) = omega arith in
    let again = flat_map-starts_in bytes is (suc k) m (omega arith) in
    let a : ℕ = get_or bytes p 0 in
    let b : ℕ = get_or bytes (p + 1) 0 in
    let c : ℕ = get_or bytes (p + 2) 0 in
    let d : ℕ = get_or bytes (p + 3) 0 in
    let here = four_bytes-number a b c d (is p) (is (p + 1)) (is (p + 2)) (is (p + 3)) in
    let behind : drop p bytes ≡ a ∷ b ∷ c ∷ d ∷ drop (4 * suc (suc k)) bytes =
    drop-four bytes p (omega arith) ∙ ap (λ j. a ∷ b ∷ c ∷ d ∷ drop j bytes) n in
    ap (λ q. q ++ flat_map four_bytes (starts_in bytes (suc k) m)) here ∙ ap (λ q. a ∷ b ∷ c ∷ d ∷ q) again
    ∙ sym (ap (take (4 * suc m)) behind ∙ ap (λ j. take j (a ∷ b ∷ c ∷ d ∷ drop (4 * suc (suc k)) bytes)) e)

-- the pieces, joined, are the data
concat-pieces_in : (bytes : List ℕ) → HasGoodEnds bytes → (k m : ℕ) → k + m ≡ 2 * count_in bytes
    → concat (pieces_in bytes k m) ≡ drop (start_of bytes k) (data_in bytes)
concat-pieces_in bytes h k zero l =
    let e : k ≡ 2 * count_in bytes = omega arith in
    let w = ap (start_of bytes) e ∙ h.data_is.whole in
    sym (drop_all (start_of bytes k) (data_in bytes) (omega (arith, w)))
concat-pieces_in bytes h k (suc m) l =
    ap (λ p. piece_in bytes k ++ p) (concat-pieces_in bytes h (suc k) m (omega arith))
    ∙ sym (drop_split (data_in bytes) (start_of bytes k) (start_of bytes (suc k)) (h.rises k (omega arith)))

-- the keys rise
pub sorted_in : (bytes : List ℕ) → IsBlock bytes → AreSorted (entries_in bytes)
sorted_in bytes h =
    let keys : List (List ℕ) = entry_keys_of (entries_in bytes) in
    let n : length keys ≡ count_in bytes = length-map (entries_in bytes) (λ (entry : Entry). entry.key) ∙ length-entries_in bytes in
    sorted_from_all_adjacent nat_list_cmp_total keys []
    (λ k l. let s : suc k < count_in bytes = omega (arith, n) in
    let e : k + 1 ≡ suc k = omega arith in
    rw (e, get_or-keys_in bytes k (omega arith), get_or-keys_in bytes (suc k) s) (h.sorted k s))

-- a block encodes its entries
pub block_encodes : (bytes : List ℕ) → AreBytes bytes → IsBlock bytes → CatalogBytes (entries_in bytes) bytes
block_encodes bytes is h =
    let n : ℕ = count_in bytes in
    let entries : List Entry = entries_in bytes in
    let header : 4 + 8 * n ≤ length bytes = h.ends.data_is.header in
    let l : length entries ≡ n = length-entries_in bytes in
    let p : pieces_of entries ≡ pieces_in bytes 0 (2 * n) = pieces_of-entries_in bytes in
    let ends : ends_from 0 (pieces_of entries) ≡ starts_in bytes 0 (2 * n) =
    ap (ends_from 0) p ∙ ends_from-pieces_in bytes h.ends 0 (2 * n) (omega arith) in
    let content : concat (pieces_of entries) ≡ data_in bytes = ap concat p ∙ concat-pieces_in bytes h.ends 0 (2 * n) (omega arith) in
    let numbers : flat_map four_bytes (ends_from 0 (pieces_of entries)) ≡ take (8 * n) (drop 4 bytes) =
    ap (flat_map four_bytes) ends ∙ flat_map-starts_in bytes is 0 (2 * n) (omega arith) ∙ ap (λ m. take m (drop 4 bytes)) (omega arith) in
    let tail : data_in bytes ≡ drop (8 * n) (drop 4 bytes) = sym (drop-drop (8 * n) 4 bytes) in
    let front : bytes ≡ four_bytes n ++ drop 4 bytes =
    drop-four bytes 0 (omega arith)
    ∙ ap (λ q. q ++ drop 4 bytes) (sym (four_bytes-number (get_or bytes 0 0) (get_or bytes 1 0) (get_or bytes 2 0) (get_or bytes 3 0)
    (is 0) (is 1) (is 2) (is 3))) in
    record {
      can_pack = record {
        sorted = sorted_in bytes h;
        count = omega (arith, l, is 0, is 1, is 2, is 3);
        data_length = subst (λ m. m < 2 ^ 32) (h.ends.data_is.whole ∙ sym (ap length content)) (start-small bytes is (2 * n));
      };
      spelled = front ∙ rw (l, numbers, content, tail, take-append-drop (8 * n) (drop 4 bytes)) refl;
    }
