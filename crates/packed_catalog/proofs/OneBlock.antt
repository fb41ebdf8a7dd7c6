-- What bytes encode is what is read from them.
use Rattle.std.proofs.Common.{◌≡◌, ℕ, zero, suc, ◌+◌, ◌-◌, ◌*◌, ◌<◌, ◌≤◌, List, [], ◌∷◌, ◌++◌, length, drop, take, refl, sym, ap, ◌∙◌}
use Rattle.std.proofs.Common.{arith, length-append, subst, ◌↔◌}
use Rattle.std.proofs.lemmas.List.{drop-drop, drop_at, length-map, take_at}
use Rattle.std.proofs.lemmas.Map.Keys.{Less-from_sorted}
use Rattle.std.specs.Cmp.Lexicographic.{slice_cmp}
use Rattle.std.specs.List.{concat}
use Rattle.std.specs.Ordering.{nat_cmp}
use Rattle.std.specs.Prelude.{flat_map}
use Rattle.packed_catalog.specs.CatalogBytes.{AreSorted, CatalogBytes, Entry, catalog_bytes, ends_from, four_bytes, entry_keys_of, pieces_of}
use Rattle.packed_catalog.specs.CatalogFaults.{count_in, data_in, piece_in, start_of}
use Rattle.packed_catalog.specs.Inner.CatalogReading.{IsBlock, entries_in}
use Rattle.packed_catalog.proofs.FourBytes.{length-flat_map_four_bytes, number_spelled}
use Rattle.packed_catalog.proofs.BlockEntries.{get_or-keys_in, length-entries_in, pieces_in, pieces_of-entries_in, twice}

-- from piece k on the bytes encode these pieces
record EncodesFrom (bytes rest : List ℕ) (k : ℕ) (ps : List (List ℕ)) : Type 0 where
  ends : drop (4 * suc k) bytes ≡ flat_map four_bytes (ends_from (start_of bytes k) ps) ++ rest
  content : drop (start_of bytes k) (data_in bytes) ≡ concat ps

-- the next piece starts behind a piece
next_start : (bytes rest : List ℕ) (k : ℕ) (p : List ℕ) (ps : List (List ℕ)) → EncodesFrom bytes rest k (p ∷ ps)
    → start_of bytes (suc k) ≡ start_of bytes k + length p
next_start bytes rest k p ps h =
    let end : ℕ = start_of bytes k + length p in
    number_spelled bytes (4 * suc k) end (flat_map four_bytes (ends_from end ps) ++ rest) h.ends

-- and those after it are encoded from there on
next_encodes : (bytes rest : List ℕ) (k : ℕ) (p : List ℕ) (ps : List (List ℕ)) → EncodesFrom bytes rest k (p ∷ ps)
    → EncodesFrom bytes rest (suc k) ps
next_encodes bytes rest k p ps h =
    let s = next_start bytes rest k p ps h in
    let n : 4 * suc (suc k) ≡ 4 * suc k + 4 = omega arith in
    record {
      ends = ap (λ j. drop j bytes) n ∙ sym (drop-drop 4 (4 * suc k) bytes) ∙ ap (drop 4) h.ends
          ∙ ap (λ end. flat_map four_bytes (ends_from end ps) ++ rest) (sym s);
      content = ap (λ j. drop j (data_in bytes)) s ∙ sym (drop-drop (length p) (start_of bytes k) (data_in bytes))
          ∙ ap (drop (length p)) h.content
          ∙ drop_at p (concat ps) (length p) refl;
    }

-- the pieces that are encoded are those that are read
pieces_encoded : (bytes rest : List ℕ) (k : ℕ) (ps : List (List ℕ)) → EncodesFrom bytes rest k ps → pieces_in bytes k (length ps) ≡ ps
pieces_encoded bytes rest k [] h = refl
pieces_encoded bytes rest k (p ∷ ps) h =
    let s = next_start bytes rest k p ps h in
    let n : start_of bytes (suc k) - start_of bytes k ≡ length p = omega (arith, s) in
    let here : piece_in bytes k ≡ p =
    ap (λ j. take j (drop (start_of bytes k) (data_in bytes))) n ∙ ap (take (length p)) h.content ∙ take_at p (concat ps) (length p) refl in
    ap (λ q. q ∷ pieces_in bytes (suc k) (length ps)) here
    ∙ ap (λ qs. p ∷ qs) (pieces_encoded bytes rest (suc k) ps (next_encodes bytes rest k p ps h))

-- each of them starts no later than the next one
rises_encoded : (bytes rest : List ℕ) (k : ℕ) (ps : List (List ℕ)) → EncodesFrom bytes rest k ps
    → (j : ℕ) → j < length ps → start_of bytes (k + j) ≤ start_of bytes (suc (k + j))
rises_encoded bytes rest k [] h j l = absurd (omega arith)
rises_encoded bytes rest k (p ∷ ps) h zero l =
    let e : k + 0 ≡ k = omega arith in
    let s = next_start bytes rest k p ps h in
    rw e (omega (arith, s))
rises_encoded bytes rest k (p ∷ ps) h (suc j) l =
    let e : suc k + j ≡ k + suc j = omega arith in
    subst (λ n. start_of bytes n ≤ start_of bytes (suc n)) e
    (rises_encoded bytes rest (suc k) ps (next_encodes bytes rest k p ps h) j (omega arith))

-- the last of them ends where they all end
whole_encoded : (bytes rest : List ℕ) (k : ℕ) (ps : List (List ℕ)) → EncodesFrom bytes rest k ps
    → start_of bytes (k + length ps) ≡ start_of bytes k + length (concat ps)
whole_encoded bytes rest k [] h = let e : k + 0 ≡ k = omega arith in rw e (omega arith)
whole_encoded bytes rest k (p ∷ ps) h =
    let s = next_start bytes rest k p ps h in
    let e : k + suc (length ps) ≡ suc k + length ps = omega arith in
    let again = whole_encoded bytes rest (suc k) ps (next_encodes bytes rest k p ps h) in
    ap (start_of bytes) e ∙ again ∙ omega (arith, s, length-append p (concat ps))

-- an entry has two pieces
length-pieces_of : (entries : List Entry) → length (pieces_of entries) ≡ 2 * length entries
length-pieces_of [] = refl
length-pieces_of (entry ∷ entries) = ap (λ n. suc (suc n)) (length-pieces_of entries) ∙ sym (twice (length entries))

-- a piece has one end
length-ends_from : (place : ℕ) (ps : List (List ℕ)) → length (ends_from place ps) ≡ length ps
length-ends_from place [] = refl
length-ends_from place (p ∷ ps) = ap suc (length-ends_from (place + length p) ps)

-- entries are told by their pieces
same_entries : (es fs : List Entry) → pieces_of es ≡ pieces_of fs → es ≡ fs
same_entries [] [] h = refl
same_entries [] (f ∷ fs) h = absurd (cc)
same_entries (e ∷ es) [] h = absurd (cc)
same_entries (e ∷ es) (f ∷ fs) h =
    let key : e.key ≡ f.key = cc in
    let value : e.value ≡ f.value = cc in
    let rest : pieces_of es ≡ pieces_of fs = cc in
    let here : e ≡ f = λ i. record { key = key i; value = value i } in
    ap (λ x. x ∷ es) here ∙ ap (λ xs. f ∷ xs) (same_entries es fs rest)

-- what bytes of entries hold
record Holds (entries : List Entry) (bytes : List ℕ) : Type 0 where
  count : count_in bytes ≡ length entries
  content : data_in bytes ≡ concat (pieces_of entries)
  long : length bytes ≡ 4 + 8 * count_in bytes + length (data_in bytes)
  pieces : EncodesFrom bytes (concat (pieces_of entries)) 0 (pieces_of entries)

holds : (entries : List Entry) (bytes : List ℕ) → bytes ≡ catalog_bytes entries → Holds entries bytes
holds entries bytes h =
    let ps : List (List ℕ) = pieces_of entries in
    let ends : List ℕ = flat_map four_bytes (ends_from 0 ps) in
    let n : ℕ = length entries in
    let c : count_in bytes ≡ n = number_spelled bytes 0 n (ends ++ concat ps) h in
    let behind : drop 4 bytes ≡ ends ++ concat ps = ap (drop 4) h in
    let l : length ends ≡ 8 * n = omega
    (arith, length-flat_map_four_bytes (ends_from 0 ps), length-ends_from 0 ps, length-pieces_of entries) in
    let content : data_in bytes ≡ concat ps =
    ap (λ m. drop (4 + 8 * m) bytes) c ∙ sym (drop-drop (8 * n) 4 bytes) ∙ ap (drop (8 * n)) behind ∙ drop_at ends (concat ps) (8 * n) l in
    record {
      count = c;
      content = content;
      long = omega (arith, c, ap length content, ap length h, l, length-append ends (concat ps));
      pieces = record { ends = behind; content = content };
    }

-- bytes encode only the entries that are read from them
pub entries_in_one : (entries : List Entry) (bytes : List ℕ) → bytes ≡ catalog_bytes entries → entries_in bytes ≡ entries
entries_in_one entries bytes h =
    let g = holds entries bytes h in
    let n : 2 * count_in bytes ≡ length (pieces_of entries) = omega (arith, g.count, length-pieces_of entries) in
    same_entries (entries_in bytes) entries
    (pieces_of-entries_in bytes ∙ ap (pieces_in bytes 0) n
    ∙ pieces_encoded bytes (concat (pieces_of entries)) 0 (pieces_of entries) g.pieces)

-- bytes that encode a catalogue have no fault
pub encoded_block : (entries : List Entry) (bytes : List ℕ) → CatalogBytes entries bytes → IsBlock bytes
encoded_block entries bytes h =
    let g = holds entries bytes h.spelled in
    let ps : List (List ℕ) = pieces_of entries in
    let n : 2 * count_in bytes ≡ length ps = omega (arith, g.count, length-pieces_of entries) in
    let m : 2 * count_in bytes ≡ 0 + length ps = omega (arith, n) in
    let whole : start_of bytes (2 * count_in bytes) ≡ 0 + length (concat ps) =
    ap (start_of bytes) m ∙ whole_encoded bytes (concat ps) 0 ps g.pieces in
    let same = entries_in_one entries bytes h.spelled in
    let keys : List (List ℕ) = entry_keys_of (entries_in bytes) in
    let sorted : AreSorted (entries_in bytes) = subst AreSorted (sym same) h.can_pack.sorted in
    let many : length keys ≡ count_in bytes = length-map (entries_in bytes) (λ (entry : Entry). entry.key) ∙ length-entries_in bytes in
    record {
      ends = record {
        data_is = record {
          header = omega (arith, g.long);
          whole = omega (arith, whole, ap length g.content);
        };
        rises = λ k l. let e : 0 + k ≡ k = omega arith in
            subst (λ j. start_of bytes j ≤ start_of bytes (suc j)) e (rises_encoded bytes (concat ps) 0 ps g.pieces k (omega (arith, n)));
      };
      sorted = λ k l.
          rw (← get_or-keys_in bytes k (omega arith), ← get_or-keys_in bytes (suc k) l)
          (Less-from_sorted (slice_cmp nat_cmp) keys k (suc k) [] sorted (omega arith) (omega (arith, many)));
    }

-- bytes of catalogues are the same if and only if the entries are
pub one_catalog_for_bytes : (entries others : List Entry) (a b : List ℕ) → CatalogBytes entries a → CatalogBytes others b
    → (a ≡ b) ↔ (entries ≡ others)
one_catalog_for_bytes entries others a b h g = (
  (λ e. sym (entries_in_one entries a h.spelled) ∙ ap entries_in e ∙ entries_in_one others b g.spelled),
  (λ e. h.spelled ∙ ap catalog_bytes e ∙ sym g.spelled),
)
