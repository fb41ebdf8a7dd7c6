-- Bytes that pass the test are a list.
use Rattle.std.proofs.Common.{◌≡◌, ℕ, zero, suc, ◌+◌, ◌-◌, ◌*◌, ◌/◌, ◌%◌, ◌<◌, ◌≤◌, List, [], ◌∷◌, ◌++◌, length, drop, take, get_or}
use Rattle.std.proofs.Common.{refl, sym, ap, ◌∙◌, arith, length-drop, append-nil, subst, lit≤}
use Rattle.std.proofs.lemmas.List.{drop_more, take-append-drop, drop-drop, length-take-le}
use Rattle.std.specs.List.{concat, list_any, slice_range}
use Rattle.std.specs.Prelude.{Bool, flat_map, false, nat_lt}
use Rattle.std.proofs.lemmas.Bool.{le-ltb}
use Rattle.packed_list.specs.ListBytes.{two_bytes, starts_from, item_starts, list_bytes, two_byte_number, start_at}
use Rattle.packed_list.specs.Inner.ListReading.{numbers, pieces_from, items_in, IsList, HasGoodStarts, AreBytes}
use Rattle.packed_list.proofs.TwoBytes.{twice}

-- whether a start is above what two bytes hold
abbrev pub is_high : ℕ → Bool
is_high start = nat_lt 65535 start

-- from a place on, no start is below the one before it, and none is above the end
abbrev pub Rises : ℕ → List ℕ → ℕ → Type 0
Rises from [] end = from ≤ end
Rises from (start ∷ starts) end = (from ≤ start) × Rises start starts end

-- if starts rise up to an end, the first place is not above the end
pub rises-within : (from : ℕ) (sts : List ℕ) (end : ℕ) → Rises from sts end → from ≤ end
rises-within from [] end h = h
rises-within from (s ∷ sts) end h = let again = rises-within s sts end h.1 in omega (arith, h.0, again)

-- a piece of bytes extends from its first place to its last
pub length-slice_range : (bytes : List ℕ) (from to : ℕ) → from ≤ to → to ≤ length bytes → from + length (slice_range bytes from to) ≡ to
length-slice_range bytes from to h g =
    let l : to - from ≤ length (drop from bytes) = omega (arith, length-drop from bytes) in
    let e = length-take-le (to - from) (drop from bytes) l in
    omega (arith, e)

-- pieces that are cut at rising places start there
pub starts-pieces : (from : ℕ) (sts bytes : List ℕ) → Rises from sts (length bytes)
    → starts_from from (pieces_from from sts bytes) ≡ from ∷ sts
starts-pieces from [] bytes h = refl
starts-pieces from (s ∷ sts) bytes h =
    let e = length-slice_range bytes from s h.0 (rises-within s sts (length bytes) h.1) in
    ap (λ p. from ∷ starts_from p (pieces_from s sts bytes)) e ∙ ap (λ p. from ∷ p) (starts-pieces s sts bytes h.1)

-- pieces, joined again, are the bytes that were cut
pub concat-pieces : (from : ℕ) (sts bytes : List ℕ) → Rises from sts (length bytes)
    → concat (pieces_from from sts bytes) ≡ drop from bytes
concat-pieces from [] bytes h = append-nil (drop from bytes)
concat-pieces from (s ∷ sts) bytes h =
    let n : s ≡ from + (s - from) = omega (arith, h.0) in
    let d : drop s bytes ≡ drop (s - from) (drop from bytes) = ap (λ k. drop k bytes) n ∙ sym (drop-drop (s - from) from bytes) in
    ap (λ p. slice_range bytes from s ++ p) (concat-pieces s sts bytes h.1 ∙ d) ∙ take-append-drop (s - from) (drop from bytes)

-- there is one piece more than there are places
pub length-pieces : (from : ℕ) (sts bytes : List ℕ) → length (pieces_from from sts bytes) ≡ suc (length sts)
length-pieces from [] bytes = refl
length-pieces from (s ∷ sts) bytes = ap suc (length-pieces s sts bytes)

-- this many pairs of bytes hold this many numbers
pub length-numbers : (n : ℕ) (bytes : List ℕ) → 2 * n ≤ length bytes → length (numbers n bytes) ≡ n
length-numbers zero bytes h = refl
length-numbers (suc n) [] h = absurd (omega arith)
length-numbers (suc n) (a ∷ []) h = absurd (omega arith)
length-numbers (suc n) (a ∷ b ∷ bytes) h = ap suc (length-numbers n bytes (omega arith))

-- the two bytes of a number that is read from two bytes are those two bytes
pub two_bytes-number : (a b : ℕ) → a < 256 → b < 256 → two_bytes (a + 256 * b) ≡ a ∷ b ∷ []
two_bytes-number a b h g =
    let e : (a + 256 * b) % 256 ≡ a = omega arith in
    let f : (a + 256 * b) / 256 ≡ b = omega arith in
    rw (e, f) refl

-- the bytes of the numbers that are read from bytes are those bytes
pub numbers_spelled : (n : ℕ) (bytes : List ℕ) → AreBytes bytes → 2 * n ≤ length bytes
    → flat_map two_bytes (numbers n bytes) ≡ take (2 * n) bytes
numbers_spelled zero bytes is h = refl
numbers_spelled (suc n) [] is h = absurd (omega arith)
numbers_spelled (suc n) (a ∷ []) is h = absurd (omega arith)
numbers_spelled (suc n) (a ∷ b ∷ bytes) is h =
    let again = numbers_spelled n bytes (λ i. is (suc (suc i))) (omega arith) in
    let e = two_bytes-number a b (is 0) (is 1) in
    ap (λ p. p ++ flat_map two_bytes (numbers n bytes)) e ∙ ap (λ p. a ∷ b ∷ p) again ∙ sym (ap (λ k. take k (a ∷ b ∷ bytes)) (twice n))

-- a number of two bytes is at most 65535
pub numbers-small : (n : ℕ) (bytes : List ℕ) → AreBytes bytes → list_any is_high (numbers n bytes) ≡ false
numbers-small zero bytes is = refl
numbers-small (suc n) [] is = refl
numbers-small (suc n) (a ∷ []) is = refl
numbers-small (suc n) (a ∷ b ∷ bytes) is =
    let e : is_high (a + 256 * b) ≡ false = le-ltb 65535 (a + 256 * b) (omega (arith, is 0, is 1)) in
    rw e (numbers-small n bytes (λ i. is (suc (suc i))))

-- what the test of bytes has checked
pub record Passes (bytes : List ℕ) : Type 0 where
  pub two : 2 ≤ length bytes
  pub some : 0 < two_byte_number bytes 0
  pub header : 2 * two_byte_number bytes 0 ≤ length bytes
  pub rises : Rises 0 (numbers (two_byte_number bytes 0 - 1) (drop 2 bytes)) (length bytes - 2 * two_byte_number bytes 0)

-- the bytes of items, of which there is at least one
pub list_bytes-cons : (items : List (List ℕ)) → 0 < length items
    → list_bytes items ≡ two_bytes (length items) ++ (flat_map two_bytes (drop 1 (item_starts items)) ++ concat items)
list_bytes-cons [] h = absurd (omega arith)
list_bytes-cons (item ∷ items) h = refl

-- bytes that pass the test are the list that is read from them
pub passed : (bytes : List ℕ) → AreBytes bytes → Passes bytes → IsList bytes
unfolding items_in
passed [] is h = absurd (omega (arith, h.two))
passed (a ∷ []) is h = absurd (omega (arith, h.two))
passed (a ∷ b ∷ bytes) is h =
    let all : List ℕ = a ∷ b ∷ bytes in
    let n : ℕ = two_byte_number all 0 in
    let sts : List ℕ = numbers (n - 1) bytes in
    let items : List (List ℕ) = items_in all in
    let fits : 2 * (n - 1) ≤ length bytes = omega (arith, h.header, h.some) in
    let content : List ℕ = drop (2 * n) all in
    let r : Rises 0 sts (length content) = subst (λ e. Rises 0 sts e) (sym (length-drop (2 * n) all)) h.rises in
    let s : item_starts items ≡ 0 ∷ sts = starts-pieces 0 sts content r in
    let c : concat items ≡ content = concat-pieces 0 sts content r in
    let l : length items ≡ n = length-pieces 0 sts content ∙ ap suc (length-numbers (n - 1) bytes fits) ∙ omega (arith, h.some) in
    let pos : 0 < length items = omega (arith, l, h.some) in
    let e : 2 * n ≡ 2 + 2 * (n - 1) = omega (arith, h.some) in
    let tail : content ≡ drop (2 * (n - 1)) bytes = ap (λ k. drop k all) e ∙ sym (drop-drop (2 * (n - 1)) 2 all) in
    let front : flat_map two_bytes sts ≡ take (2 * (n - 1)) bytes = numbers_spelled (n - 1) bytes (λ i. is (suc (suc i))) fits in
    let spelled : list_bytes items ≡ all =
    list_bytes-cons items pos ∙ rw (l, s, c, tail, front, take-append-drop (2 * (n - 1)) bytes)
    (ap (λ p. p ++ bytes) (two_bytes-number a b (is 0) (is 1))) in
    record {
      can_pack = record {
        count = omega (arith, l, is 0, is 1);
        starts = ap (list_any is_high) s ∙ numbers-small (n - 1) bytes (λ i. is (suc (suc i)));
      };
      spelled = sym spelled;
    }

-- the two bytes at a place, and what follows them
pub drop-pair : (bytes : List ℕ) (place : ℕ) → place + 1 < length bytes
    → drop place bytes ≡ get_or bytes place 0 ∷ get_or bytes (place + 1) 0 ∷ drop (place + 2) bytes
drop-pair bytes place h =
    let l : place < length bytes = omega arith in
    let e : (place + 1) + 1 ≡ place + 2 = omega arith in
    drop_more bytes place 0 l ∙ ap (λ p. get_or bytes place 0 ∷ p) (drop_more bytes (place + 1) 0 h)
    ∙ ap (λ p. get_or bytes place 0 ∷ get_or bytes (place + 1) 0 ∷ drop p bytes) e

-- a later start is the number in two bytes of the header
pub start_at-one : (bytes : List ℕ) (k : ℕ) → start_at bytes (k + 1) ≡ two_byte_number bytes (2 * suc k)
start_at-one bytes k = let e : k + 1 ≡ suc k = omega arith in ap (start_at bytes) e

-- if each start is good, the starts rise up to the end of the data
pub rises-good : (bytes : List ℕ) (end j m : ℕ)
    → ((k : ℕ) → j ≤ k → k < j + m → (start_at bytes k ≤ start_at bytes (suc k)) × (start_at bytes (suc k) ≤ end))
    → start_at bytes j ≤ end → 2 * (suc j + m) ≤ length bytes → Rises (start_at bytes j) (numbers m (drop (2 * suc j) bytes)) end
rises-good bytes end j zero good h fits = h
rises-good bytes end j (suc m) good h fits =
    let l : 2 * suc j + 1 < length bytes = omega arith in
    let e : 2 * suc j + 2 ≡ 2 * suc (suc j) = omega arith in
    let d : drop (2 * suc j) bytes ≡ get_or bytes (2 * suc j) 0 ∷ get_or bytes (2 * suc j + 1) 0 ∷ drop (2 * suc (suc j)) bytes =
    drop-pair bytes (2 * suc j) l ∙ ap (λ p. get_or bytes (2 * suc j) 0 ∷ get_or bytes (2 * suc j + 1) 0 ∷ drop p bytes) e in
    let here = good j (omega arith) (omega arith) in
    let again = rises-good bytes end (suc j) m (λ k a b. good k (omega arith) (omega arith)) here.1 (omega arith) in
    subst (λ p. Rises (start_at bytes j) (numbers (suc m) p) end) (sym d) (here.0, again)

-- bytes with a header and good starts pass the test
pub passes_from : (bytes : List ℕ) → 2 ≤ length bytes → 0 < two_byte_number bytes 0 → 2 * two_byte_number bytes 0 ≤ length bytes
    → HasGoodStarts bytes → Passes bytes
passes_from bytes two some header good =
    let n : ℕ = two_byte_number bytes 0 in
    record {
      two = two;
      some = some;
      header = header;
      rises = rises-good bytes (length bytes - 2 * n) 0 (n - 1)
          (λ k a b. let g = good k (omega arith) in let e : k + 1 ≡ suc k = omega arith in (
            subst (λ p. start_at bytes k ≤ start_at bytes p) e g.0,
            subst (λ p. start_at bytes p ≤ length bytes - 2 * n) e
                (omega (arith, g.1)),
          ))
          (omega arith) (omega arith);
    }

-- no bytes at all are the empty list
pub empty_is_list : IsList []
unfolding items_in
empty_is_list = record { can_pack = record { count = lit≤ tt; starts = refl }; spelled = refl }

-- bytes of length 0 are the empty list too
pub no_bytes : (bytes : List ℕ) → length bytes ≡ 0 → IsList bytes
no_bytes [] h = empty_is_list
no_bytes (a ∷ bytes) h = absurd (omega arith)
