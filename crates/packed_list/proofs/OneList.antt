-- Bytes encode at most one list.
use Rattle.std.proofs.Common.{◌≡◌, ℕ, suc, ◌+◌, ◌-◌, ◌*◌, ◌<◌, List, [], ◌∷◌, length, drop, take, get_or, refl, sym, ap, ◌∙◌, arith}
use Rattle.std.proofs.Common.{append-nil, subst, inl, inr, ◌↔◌}
use Rattle.std.proofs.lemmas.List.{get_or_append_left, get_or_past, get_or-append-add, get_or-drop, drop-drop, take_at, drop_at}
use Rattle.std.specs.List.{AllByRecursion, concat}
use Rattle.std.proofs.lemmas.Bool.{cases_lt}
use Rattle.packed_list.specs.ListBytes.{starts_from, list_bytes, ListBytes, two_byte_number}
use Rattle.packed_list.specs.Inner.ListReading.{numbers, pieces_from, items_in, AreBytes}
use Rattle.packed_list.proofs.TwoBytes.{numbers-flat_map}
use Rattle.packed_list.proofs.ListPlaces.{count_is, data_is, length-starts_from}

-- items that are joined, and cut at the start of each, come back
pub pieces-concat : (from : ℕ) (item : List ℕ) (items : List (List ℕ)) (bytes : List ℕ) → drop from bytes ≡ concat (item ∷ items)
    → pieces_from from (starts_from (from + length item) items) bytes ≡ item ∷ items
pieces-concat from item [] bytes h = ap (λ p. p ∷ []) (h ∙ append-nil item)
pieces-concat from item (next ∷ items) bytes h =
    let n : (from + length item) - from ≡ length item = omega arith in
    let first : take ((from + length item) - from) (drop from bytes) ≡ item =
    rw (n, h) (take_at item (concat (next ∷ items)) (length item) refl) in
    let d : drop (from + length item) bytes ≡ concat (next ∷ items) =
    sym (drop-drop (length item) from bytes) ∙ ap (drop (length item)) h ∙ drop_at item (concat (next ∷ items)) (length item) refl in
    let rest = pieces-concat (from + length item) next items bytes d in
    rw (first, rest) refl

-- bytes encode at most one list
pub items_in_one : (items : List (List ℕ)) (bytes : List ℕ) → bytes ≡ list_bytes items → items_in bytes ≡ items
unfolding items_in
items_in_one [] bytes h = ap items_in h
items_in_one (item ∷ items) bytes h =
    let all = list_bytes (item ∷ items) in
    let sts = starts_from (0 + length item) items in
    let c : two_byte_number all 0 ≡ suc (length items) = count_is (item ∷ items) all refl in
    let d : drop (2 * two_byte_number all 0) all ≡ concat (item ∷ items) = ap (λ n. drop (2 * n) all) c
    ∙ data_is (item ∷ items) all refl in
    let m : two_byte_number all 0 - 1 ≡ length sts = omega (arith, c, length-starts_from (0 + length item) items) in
    let n : numbers (two_byte_number all 0 - 1) (drop 2 all) ≡ sts = ap (λ k. numbers k (drop 2 all)) m
    ∙ numbers-flat_map sts (concat (item ∷ items)) in
    ap items_in h ∙ ap (λ ns. pieces_from 0 ns (drop (2 * two_byte_number all 0) all)) n
    ∙ pieces-concat 0 item items (drop (2 * two_byte_number all 0) all) d

-- lists are the same bytes exactly if they are the same items
pub one_list_for_bytes : (items others : List (List ℕ)) (a b : List ℕ) → ListBytes items a → ListBytes others b
    → (a ≡ b) ↔ (items ≡ others)
one_list_for_bytes items others a b h g = (
  (λ e. sym (items_in_one items a h.spelled) ∙ ap items_in e ∙ items_in_one others b g.spelled),
  (λ e. h.spelled ∙ ap list_bytes e ∙ sym g.spelled),
)

-- items are bytes if they are joined
pub bytes_of_items : (items : List (List ℕ)) → AreBytes (concat items) → AllByRecursion AreBytes items
bytes_of_items [] is = tt
bytes_of_items (item ∷ items) is = (
  (λ i. elim (cases_lt i (length item)) [
    | inl inside ↦ subst (λ n. n < 256) (get_or_append_left item (concat items) 0 i inside) (is i)
    | inr past ↦ let e = get_or_past item i 0 past in omega (arith, e)
  ]),
  bytes_of_items items (λ i. subst (λ n. n < 256) (get_or-append-add item (concat items) i 0) (is (length item + i))),
)

-- so the items of a list of bytes are bytes
pub items_are_bytes : (items : List (List ℕ)) (bytes : List ℕ) → ListBytes items bytes → AreBytes bytes → AllByRecursion AreBytes items
items_are_bytes items bytes h is =
    bytes_of_items items (λ i. subst (λ (p : List ℕ). get_or p i 0 < 256) (data_is items bytes h.spelled)
    (subst (λ n. n < 256) (sym (get_or-drop (2 * length items) bytes i 0)) (is (2 * length items + i))))
