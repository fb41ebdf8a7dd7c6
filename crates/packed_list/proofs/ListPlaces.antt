-- The places of the items of a list in its bytes.
use Rattle.std.proofs.Common.{◌≡◌, ℕ, zero, suc, ◌+◌, ◌-◌, ◌*◌, ◌/◌, ◌%◌, ◌<◌, ◌≤◌, List, [], ◌∷◌, ◌++◌, length, drop, take, get_or}
use Rattle.std.proofs.Common.{refl, sym, ap, ◌∙◌, arith, Some, None, length-append, length-drop, append-nil, inl, inr}
use Rattle.std.specs.Prelude.{Option, option_map, flat_map, unwrap_or}
use Rattle.std.specs.Iterator.{YieldsFirstRef}
use denote.Bor.{Bor}
use Rattle.std.proofs.lemmas.List.{drop_more, drop-drop, take_at, drop_at, take_all}
use Rattle.std.proofs.lemmas.Option.{slice_get-get_or, slice_get_past}
use Rattle.std.specs.List.{concat, slice_range, slice_get}
use Rattle.std.proofs.lemmas.Bool.{cases_lt}
use Rattle.packed_list.specs.ListBytes.{two_bytes, starts_from, item_starts, list_bytes, two_byte_number, start_at}
use Rattle.packed_list.specs.Inner.ListReading.{items_in, IsList}
use Rattle.packed_list.proofs.TwoBytes.{length-flat_map_two_bytes, two_byte_number-cons, two_byte_number-flat_map, twice}
use Rattle.packed_list.proofs.TwoBytes.{two_bytes_again}

-- each item has one start
pub length-starts_from : (place : ℕ) (items : List (List ℕ)) → length (starts_from place items) ≡ length items
length-starts_from place [] = refl
length-starts_from place (item ∷ items) = ap suc (length-starts_from (place + length item) items)

-- the first two bytes of a list are its count
pub count_is : (items : List (List ℕ)) (bytes : List ℕ) → bytes ≡ list_bytes items → two_byte_number bytes 0 ≡ length items
count_is [] bytes h = ap (λ b. two_byte_number b 0) h
count_is (item ∷ items) bytes h = ap (λ b. two_byte_number b 0) h ∙ two_bytes_again (length (item ∷ items))

-- a list takes two bytes for each item, and the items
pub length-list_bytes : (items : List (List ℕ)) (bytes : List ℕ) → bytes ≡ list_bytes items
    → length bytes ≡ 2 * length items + length (concat items)
length-list_bytes [] bytes h = ap length h
length-list_bytes (item ∷ items) bytes h =
    let sts = starts_from (0 + length item) items in
    let a = length-append (flat_map two_bytes sts) (concat (item ∷ items)) in
    let b = length-flat_map_two_bytes sts in
    let d = length-starts_from (0 + length item) items in
    let e = ap length h in
    omega (arith, a, b, d, e)

-- the items follow the header
pub data_is : (items : List (List ℕ)) (bytes : List ℕ) → bytes ≡ list_bytes items → drop (2 * length items) bytes ≡ concat items
data_is [] bytes h = h
data_is (item ∷ items) bytes h =
    let sts = starts_from (0 + length item) items in
    let l : length (flat_map two_bytes sts) ≡ 2 * length items = length-flat_map_two_bytes sts
    ∙ ap (λ n. 2 * n) (length-starts_from (0 + length item) items) in
    ap (λ n. drop n bytes) (twice (length items)) ∙ ap (drop (suc (suc (2 * length items)))) h
    ∙ drop_at (flat_map two_bytes sts) (concat (item ∷ items)) (2 * length items) l

-- the start of each item but the first is in the header
pub start_is : (items : List (List ℕ)) (bytes : List ℕ) → bytes ≡ list_bytes items → (k : ℕ) → 0 < k → k < length items
    → slice_get (item_starts items) k ≡ Some (two_byte_number bytes (2 * k))
start_is [] bytes h k pos below = absurd (omega arith)
start_is (item ∷ items) bytes h zero pos below = absurd (omega arith)
start_is (item ∷ items) bytes h (suc k) pos below =
    let sts = starts_from (0 + length item) items in
    let l : k < length sts = omega (arith, length-starts_from (0 + length item) items) in
    let n = length (item ∷ items) in
    let rest = flat_map two_bytes sts ++ concat (item ∷ items) in
    two_byte_number-flat_map sts (concat (item ∷ items)) k l
    ∙ ap Some (sym (ap (λ b. two_byte_number b (2 * suc k)) h ∙ ap (two_byte_number (two_bytes n ++ rest)) (twice k)
    ∙ two_byte_number-cons (n % 256) (n / 256) rest (2 * k)))

-- each item has one start, from the first byte of the data on
pub length-item_starts : (items : List (List ℕ)) → length (item_starts items) ≡ length items
length-item_starts items = length-starts_from 0 items

-- a start is not above the length of the data
pub start-within : (place : ℕ) (items : List (List ℕ)) (k s : ℕ) → slice_get (starts_from place items) k ≡ Some s
    → (place ≤ s) × (s ≤ place + length (concat items))
start-within place [] k s h = cc
start-within place (item ∷ items) zero s h =
    let e : place ≡ s = cc in
    (omega arith, omega arith)
start-within place (item ∷ items) (suc k) s h =
    let again = start-within (place + length item) items k s h in
    let l = length-append item (concat items) in
    (omega (arith, again.0), omega (arith, l, again.1))

-- the bytes between the start of an item and the start of the next one
pub record LiesBetween (items : List (List ℕ)) (place k s t : ℕ) : Type 0 where
  pub below : s ≤ t
  pub within : t ≤ place + length (concat items)
  pub item : slice_get items k ≡ Some (take (t - s) (drop (s - place) (concat items)))

-- an item is between its start and that of the next one
pub lies_between : (place : ℕ) (items : List (List ℕ)) (k s t : ℕ) → slice_get (starts_from place items) k ≡ Some s
    → slice_get (starts_from place items) (suc k) ≡ Some t → LiesBetween items place k s t
lies_between place [] k s t h g = cc
lies_between place (item ∷ []) k s t h g = cc
lies_between place (item ∷ next ∷ items) zero s t h g =
    let e : place ≡ s = cc in
    let f : place + length item ≡ t = cc in
    let l = length-append item (concat (next ∷ items)) in
    let n : s - place ≡ 0 = omega arith in
    let m : t - s ≡ length item = omega arith in
    record {
      below = omega arith;
      within = omega (arith, l);
      item = rw (n, m) (ap Some (sym (take_at item (concat (next ∷ items)) (length item) refl)));
    }
lies_between place (item ∷ next ∷ items) (suc k) s t h g =
    let again = lies_between (place + length item) (next ∷ items) k s t h g in
    let l = length-append item (concat (next ∷ items)) in
    let w = start-within (place + length item) (next ∷ items) k s h in
    let n : s - place ≡ length item + (s - (place + length item)) = omega (arith, w.0) in
    let d : drop (s - place) (concat (item ∷ next ∷ items)) ≡ drop (s - (place + length item)) (concat (next ∷ items)) =
    ap (λ p. drop p (item ++ concat (next ∷ items))) n
    ∙ sym (drop-drop (s - (place + length item)) (length item) (item ++ concat (next ∷ items)))
    ∙ ap (drop (s - (place + length item))) (drop_at item (concat (next ∷ items)) (length item) refl) in
    record {
      below = again.below;
      within = omega (arith, l, again.within);
      item = again.item ∙ ap (λ p. Some (take (t - s) p)) (sym d);
    }

-- the bytes from the start of the last item on
pub record LiesBehind (items : List (List ℕ)) (place k s : ℕ) : Type 0 where
  pub within : s ≤ place + length (concat items)
  pub item : slice_get items k ≡ Some (drop (s - place) (concat items))

-- the last item is between its start and the end of the data
pub lies_behind : (place : ℕ) (items : List (List ℕ)) (k s : ℕ) → slice_get (starts_from place items) k ≡ Some s
    → slice_get (starts_from place items) (suc k) ≡ None → LiesBehind items place k s
lies_behind place [] k s h g = cc
lies_behind place (item ∷ []) zero s h g =
    let e : place ≡ s = cc in
    let n : s - place ≡ 0 = omega arith in
    record {
      within = omega arith;
      item = rw n (ap Some (sym (append-nil item)));
    }
lies_behind place (item ∷ []) (suc k) s h g = cc
lies_behind place (item ∷ next ∷ items) zero s h g = cc
lies_behind place (item ∷ next ∷ items) (suc k) s h g =
    let again = lies_behind (place + length item) (next ∷ items) k s h g in
    let l = length-append item (concat (next ∷ items)) in
    let w = start-within (place + length item) (next ∷ items) k s h in
    let n : s - place ≡ length item + (s - (place + length item)) = omega (arith, w.0) in
    let d : drop (s - place) (concat (item ∷ next ∷ items)) ≡ drop (s - (place + length item)) (concat (next ∷ items)) =
    ap (λ p. drop p (item ++ concat (next ∷ items))) n
    ∙ sym (drop-drop (s - (place + length item)) (length item) (item ++ concat (next ∷ items)))
    ∙ ap (drop (s - (place + length item))) (drop_at item (concat (next ∷ items)) (length item) refl) in
    record {
      within = omega (arith, l, again.within);
      item = again.item ∙ ap Some (sym d);
    }

-- the start of each item is the one that the bytes give
pub start_at-is : (items : List (List ℕ)) (bytes : List ℕ) → bytes ≡ list_bytes items → (k : ℕ) → k < length items
    → slice_get (item_starts items) k ≡ Some (start_at bytes k)
start_at-is [] bytes h k below = absurd (omega arith)
start_at-is (item ∷ items) bytes h zero below = refl
start_at-is (item ∷ items) bytes h (suc k) below = start_is (item ∷ items) bytes h (suc k) (omega arith) below

-- the bytes between the start and the end of an item
pub record IsPart (items : List (List ℕ)) (k s t : ℕ) : Type 0 where
  pub below : s ≤ t
  pub within : t ≤ length (concat items)
  pub item : slice_get items k ≡ Some (slice_range (concat items) s t)

-- an item is the part of the data between its start and its end
pub item_is : (items : List (List ℕ)) (k s t : ℕ) → k < length items → slice_get (item_starts items) k ≡ Some s
    → t ≡ unwrap_or (slice_get (item_starts items) (k + 1)) (length (concat items)) → IsPart items k s t
item_is items k s t inside h e =
    let one : k + 1 ≡ suc k = omega arith in
    let z : s - 0 ≡ s = omega arith in
    let n = length-item_starts items in
    elim (cases_lt (suc k) (length items)) [
      | inl more ↦
          let l : suc k < length (item_starts items) = omega arith in
          let x : ℕ = get_or (item_starts items) (suc k) 0 in
          let g : slice_get (item_starts items) (suc k) ≡ Some x = slice_get-get_or (item_starts items) (suc k) 0 l in
          let f : t ≡ x = e ∙ ap (λ p. unwrap_or (slice_get (item_starts items) p) (length (concat items))) one
          ∙ ap (λ o. unwrap_or o (length (concat items))) g in
          let b = lies_between 0 items k s x h g in
          record {
            below = omega (arith, b.below);
            within = omega (arith, b.within);
            item = b.item ∙ ap (λ p. Some (take (x - s) (drop p (concat items)))) z
                ∙ ap (λ p. Some (slice_range (concat items) s p)) (sym f);
          }
      | inr past ↦
          let l : length (item_starts items) ≤ suc k = omega arith in
          let g : slice_get (item_starts items) (suc k) ≡ None = slice_get_past (item_starts items) (suc k) l in
          let f : t ≡ length (concat items) = e ∙ ap (λ p. unwrap_or (slice_get (item_starts items) p) (length (concat items))) one
          ∙ ap (λ o. unwrap_or o (length (concat items))) g in
          let b = lies_behind 0 items k s h g in
          let whole : drop s (concat items) ≡ take (t - s) (drop s (concat items)) =
          sym (take_all (t - s) (drop s (concat items)) (omega (arith, length-drop s (concat items)))) in
          record {
            below = omega (arith, b.within);
            within = omega arith;
            item = b.item ∙ ap (λ p. Some (drop p (concat items))) z ∙ ap Some whole;
          }
    ]

-- the bytes of a list, with their places
pub record LiesIn (items : List (List ℕ)) (bytes : List ℕ) : Type 0 where
  pub count : two_byte_number bytes 0 ≡ length items
  pub all : length bytes ≡ 2 * length items + length (concat items)
  pub content : drop (2 * length items) bytes ≡ concat items
  pub start : (k : ℕ) → k < length items → slice_get (item_starts items) k ≡ Some (start_at bytes k)

-- so the places in the bytes of a list are those of its items
pub lies_in : (items : List (List ℕ)) (bytes : List ℕ) → items_in bytes ≡ items → IsList bytes → LiesIn items bytes
lies_in items bytes e h =
    let s : bytes ≡ list_bytes items = h.spelled ∙ ap list_bytes e in
    record {
      count = count_is items bytes s;
      all = length-list_bytes items bytes s;
      content = data_is items bytes s;
      start = start_at-is items bytes s;
    }

-- a start that isn't the first one is in the header
pub start_at-positive : (bytes : List ℕ) (k : ℕ) → (k ≡ 0 → ⊥) → start_at bytes k ≡ two_byte_number bytes (2 * k)
start_at-positive bytes zero h = absurd (h refl)
start_at-positive bytes (suc k) h = refl

-- an iterator over the remaining items gives the item at its place
pub yields : (items : List (List ℕ)) (k : ℕ) (r : Option (Bor (List ℕ))) → k < length items
    → option_map (λ (x : Bor (List ℕ)). x.now) r ≡ slice_get items k
    → YieldsFirstRef (λ items. items) (drop k items) r (drop (k + 1) items)
yields items k None h e = let g = slice_get-get_or items k [] h in cc
yields items k (Some x) h e =
    let g = slice_get-get_or items k [] h in
    let f : get_or items k [] ≡ x.now = cc in
    drop_more items k [] h ∙ ap (λ p. p ∷ drop (k + 1) items) f

-- an item starts where those before it end
pub starts-front : (place : ℕ) (items : List (List ℕ)) (k : ℕ) → k < length items
    → slice_get (starts_from place items) k ≡ Some (place + length (concat (take k items)))
starts-front place [] k h = absurd (omega arith)
starts-front place (item ∷ items) zero h = let e : place ≡ place + 0 = omega arith in ap Some e
starts-front place (item ∷ items) (suc k) h =
    let again = starts-front (place + length item) items k (omega arith) in
    let l = length-append item (concat (take k items)) in
    let e : (place + length item) + length (concat (take k items)) ≡ place + length (item ++ concat (take k items)) =
    omega (arith, l) in
    again ∙ ap Some e

-- an item starts where those before it end, from the first byte of the data on
pub start_behind : (items : List (List ℕ)) (k : ℕ) → k < length items
    → slice_get (item_starts items) k ≡ Some (length (concat (take k items)))
start_behind items k h = let e : 0 + length (concat (take k items)) ≡ length (concat (take k items)) = omega arith in
    starts-front 0 items k h ∙ ap Some e

-- an item ends where those up to it end
pub end_behind : (items : List (List ℕ)) (k t : ℕ) → k < length items
    → t ≡ unwrap_or (slice_get (item_starts items) (k + 1)) (length (concat items)) → t ≡ length (concat (take (k + 1) items))
end_behind items k t h e = elim (cases_lt (k + 1) (length items)) [
  | inl more ↦ e ∙ ap (λ o. unwrap_or o (length (concat items))) (start_behind items (k + 1) more)
  | inr past ↦
      let n = length-item_starts items in
      e ∙ ap (λ o. unwrap_or o (length (concat items))) (slice_get_past (item_starts items) (k + 1) (omega (arith, n)))
      ∙ ap (λ l. length (concat l)) (sym (take_all (k + 1) items past))
]

-- the item after those that were given
pub next_part : (items : List (List ℕ)) (k s t : ℕ) → k < length items → s ≡ length (concat (take k items))
    → t ≡ unwrap_or (slice_get (item_starts items) (k + 1)) (length (concat items)) → IsPart items k s t
next_part items k s t h e f = item_is items k s t h (start_behind items k h ∙ ap Some (sym e)) f
