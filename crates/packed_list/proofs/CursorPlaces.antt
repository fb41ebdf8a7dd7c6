-- The places of a cursor in a list.
use Rattle.std.proofs.Common.{◌≡◌, ℕ, ◌+◌, ◌-◌, ◌*◌, ◌/◌, ◌<◌, ◌≤◌, List, [], ◌∷◌, length, drop, take}
use Rattle.std.proofs.Common.{sym, ap, ◌∙◌, arith, Some}
use Rattle.std.specs.Prelude.{slice_get, unwrap_or}
use Rattle.std.proofs.lemmas.List.{drop_more}
use Rattle.std.proofs.lemmas.Option.{slice_get-get_or}
use Rattle.std.specs.List.{concat}
use Rattle.packed_list.specs.ListBytes.{item_starts}
use Rattle.packed_list.proofs.ListPlaces.{IsPart, end_behind, next_part}

-- the place of the next item's start is behind that of the item
next_place : (place : ℕ) → 2 ≤ place → place ≡ 2 * (place / 2) → (place / 2 - 1) + 1 ≡ place / 2
next_place place some even = omega (arith, some, even)

-- the item at a cursor, between its start and its end
pub item_at_cursor : (items : List (List ℕ)) (place header s t : ℕ) → 2 ≤ place → place ≡ 2 * (place / 2)
    → header ≡ 2 * length items → place ≤ header → s ≡ length (concat (take (place / 2 - 1) items))
    → t ≡ unwrap_or (slice_get (item_starts items) (place / 2)) (length (concat items)) → IsPart items (place / 2 - 1) s t
item_at_cursor items place header s t some even whole within e f =
    next_part items (place / 2 - 1) s t (omega (arith, some, even, whole, within)) e
    (f ∙ ap (λ k. unwrap_or (slice_get (item_starts items) k) (length (concat items))) (sym (next_place place some even)))

-- where the next item starts
pub start_at_next : (items : List (List ℕ)) (place s : ℕ) → 2 ≤ place → place ≡ 2 * (place / 2) → place < 2 * length items
    → slice_get (item_starts items) (place / 2) ≡ Some s → s ≡ length (concat (take ((place + 2) / 2 - 1) items))
start_at_next items place s some even within e =
    let k = place / 2 - 1 in
    let next = next_place place some even in
    let same : (place + 2) / 2 - 1 ≡ k + 1 = omega (arith, some, even) in
    end_behind items k s (omega (arith, some, even, within))
    (sym (ap (λ o. unwrap_or o (length (concat items))) (ap (slice_get (item_starts items)) next ∙ e)))
    ∙ ap (λ n. length (concat (take n items))) (sym same)

-- those after an item are the next one and those after that
pub next_and_rest : (items : List (List ℕ)) (place : ℕ) → 2 ≤ place → place ≡ 2 * (place / 2) → place < 2 * length items
    → drop ((place / 2 - 1) + 1) items
    ≡ unwrap_or (slice_get items ((place + 2) / 2 - 1)) [] ∷ drop (((place + 2) / 2 - 1) + 1) items
next_and_rest items place some even within =
    let k = (place / 2 - 1) + 1 in
    let inside : k < length items = omega (arith, some, even, within) in
    let same : (place + 2) / 2 - 1 ≡ k = omega (arith, some, even) in
    rw same (drop_more items k [] inside
    ∙ ap (λ item. item ∷ drop (k + 1) items) (sym (ap (λ o. unwrap_or o []) (slice_get-get_or items k [] inside))))
