-- The places in an item.
use Rattle.std.proofs.Common.{◌≡◌, ◌∙◌, ◌+◌, ◌*◌, ◌/◌, ◌%◌, ◌<◌, ◌≤◌, ℕ, zero, suc, List, [], ◌∷◌, ◌++◌, get_or, length, drop, refl, ap}
use Rattle.std.proofs.Common.{map, sym, arith, true, Some}
use Rattle.std.specs.Prelude.{flat_map, slice_get}
use Rattle.std.specs.Cmp.{first_so, second_so}
use Rattle.std.specs.List.{list_all}
use Rattle.packed_list.specs.ListBytes.{two_bytes}
use Rattle.packed_list.specs.Inner.ListReading.{numbers}
use Rattle.message_pattern.specs.PatternParts.{Part, PatternPiece, Exactly, Keyword, Text, Hash, Argument, Begin, Branch, End}
use Rattle.message_pattern.specs.declared.part.ArgumentKind.TheVariants.{Plural, Ordinal, Select}
use Rattle.packed_part.specs.PackedParts.{is_packable, part_item_bytes, part_items_of, own_bytes, piece_tag, place_bytes}
use Rattle.packed_part.specs.PartPlaces.{IsPlaced, piece_places}
use Rattle.packed_part.specs.Inner.PartReading.{AreBlockItems, item_places, part_in, place_count}
use Rattle.packed_pattern.proofs.PartBytes.{length-place_bytes, part_again}

-- ---- a number of the bytes

pub number_there : (n i : ℕ) (s : List ℕ) → i < n → 2 * i + 1 < length s
    → get_or (numbers n s) i 0 ≡ get_or s (2 * i) 0 + 256 * get_or s (2 * i + 1) 0
number_there zero i s h l = absurd (omega arith)
number_there (suc n) i [] h l = absurd (omega arith)
number_there (suc n) i (low ∷ []) h l = absurd (omega arith)
number_there (suc n) zero (low ∷ high ∷ s) h l = refl
number_there (suc n) (suc i) (low ∷ high ∷ s) h l =
    let e : 2 * suc i ≡ suc (suc (2 * i)) = omega arith in
    let f : suc (suc (2 * i)) + 1 ≡ suc (suc (2 * i + 1)) = omega arith in
    rw (e, f) (number_there n i s (omega arith) (omega arith))

pub no_number : (n i : ℕ) (s : List ℕ) → length s ≤ 2 * i + 1 → get_or (numbers n s) i 0 ≡ 0
no_number zero i s l = refl
no_number (suc n) i [] l = refl
no_number (suc n) i (low ∷ []) l = refl
no_number (suc n) zero (low ∷ high ∷ s) l = absurd (omega arith)
no_number (suc n) (suc i) (low ∷ high ∷ s) l = no_number n i s (omega arith)

pub past_numbers : (n i : ℕ) (s : List ℕ) → n ≤ i → get_or (numbers n s) i 0 ≡ 0
past_numbers zero i s h = refl
past_numbers (suc n) i [] h = refl
past_numbers (suc n) i (low ∷ []) h = refl
past_numbers (suc n) zero (low ∷ high ∷ s) h = absurd (omega arith)
past_numbers (suc n) (suc i) (low ∷ high ∷ s) h = past_numbers n i s (omega arith)

-- ---- the places of the part at a place

again : (n : ℕ) → n % 256 + 256 * (n / 256) ≡ n
again n = omega arith

numbers_again : (ns own : List ℕ) → numbers (length ns) (flat_map two_bytes ns ++ own) ≡ ns
numbers_again [] own = refl
numbers_again (n ∷ ns) own = ap (λ m. m ∷ numbers (length ns) (flat_map two_bytes ns ++ own)) (again n)
    ∙ ap (λ ms. n ∷ ms) (numbers_again ns own)

-- there are as many as its form has
counted : (depth : ℕ) (piece : PatternPiece) (ps : List Part) → length (piece_places depth piece ps) ≡ place_count (piece_tag piece)
counted depth (Text text) ps = refl
counted depth Hash ps = refl
counted depth (Argument name) ps = refl
counted depth (Begin Plural name offset) ps = refl
counted depth (Begin Ordinal name offset) ps = refl
counted depth (Begin Select name offset) ps = refl
counted depth (Branch (Exactly number)) ps = refl
counted depth (Branch (Keyword word)) ps = refl
counted depth End ps = refl

pub item_places_again : (p : Part) (ps : List Part) → item_places (part_item_bytes p (place_bytes p ps)) ≡ piece_places p.depth p.piece ps
item_places_again p ps =
    let ns = piece_places p.depth p.piece ps in
    ap (λ n. numbers n (flat_map two_bytes ns ++ own_bytes p.piece)) (sym (counted p.depth p.piece ps))
    ∙ numbers_again ns (own_bytes p.piece)

-- the item at a place is that of the part there
pub item_at : (parts : List Part) (k : ℕ) (item : List ℕ) → slice_get (part_items_of parts) k ≡ Some item
    → (p : Part) × (slice_get parts k ≡ Some p) × (item ≡ part_item_bytes p (place_bytes p (drop (k + 1) parts)))
item_at [] k item h = cc
item_at (p ∷ ps) zero item h =
    let e : part_item_bytes p (place_bytes p ps) ≡ item = cc in
    (p, refl, sym e)
item_at (p ∷ ps) (suc k) item h =
    let at = item_at ps k item h in
    let e : suc k + 1 ≡ suc (k + 1) = omega arith in
    (at.0, at.1, at.2 ∙ ap (λ n. part_item_bytes at.0 (place_bytes at.0 (drop n (p ∷ ps)))) (sym e))

-- each of the parts can be packed
packable_at : (parts : List Part) (k : ℕ) (p : Part) → list_all is_packable parts ≡ true → slice_get parts k ≡ Some p → is_packable p ≡ true
packable_at [] k p h e = cc
packable_at (q ∷ qs) zero p h e = let same : q ≡ p = cc in ap is_packable (sym same) ∙ first_so (is_packable q) (list_all is_packable qs) h
packable_at (q ∷ qs) (suc k) p h e = packable_at qs k p (second_so (is_packable q) (list_all is_packable qs) h) e

-- in a block the item at a place holds the part there, with its places
pub placed_at : (items : List (List ℕ)) (k : ℕ) (item : List ℕ) → AreBlockItems items → slice_get items k ≡ Some item
    → IsPlaced (record { part = part_in item; places = item_places item }) (map part_in items) k
placed_at items k item block h =
    let parts = map part_in items in
    let at = item_at parts k item (ap (λ xs. slice_get xs k) block.packed ∙ h) in
    let p = at.0 in
    let places = place_bytes p (drop (k + 1) parts) in
    let packable : is_packable p ≡ true = packable_at parts k p block.packable at.1 in
    let held : part_in item ≡ p = ap part_in at.2
    ∙ part_again p places (length-place_bytes p.depth p.piece (drop (k + 1) parts)) packable in
    let own : item_places item ≡ piece_places p.depth p.piece (drop (k + 1) parts) =
    ap item_places at.2 ∙ item_places_again p (drop (k + 1) parts) in
    record {
      part = at.1 ∙ ap Some (sym held);
      places = own ∙ ap (λ q. piece_places q.depth q.piece (drop (k + 1) parts)) (sym held);
    }
