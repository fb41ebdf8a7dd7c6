-- The items of a block, and the fault of the first bad one.
use Rattle.std.proofs.Common.{◌≡◌, ◌∙◌, ℕ, ◌+◌, ◌<◌, List, [], ◌∷◌, drop, get_or, length, map, refl, ap, sym, subst, true, false, Bool}
use Rattle.std.proofs.Common.{Some, None}
use Rattle.std.specs.Prelude.{Option, not, if◌then◌else◌, is_some, slice_get}
use Rattle.std.specs.List.{list_all}
use Rattle.std.specs.Cmp.{first_so, second_so}
use Rattle.std.specs.Cmp.Derive.{both_true}
use Rattle.std.proofs.lemmas.List.{drop_more}
use Rattle.std.proofs.lemmas.Option.{slice_get-get_or}
use Rattle.packed_list.specs.ListBytes.{ListBytes}
use Rattle.packed_list.specs.Inner.ListReading.{items_in}
use Rattle.message_pattern.specs.PatternParts.{Part}
use Rattle.packed_pattern.specs.declared.error.BlockError.{BlockError}
use Rattle.packed_part.specs.PartOrder.{before_all, first_misplaced}
use Rattle.packed_part.specs.PackedParts.{is_packable, part_item_bytes, part_items_of, place_bytes}
use Rattle.packed_pattern.specs.PatternBlocks.{IsPatternBlock, PatternBlock, first_item_fault, has_places_before, is_item_with, is_part_item}
use Rattle.packed_pattern.specs.PatternBlocks.{item_fault, items_fault, or_block_fault, order_fault}
use Rattle.packed_part.specs.Inner.PartReading.{AreBlockItems, part_in, parts_in, places_in}
use Rattle.packed_pattern.proofs.PartBytes.{bytes_same, length-place_bytes, part_again, places_again, same_bytes}
use Rattle.packed_pattern.specs.declared.error.BlockError.TheVariants as errors

-- the items that parts are packed as hold these parts
pub parts_again : (parts : List Part) → list_all is_packable parts ≡ true → map part_in (part_items_of parts) ≡ parts
parts_again [] h = refl
parts_again (p ∷ ps) h =
    rw (
      part_again p (place_bytes p ps) (length-place_bytes p.depth p.piece ps) (first_so (is_packable p) (list_all is_packable ps) h),
      parts_again ps (second_so (is_packable p) (list_all is_packable ps) h),
    ) refl

-- where both tests pass there is no fault
both_pass : (part skip : Bool) (f g : BlockError) → part ≡ true → skip ≡ true
    → (if not part then Some f else if not skip then Some g else None) ≡ None
both_pass true true f g h k = refl
both_pass true false f g h k = cc
both_pass false skip f g h k = cc

-- without a fault both have passed
both_passed : (part skip : Bool) (f g : BlockError) → (if not part then Some f else if not skip then Some g else None) ≡ None
    → (part ≡ true) × (skip ≡ true)
both_passed true true f g h = (refl, refl)
both_passed true false f g h = (refl, cc)
both_passed false skip f g h = (cc, cc)

-- the item of a part has no fault
item_passes : (place : ℕ) (p : Part) (ps : List Part) → is_packable p ≡ true → list_all is_packable ps ≡ true
    → item_fault place (part_item_bytes p (place_bytes p ps)) (part_items_of ps) ≡ None
item_passes place p ps h g =
    let places = place_bytes p ps in
    let room = length-place_bytes p.depth p.piece ps in
    let item = part_item_bytes p places in
    let held : part_in item ≡ p = part_again p places room h in
    let fits : is_packable (part_in item) ≡ true = ap is_packable held ∙ h in
    let own : is_item_with item (places_in item) ≡ true =
    bytes_same item (part_item_bytes (part_in item) (places_in item))
    (sym (ap (λ q. part_item_bytes q (places_in item)) held ∙ ap (part_item_bytes p) (places_again p places room))) in
    let others : map part_in (part_items_of ps) ≡ ps = parts_again ps g in
    let wanted : place_bytes (part_in item) (map part_in (part_items_of ps)) ≡ places =
    ap (λ q. place_bytes q (map part_in (part_items_of ps))) held ∙ ap (place_bytes p) others in
    let ends : has_places_before item (part_items_of ps) ≡ true =
    bytes_same item (part_item_bytes (part_in item) (place_bytes (part_in item) (map part_in (part_items_of ps))))
    (sym (ap (part_item_bytes (part_in item)) wanted ∙ ap (λ q. part_item_bytes q places) held)) in
    both_pass (is_part_item item) (has_places_before item (part_items_of ps)) (errors.Part place) (errors.Place place) (both_true fits own) ends

-- neither have those of parts
pub no_fault : (place : ℕ) (parts : List Part) → list_all is_packable parts ≡ true → first_item_fault place (part_items_of parts) ≡ None
no_fault place [] h = refl
no_fault place (p ∷ ps) h =
    let others = second_so (is_packable p) (list_all is_packable ps) h in
    ap (λ f. or_block_fault f (first_item_fault (place + 1) (part_items_of ps)))
    (item_passes place p ps (first_so (is_packable p) (list_all is_packable ps) h) others)
    ∙ no_fault (place + 1) ps others

-- without a first fault neither this item nor a later one has one
neither : (first other : Option BlockError) → or_block_fault first other ≡ None → (first ≡ None) × (other ≡ None)
neither None other h = (refl, h)
neither (Some fault) other h = (h, cc)

-- items of which none is bad are those of the parts that they hold, which can be packed
pub record AreItems (items : List (List ℕ)) : Type 0 where
  pub packable : list_all is_packable (map part_in items) ≡ true
  pub packed : part_items_of (map part_in items) ≡ items

pub are_items : (place : ℕ) (items : List (List ℕ)) → first_item_fault place items ≡ None → AreItems items
are_items place [] h = record { packable = refl; packed = refl }
are_items place (item ∷ items) h =
    let n = neither (item_fault place item items) (first_item_fault (place + 1) items) h in
    let passed = both_passed (is_part_item item) (has_places_before item items) (errors.Part place) (errors.Place place) n.0 in
    let others = are_items (place + 1) items n.1 in
    let places = place_bytes (part_in item) (map part_in items) in
    let here : item ≡ part_item_bytes (part_in item) places = same_bytes item (part_item_bytes (part_in item) places) passed.1 in
    record {
      packable = both_true (first_so (is_packable (part_in item)) (is_item_with item (places_in item)) passed.0) others.packable;
      packed = ap (λ x. x ∷ part_items_of (map part_in items)) (sym here) ∙ ap (λ xs. item ∷ xs) others.packed;
    }

-- without a fault they are a block
ordered : (at : Option ℕ) → order_fault at ≡ None → at ≡ None
ordered None h = refl
ordered (Some place) h = cc

pub is_block : (items : List (List ℕ)) → items_fault items ≡ None → AreBlockItems items
is_block items h =
    let order = first_misplaced 0 before_all (map part_in items) in
    let n = neither (first_item_fault 0 items) (order_fault order) h in
    let are = are_items 0 items n.0 in
    record { packable = are.packable; nested = ordered order n.1; packed = are.packed }

-- where no item is bad, the order decides
pub none_bad : (items : List (List ℕ)) → first_item_fault 0 items ≡ None
    → items_fault items ≡ order_fault (first_misplaced 0 before_all (map part_in items))
none_bad items h = ap (λ f. or_block_fault f (order_fault (first_misplaced 0 before_all (map part_in items)))) h

-- the items of parts in their order have no fault
pub no_items_fault : (parts : List Part) → list_all is_packable parts ≡ true → first_misplaced 0 before_all parts ≡ None
    → items_fault (part_items_of parts) ≡ None
no_items_fault parts h g =
    none_bad (part_items_of parts) (no_fault 0 parts h)
    ∙ ap (λ ps. order_fault (first_misplaced 0 before_all ps)) (parts_again parts h) ∙ ap order_fault g

-- a fault that was found is the first one
pub or_fault_some : (fault other : Option BlockError) → is_some fault ≡ true → or_block_fault fault other ≡ fault
or_fault_some None other h = cc
or_fault_some (Some fault) other h = refl

-- if none was found, the others decide
pub or_fault_none : (fault other : Option BlockError) → is_some fault ≡ false → or_block_fault fault other ≡ other
or_fault_none None other h = refl
or_fault_none (Some fault) other h = cc

-- one item more was checked
pub first_fault_step : (items : List (List ℕ)) (k : ℕ) → k < length items
    → first_item_fault k (drop k items)
    ≡ or_block_fault (item_fault k (get_or items k []) (drop (k + 1) items)) (first_item_fault (k + 1) (drop (k + 1) items))
first_fault_step items k h = ap (first_item_fault k) (drop_more items k [] h)

-- the item at a place, and those behind it
pub items_step : (items : List (List ℕ)) (k : ℕ) (item : List ℕ) → k < length items → Some item ≡ slice_get items k
    → drop k items ≡ item ∷ drop (k + 1) items
items_step items k item h e =
    let g = slice_get-get_or items k [] h in
    let i : get_or items k [] ≡ item = cc in
    drop_more items k [] h ∙ ap (λ x. x ∷ drop (k + 1) items) i

-- the item at a place within the list
pub item_there : (items : List (List ℕ)) (k : ℕ) → k < length items → Some (get_or items k []) ≡ slice_get items k
item_there items k h = sym (slice_get-get_or items k [] h)

-- ---- whole blocks

-- the law of packed lists that is used below
abbrev pub PackedItems : Type 0
PackedItems = (items : List (List ℕ)) (bytes : List ℕ) → ListBytes items bytes → items_in bytes ≡ items

-- a block has one list of parts
pub parts_in_one : PackedItems → (parts : List Part) (bytes : List ℕ) → PatternBlock parts bytes → map part_in (items_in bytes) ≡ parts
parts_in_one law parts bytes h = ap (map part_in) (law (part_items_of parts) bytes h.packed) ∙ parts_again parts h.packable

-- the parts in items that pass are those of the bytes
pub is_pattern : (items : List (List ℕ)) (bytes : List ℕ) → AreBlockItems items → ListBytes items bytes → PatternBlock (map part_in items) bytes
is_pattern items bytes block list = record {
  packable = block.packable;
  nested = block.nested;
  packed = subst (λ (xs : List (List ℕ)). ListBytes xs bytes) (sym block.packed) list;
}

-- the items of bytes that are known to be a block are those of their parts
checked_items : PackedItems → (bytes : List ℕ) → IsPatternBlock bytes → part_items_of (parts_in bytes) ≡ items_in bytes
checked_items law bytes h = sym (law (part_items_of (parts_in bytes)) bytes h.packed)

-- such bytes are a packed list
pub checked_list : PackedItems → (bytes : List ℕ) → IsPatternBlock bytes → ListBytes (items_in bytes) bytes
checked_list law bytes h = subst (λ (xs : List (List ℕ)). ListBytes xs bytes) (checked_items law bytes h) h.packed

-- whose items are a block
pub checked_block : PackedItems → (items : List (List ℕ)) (bytes : List ℕ) → ListBytes items bytes → IsPatternBlock bytes → AreBlockItems items
checked_block law items bytes list h =
    subst AreBlockItems (law items bytes list) (record { packable = h.packable; nested = h.nested; packed = checked_items law bytes h })
