-- The bytes of packed elements read again, and their parts.
use Rattle.std.proofs.Common.{◌≡◌, ℕ, ◌+◌, ◌*◌, ◌/◌, ◌%◌, ◌<◌, ◌≤◌, List, [], ◌∷◌, ◌++◌, length, take, drop, map, refl, sym}
use Rattle.std.proofs.Common.{ap, ◌∙◌, subst, arith, Bool, true, false, Some, None}
use Rattle.std.specs.Prelude.{Option, nat_lt, nat_le, if◌then◌else◌, unwrap_or, option_map, slice_index, IsTrue}
use Rattle.std.specs.List.{AllByRecursion, list_all}
use Rattle.std.specs.Str.{is_utf8}
use Rattle.std.proofs.Math.Nat.{lt_of_not-le}
use Rattle.std.proofs.Math.Seq.{take-append_seam, drop-append_seam}
use Rattle.std.specs.Option.{option_or}
use Rattle.std.specs.Cmp.{first_so, second_so}
use Rattle.std.proofs.lemmas.Bool.{le-ltb, lt-ltb, le-leb, leb-true, ltb-false}
use Rattle.packed_list.specs.ListBytes.{CanPack, ListBytes, list_bytes}
use Rattle.packed_list.specs.Inner.ListReading.{items_in, AreBytes}
use Rattle.icu_plurals.specs.PackedElements.{PackedValue, PackedItem, PackedElements, IsPackedItem, IsPackedValue}
use Rattle.icu_plurals.specs.PackedElements.{CanPackItems, ElementsBytes, item_bytes, bytes_with}
use Rattle.icu_plurals.specs.declared.packed.error.ElementsBytesError.{ElementsBytesError}
use Rattle.icu_plurals.specs.declared.packed.error.ElementsBytesError.TheVariants as errors
use Rattle.icu_plurals.specs.ElementsFaults.{ElementsParts, PartsWith, ArePartsOf, HasPadding, element_fault, first_element_fault}
use Rattle.icu_plurals.specs.Inner.ElementsReading.{read_item, read_elements, read_behind, AreElements, is_item, IsGoodRest}
use Rattle.icu_plurals.specs.Inner.ElementsReading.{AreGoodParts, AreShown}

-- ---- items

-- a packed item is read as it was
pub item_again : (item : PackedItem) → IsPackedItem item → read_item (item_bytes item) ≡ item
item_again item is =
    let key : (16 * item.key + item.value.metadata) / 16 ≡ item.key = omega (arith, is.value.metadata) in
    let metadata : (16 * item.key + item.value.metadata) % 16 ≡ item.value.metadata = omega (arith, is.value.metadata) in
    rw (key, metadata) refl

-- a list of packed items is read as it was
pub items_again : (items : List PackedItem) → AllByRecursion IsPackedItem items → map read_item (map item_bytes items) ≡ items
items_again [] are = refl
items_again (item ∷ items) are = rw (item_again item are.0, items_again items are.1) refl

-- a packed item is good
pub packed_is_item : (item : PackedItem) → IsPackedItem item → is_item (item_bytes item) ≡ true
packed_is_item item is =
    let key : (16 * item.key + item.value.metadata) / 16 ≤ 6 = omega (arith, is.value.metadata, is.key) in
    rw (le-leb _ 6 key, is.value.text) refl

-- the bytes of packed items encode good items
pub packed_are_items : (items : List PackedItem) → AllByRecursion IsPackedItem items → list_all is_item (map item_bytes items) ≡ true
packed_are_items [] are = refl
packed_are_items (item ∷ items) are = rw (packed_is_item item are.0, packed_are_items items are.1) refl

-- the item in good bytes has them
pub item_spelled : (item : List ℕ) → is_item item ≡ true → item_bytes (read_item item) ≡ item
item_spelled [] h = cc
item_spelled (byte ∷ text) h =
    let e : 16 * (byte / 16) + byte % 16 ≡ byte = omega arith in
    ap (λ n. n ∷ text) e

-- good items are spelled again as they were read
pub items_spelled : (items : List (List ℕ)) → list_all is_item items ≡ true → map item_bytes (map read_item items) ≡ items
items_spelled [] h = refl
items_spelled (item ∷ items) h =
    rw (
      item_spelled item (first_so (is_item item) (list_all is_item items) h),
      items_spelled items
          (second_so (is_item item) (list_all is_item items) h),
    ) refl

-- good bytes encode an item: its key is one of the seven, and its text UTF-8
pub item-fits : (item : List ℕ) → is_item item ≡ true → IsPackedItem (read_item item)
item-fits [] h = cc
item-fits (byte ∷ text) h = record {
  key = leb-true (byte / 16) 6 (first_so (nat_le (byte / 16) 6) (is_utf8 text) h);
  value = record { metadata = omega arith; text = second_so (nat_le (byte / 16) 6) (is_utf8 text) h };
}

-- each good item of a list is the bytes of an item
pub items-fit : (items : List (List ℕ)) → list_all is_item items ≡ true → AllByRecursion IsPackedItem (map read_item items)
items-fit [] h = tt
items-fit (item ∷ items) h = (
  item-fits item (first_so (is_item item) (list_all is_item items) h),
  items-fit items
      (second_so (is_item item) (list_all is_item items) h),
)

-- ---- parts

-- the parts that packed elements are spelled with
abbrev pub first_with : ℕ → Option (List PackedItem) → ℕ
first_with metadata None = metadata
first_with metadata (Some items) = 128 + metadata

abbrev pub parts_with : PackedValue → Option (List PackedItem) → ElementsParts
parts_with default items = record {
  first = first_with default.metadata items;
  text = default.text;
  rest = option_map (λ (all : List PackedItem). list_bytes (map item_bytes all)) items;
}

abbrev pub parts_of_elements : PackedElements → ElementsParts
parts_of_elements packed = parts_with packed.default packed.items

-- the bytes of a default and of the items beside it are made of these parts
pub spelled_parts : (default : PackedValue) (items : Option (List PackedItem)) → default.metadata < 16
    → ArePartsOf (parts_with default items) (bytes_with default items)
spelled_parts default None h = (omega (arith, h), refl)
spelled_parts default (Some items) h = (omega arith, refl)

-- the bytes of packed elements are made of the parts that these are spelled with
pub elements_parts : (packed : PackedElements) (bytes : List ℕ) → ElementsBytes packed bytes → ArePartsOf (parts_of_elements packed) bytes
elements_parts packed bytes h =
    subst (ArePartsOf (parts_of_elements packed)) (sym h.spelled) (spelled_parts packed.default packed.items h.default.metadata)

-- bytes are made of their parts in one way
one_parts_with : (first : ℕ) (text : List ℕ) (rest : Option (List ℕ)) (other : ℕ) (others : List ℕ) (left : Option (List ℕ))
    (bytes : List ℕ)
    → PartsWith first text rest bytes → PartsWith other others left bytes
    → ◌≡◌ {A = ElementsParts} (record { first = first; text = text; rest = rest }) (record { first = other; text = others; rest = left })
one_parts_with first text None other others None bytes h g =
    let e : first ≡ other = cc in
    let f : text ≡ others = cc in
    rw (e, f) refl
one_parts_with first text None other others (Some left) bytes h g =
    let e : first ≡ other = cc in
    absurd (omega (arith, h.0, g.0, e))
one_parts_with first text (Some rest) other others None bytes h g =
    let e : first ≡ other = cc in
    absurd (omega (arith, h.0, g.0, e))
one_parts_with first text (Some rest) other others (Some left) bytes h g =
    let e : first ≡ other = cc in
    let n : length text ≡ length others = cc in
    let b : text ++ rest ≡ others ++ left = cc in
    let t : text ≡ others =
    sym (take-append_seam text rest) ∙ ap (λ k. take k (text ++ rest)) n ∙ ap (take (length others)) b ∙ take-append_seam others left in
    let r : rest ≡ left =
    sym (drop-append_seam text rest) ∙ ap (λ k. drop k (text ++ rest)) n ∙ ap (drop (length others)) b ∙ drop-append_seam others left in
    rw (e, t, r) refl

-- two ways to cut the same bytes into parts are one
pub one_parts : (parts others : ElementsParts) (bytes : List ℕ) → ArePartsOf parts bytes → ArePartsOf others bytes → parts ≡ others
one_parts parts others bytes h g = one_parts_with parts.first parts.text parts.rest others.first others.text others.rest bytes h g

-- ---- read again

-- the law of packed lists that is used below
abbrev pub PackedItems : Type 0
PackedItems = (items : List (List ℕ)) (bytes : List ℕ) → ListBytes items bytes → items_in bytes ≡ items

-- if no items follow, all bytes after the first are the default's text
behind_alone : (metadata : ℕ) (text : List ℕ) → metadata < 16
    → read_behind metadata text ≡ record { default = record { metadata = metadata; text = text }; items = None }
behind_alone metadata [] h =
    let e : metadata % 16 ≡ metadata = omega (arith, h) in
    ap (λ (n : ℕ). record { default = record { metadata = n; text = [] }; items = None }) e
behind_alone metadata (byte ∷ text) h =
    let e : metadata % 16 ≡ metadata = omega (arith, h) in
    let l : nat_lt metadata 128 ≡ true = lt-ltb metadata 128 (omega (arith, h)) in
    rw (l, e) refl

-- if items follow, the default's text and the items are read as they were packed
behind_items : PackedItems → (default : PackedValue) (items : List PackedItem) → IsPackedValue default
    → AllByRecursion IsPackedItem items → CanPack (map item_bytes items)
    → read_behind (128 + default.metadata)
    (length default.text ∷ (default.text ++ list_bytes (map item_bytes items))) ≡ record { default = default; items = Some items }
behind_items law default items is are can =
    let list = list_bytes (map item_bytes items) in
    let l : nat_lt (128 + default.metadata) 128 ≡ false = le-ltb (128 + default.metadata) 128 (omega arith) in
    let m : (128 + default.metadata) % 16 ≡ default.metadata = omega (arith, is.metadata) in
    let t = take-append_seam default.text list in
    let d = drop-append_seam default.text list in
    let here : ListBytes (map item_bytes items) list = record { can_pack = can; spelled = refl } in
    let i : map read_item (items_in list) ≡ items = ap (map read_item) (law (map item_bytes items) list here) ∙ items_again items are in
    rw (l, m, t, d, i) refl

-- with items or without, the bytes of a default are read as they were packed
read_with : PackedItems → (default : PackedValue) (items : Option (List PackedItem)) → IsPackedValue default
    → AllByRecursion IsPackedItem (unwrap_or items []) → CanPackItems default items
    → read_elements (bytes_with default items) ≡ record { default = default; items = items }
unfolding read_elements
read_with law default None is are can = behind_alone default.metadata default.text is.metadata
read_with law default (Some items) is are can = behind_items law default items is are can.list

-- bytes encode at most one value of packed elements
pub elements_in_one : PackedItems → (packed : PackedElements) (bytes : List ℕ) → ElementsBytes packed bytes → read_elements bytes ≡ packed
elements_in_one law packed bytes h = ap read_elements h.spelled ∙ read_with law packed.default packed.items h.default h.items h.can_pack

-- ---- parts of packed elements

-- items that can be packed have the bytes that they are spelled with
list_is : (items : List (List ℕ)) → CanPack items → ListBytes items (list_bytes items)
list_is items can = record { can_pack = can; spelled = refl }

-- the parts that a default and its items are spelled with show these
shown_with : (default : PackedValue) (items : Option (List PackedItem)) → IsPackedValue default
    → AllByRecursion IsPackedItem (unwrap_or items []) → CanPackItems default items
    → AreShown (parts_with default items) (record { default = default; items = items })
shown_with default None is are can = record {
  default_value = let e : default.metadata % 16 ≡ default.metadata = omega (arith, is.metadata) in rw e refl;
  text = is.text;
  list = record { can_pack = record { count = omega arith; starts = refl }; spelled = refl };
  fit = tt;
}
shown_with default (Some items) is are can = record {
  default_value = let e : (128 + default.metadata) % 16 ≡ default.metadata = omega (arith, is.metadata) in rw e refl;
  text = is.text;
  list = list_is (map item_bytes items) can.list;
  fit = are;
}

-- whatever parts the bytes of packed elements are cut into, they show these elements
pub parts_shown : (packed : PackedElements) (parts : ElementsParts) (bytes : List ℕ) → ElementsBytes packed bytes
    → ArePartsOf parts bytes → AreShown parts packed
parts_shown packed parts bytes h are =
    let same = one_parts (parts_of_elements packed) parts bytes (elements_parts packed bytes h) are in
    subst (λ (all : ElementsParts). AreShown all packed) same (shown_with packed.default packed.items h.default h.items h.can_pack)

-- ---- good parts

-- if two tests in a row find no fault, the first is false and the second is true
pub two_tests : (high text : Bool) (fault other : ElementsBytesError)
    → (if high then Some fault else (if text then None else Some other)) ≡ None → (high ≡ false) × (text ≡ true)
two_tests true text fault other h = (cc, cc)
two_tests false true fault other h = (refl, refl)
two_tests false false fault other h = (refl, cc)

-- an item in which no fault is found is good
pub item_passes : (place : ℕ) (item : List ℕ) → element_fault place item ≡ None → is_item item ≡ true
item_passes place [] h = cc
item_passes place (byte ∷ text) h =
    let t = two_tests (nat_lt 6 (byte / 16)) (is_utf8 text) (errors.Key place) (errors.ItemText place) h in
    rw (le-leb (byte / 16) 6 (ltb-false 6 (byte / 16) t.0), t.1) refl

-- the first of two faults is absent only if both are
pub neither : (first other : Option ElementsBytesError) → option_or first other ≡ None → (first ≡ None) × (other ≡ None)
neither None other h = (refl, h)
neither (Some fault) other h = (cc, cc)

-- a list in which no bad item is found has only good items
pub items_pass : (place : ℕ) (items : List (List ℕ)) → first_element_fault place items ≡ None → list_all is_item items ≡ true
items_pass place [] h = refl
items_pass place (item ∷ items) h =
    let n = neither (element_fault place item) (first_element_fault (place + 1) items) h in
    rw (item_passes place item n.0, items_pass (place + 1) items n.1) refl

-- in a good item no fault is found
element_fault-none : (place : ℕ) (item : List ℕ) → is_item item ≡ true → element_fault place item ≡ None
element_fault-none place [] h = cc
element_fault-none place (byte ∷ text) h =
    let low : nat_lt 6 (byte / 16) ≡ false =
    le-ltb 6 (byte / 16) (leb-true (byte / 16) 6 (first_so (nat_le (byte / 16) 6) (is_utf8 text) h)) in
    rw (low, second_so (nat_le (byte / 16) 6) (is_utf8 text) h) refl

-- in a list of good items no bad one is found
pub first_element_fault-none : (place : ℕ) (items : List (List ℕ)) → list_all is_item items ≡ true → first_element_fault place items ≡ None
first_element_fault-none place [] h = refl
first_element_fault-none place (item ∷ items) h =
    ap (λ f. option_or f (first_element_fault (place + 1) items))
    (element_fault-none place item (first_so (is_item item) (list_all is_item items) h))
    ∙ first_element_fault-none (place + 1) items (second_so (is_item item) (list_all is_item items) h)

-- apart from bit 7, the first byte without padding is metadata
no_padding : (first : ℕ) → ¬ (HasPadding first) → first % 128 < 16
no_padding first n = lt_of_not-le n

-- bytes that are made of good parts encode some packed elements
good_with : (first : ℕ) (text : List ℕ) (rest : Option (List ℕ)) (bytes : List ℕ) → AreBytes bytes
    → PartsWith first text rest bytes → first % 128 < 16 → IsTrue (is_utf8 text) → IsGoodRest rest
    → (packed : PackedElements) × ElementsBytes packed bytes
good_with first text None bytes are parts low utf8 good = (
  record { default = record { metadata = first; text = text }; items = None },
  record {
    default = record { metadata = omega (arith, low, parts.0); text = utf8 };
    items = tt;
    can_pack = tt;
    spelled = parts.1;
  },
)
good_with first text (Some rest) bytes are parts low utf8 good =
    let pass = items_pass 0 good.0 good.2 in
    let same = items_spelled good.0 pass in
    let small : first < 256 = subst (λ bs. slice_index bs 0 < 256) parts.1 (are 0) in
    let short : length text < 256 = subst (λ bs. slice_index bs 1 < 256) parts.1 (are 1) in
    let head : first ≡ 128 + first % 16 = omega (arith, parts.0, small, low) in
    let list : list_bytes (map item_bytes (map read_item good.0)) ≡ rest = ap list_bytes same ∙ sym good.1.spelled in (
      record { default = record { metadata = first % 16; text = text }; items = Some (map read_item good.0) },
      record {
        default = record { metadata = omega arith; text = utf8 };
        items = items-fit good.0 pass;
        can_pack = record { length = omega (arith, short); list = subst CanPack (sym same) good.1.can_pack };
        spelled = parts.1 ∙ ap (λ n. n ∷ length text ∷ (text ++ rest)) head
            ∙ ap (λ l. (128 + first % 16) ∷ length text ∷ (text ++ l)) (sym list);
      },
    )

-- bytes with good parts encode the packed elements that they hold
pub good_are_elements : PackedItems → (parts : ElementsParts) (bytes : List ℕ) → AreBytes bytes → ArePartsOf parts bytes
    → AreGoodParts parts → AreElements bytes
good_are_elements law parts bytes are of good =
    let made = good_with parts.first parts.text parts.rest bytes are of (no_padding parts.first good.0) good.1 good.2 in
    subst (λ (packed : PackedElements). ElementsBytes packed bytes) (sym (elements_in_one law made.0 bytes made.1)) made.1

-- the parts that a default and its items are spelled with are good
rest_with : (default : PackedValue) (items : Option (List PackedItem)) → IsPackedValue default
    → AllByRecursion IsPackedItem (unwrap_or items []) → CanPackItems default items → AreGoodParts (parts_with default items)
rest_with default None is are can = ((λ h. omega (arith, h, is.metadata)), is.text, tt)
rest_with default (Some items) is are can = (
  (λ h. omega (arith, h, is.metadata)),
  is.text,
  (
    map item_bytes items,
    list_is (map item_bytes items) can.list,
    first_element_fault-none 0 (map item_bytes items)
        (packed_are_items items are),
  ),
)

-- the parts of packed elements are good
pub elements_are_good : (packed : PackedElements) (parts : ElementsParts) (bytes : List ℕ) → ElementsBytes packed bytes
    → ArePartsOf parts bytes → AreGoodParts parts
elements_are_good packed parts bytes h are =
    let same = one_parts (parts_of_elements packed) parts bytes (elements_parts packed bytes h) are in
    subst AreGoodParts same (rest_with packed.default packed.items h.default h.items h.can_pack)
