-- The check of items from the last to the first.
use Rattle.std.proofs.Common.{◌≡◌, ◌≢◌, ◌∙◌, ◌+◌, ◌<◌, ◌≤◌, ℕ, List, ◌∷◌, refl, ap, sym, subst, arith, true, false, Bool, length}
use Rattle.std.proofs.Common.{◌-◌, [], get_or, set, map, take, drop}
use Rattle.std.specs.Prelude.{nat_le, nat_lt, nat_eq, not, ◌&&◌, if◌then◌else◌}
use Rattle.std.specs.Cmp.Derive.{both_true}
use Rattle.std.proofs.lemmas.Bool.Decides.{nat_tests}
use Rattle.std.proofs.lemmas.List.{get_or-set_other, get_or-set_same, length-set, take_all}
use Rattle.message_pattern.specs.PatternParts.{Part, PatternPiece, Text, Hash, Argument, Begin, Branch, End}
use Rattle.packed_part.specs.PartOrder.{depth_behind, ends_branch, is_begin, is_selector, may_follow}
use Rattle.packed_part.specs.PackedParts.{is_packable, part_item_bytes, part_items_of, piece_tag, place_bytes}
use Rattle.packed_part.specs.Inner.PartReading.{part_in}
use Rattle.packed_pattern.specs.Inner.PlacesAhead.{AreWalked, GoesOnTo, MayStandBefore, ahead_of, ended_at, has_places, level, passed, gone_on}
use Rattle.packed_pattern.specs.declared.ahead.Ahead.{Ahead}
use Rattle.packed_pattern.specs.declared.walk.Walk.{Walk}
use Rattle.packed_pattern.proofs.PartBytes.{length-place_bytes, part_again}
use Rattle.packed_pattern.proofs.PartsAhead.{deeper, passed_ahead, places_there}

-- ---- depths

least_behind : (p : Part) → p.depth ≤ depth_behind p
least_behind p = here (is_begin p.piece) (is_selector p.piece)
  where
    here : (b s : Bool) → p.depth ≤ (if b then p.depth + 1 else if s then p.depth + 1 else p.depth)
    here true s = omega arith
    here false true = omega arith
    here false false = omega arith

one_behind : (p : Part) → has_places p.piece ≡ true → depth_behind p ≡ p.depth + 1
one_behind p h = here p.piece h
  where
    here : (piece : PatternPiece) → has_places piece ≡ true
        → (if is_begin piece then p.depth + 1 else if is_selector piece then p.depth + 1 else p.depth) ≡ p.depth + 1
    here (Text text) e = cc
    here Hash e = cc
    here (Argument name) e = cc
    here (Begin kind name offset) e = refl
    here (Branch selector) e = refl
    here End e = cc

-- what may stand before a part that was looked at may be followed by it
follows : (old : Walk) (p before : Part) (index : ℕ) → MayStandBefore before (gone_on p index old) → may_follow before p ≡ true
follows old p before index b = here (ends_branch p.piece) b.0 b.1
  where
    none : (x : Bool) → (x ≡ true → false ≡ true) → not x ≡ true
    none true h = h refl
    none false h = refl

    here : (e : Bool) → depth_behind before ≡ (if e then p.depth + 1 else p.depth) → (is_begin before.piece ≡ true → e ≡ true)
        → (if e then nat_eq (p.depth + 1) (depth_behind before)
        else not (is_begin before.piece) && nat_eq p.depth (depth_behind before)) ≡ true
    here true d h = grind (arith, nat_tests)
    here false d h = both_true (none (is_begin before.piece) h) (grind (arith, nat_tests))

-- ---- levels

-- those outside a part stay
outside : (old : Walk) (p : Part) (index depth : ℕ) (items : List (List ℕ)) → AreWalked old (index + 1) items → MayStandBefore p old
    → depth < p.depth → level old depth ≡ ahead_of index depth (p ∷ map part_in items)
outside old p index depth items w b d =
    let least = least_behind p in
    let lower : nat_lt depth p.depth ≡ true = grind (arith, nat_tests) in
    w.ahead depth (omega (arith, b.0)) ∙ sym (deeper index depth p (map part_in items) lower)

-- that of a part with places stands behind it
stands : (old : Walk) (p : Part) (index : ℕ) (items : List (List ℕ)) → AreWalked old (index + 1) items → MayStandBefore p old
    → has_places p.piece ≡ true → level old p.depth ≡ ahead_of (index + 1) p.depth (map part_in items)
stands old p index items w b h = w.ahead p.depth (omega (arith, one_behind p h, b.0))

-- a selector and an end change that of their depth
changed : (old : Walk) (p : Part) (index depth : ℕ) (items : List (List ℕ)) → AreWalked old (index + 1) items → MayStandBefore p old
    → p.depth ≤ 32 → depth < p.depth + 1
    → get_or (set old.levels p.depth (passed p.piece index (level old p.depth))) depth (ended_at 0) ≡ ahead_of index depth (p ∷ map part_in items)
changed old p index depth items w b deep d = here (nat_lt depth p.depth) refl
  where
    v : Ahead
    v = passed p.piece index (level old p.depth)

    here : (l : Bool) → nat_lt depth p.depth ≡ l → get_or (set old.levels p.depth v) depth (ended_at 0) ≡ ahead_of index depth (p ∷ map part_in items)
    here true e =
        let lower : depth < p.depth = grind (arith, nat_tests) in
        let other : depth ≢ p.depth = omega arith in
        get_or-set_other old.levels p.depth depth v (ended_at 0) other ∙ outside old p index depth items w b lower
    here false e =
        let ps = map part_in items in
        let same : depth ≡ p.depth = grind (arith, nat_tests) in
        let itself : nat_lt p.depth p.depth ≡ false = grind (arith, nat_tests) in
        let there : p.depth < length old.levels = omega (arith, w.all) in
        ap (λ n. get_or (set old.levels p.depth v) n (ended_at 0)) same ∙ get_or-set_same old.levels p.depth v (ended_at 0) there
        ∙ passed_ahead p index p.depth ps (level old p.depth) itself (stands old p index items w b) ∙ ap (λ n. ahead_of index n (p ∷ ps)) (sym same)

levels_there : (old : Walk) (p : Part) (index depth : ℕ) (items : List (List ℕ)) → AreWalked old (index + 1) items → MayStandBefore p old
    → p.depth ≤ 32 → depth < (gone_on p index old).count → level (gone_on p index old) depth ≡ ahead_of index depth (p ∷ map part_in items)
levels_there old p index depth items w b deep d = here (ends_branch p.piece) d
  where
    here : (e : Bool) → depth < (if e then p.depth + 1 else p.depth)
        → get_or (if e then set old.levels p.depth (passed p.piece index (level old p.depth)) else old.levels) depth (ended_at 0)
        ≡ ahead_of index depth (p ∷ map part_in items)
    here true d = changed old p index depth items w b deep d
    here false d = outside old p index depth items w b d

all_there : (old : Walk) (p : Part) (index : ℕ) → length old.levels ≡ 33 → length (gone_on p index old).levels ≡ 33
all_there old p index h = here (ends_branch p.piece)
  where
    v : Ahead
    v = passed p.piece index (level old p.depth)

    here : (e : Bool) → length (if e then set old.levels p.depth v else old.levels) ≡ 33
    here true = length-set old.levels p.depth v ∙ h
    here false = h

-- ---- one item more

-- the item is that of a part, which may stand there
record IsThere (p : Part) (index : ℕ) (item : List ℕ) (items : List (List ℕ)) (old new : Walk) : Type 0 where
  fits : is_packable p ≡ true
  deep : p.depth ≤ 32
  own : item ≡ part_item_bytes p (place_bytes p (map part_in items))
  before : MayStandBefore p old
  walk : new ≡ gone_on p index old

there_walked : (old new : Walk) (index : ℕ) (item : List ℕ) (items : List (List ℕ)) → AreWalked old (index + 1) items
    → IsThere (part_in item) index item items old new → AreWalked new index (item ∷ items)
there_walked old new index item items w t =
    let p = part_in item in
    let ps = map part_in items in
    subst (λ (x : Walk). AreWalked x index (item ∷ items)) (sym t.walk)
    (record {
      packable = both_true t.fits w.packable;
      packed = ap (λ x. x ∷ part_items_of ps) (sym t.own) ∙ ap (λ xs. item ∷ xs) w.packed;
      nested = λ place before b. rw (follows old p before index b) (w.nested (place + 1) p t.before);
      ahead = λ depth d. levels_there old p index depth items w t.before t.deep d;
      all = all_there old p index w.all;
    })

-- behind its tag and its depth an item has its content
split : (item : List ℕ) (tag depth : ℕ) → 2 ≤ length item → get_or item 0 0 ≡ tag → depth ≡ get_or item 1 0
    → item ≡ tag ∷ depth ∷ take (length item - 2) (drop 2 item)
split [] tag depth h t d = absurd (omega (arith, h))
split (a ∷ []) tag depth h t d = absurd (omega (arith, h))
split (a ∷ b ∷ rest) tag depth h t d =
    let e : length (a ∷ b ∷ rest) - 2 ≡ length rest = omega arith in
    rw (e, take_all (length rest) rest (omega arith), sym t, d) refl

pub one_walked : (old new : Walk) (p : Part) (index : ℕ) (item : List ℕ) (items : List (List ℕ)) → AreWalked old (index + 1) items
    → p.depth ≤ 32 → 2 ≤ length item → get_or item 0 0 ≡ piece_tag p.piece → p.depth ≡ get_or item 1 0
    → GoesOnTo p index (take (length item - 2) (drop 2 item)) old new → AreWalked new index (item ∷ items)
one_walked old new p index item items w deep long tag depth s =
    let ps = map part_in items in
    let content = take (length item - 2) (drop 2 item) in
    let shallow : nat_le p.depth 32 ≡ true = grind (arith, nat_tests) in
    let fits : is_packable p ≡ true = both_true shallow s.content.fits in
    let own : item ≡ part_item_bytes p (place_bytes p ps) =
    split item (piece_tag p.piece) p.depth long tag depth ∙ ap (λ x. piece_tag p.piece ∷ p.depth ∷ x) s.content.bytes
    ∙ ap (part_item_bytes p) (places_there p (index + 1) ps (level old p.depth) (stands old p index items w s.before)) in
    let held : part_in item ≡ p = ap part_in own ∙ part_again p (place_bytes p ps) (length-place_bytes p.depth p.piece ps) fits in
    there_walked old new index item items w
    (subst (λ (q : Part). IsThere q index item items old new) (sym held)
    (record { fits = fits; deep = deep; own = own; before = s.before; walk = s.walk }))
