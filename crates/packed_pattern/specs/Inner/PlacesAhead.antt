-- What stands ahead of a place in the parts of a block, for the check from the last part to the first.
-- Not a definition of the subject.
use Rattle.std.specs.Prelude.{◌≡◌, ◌+◌, ◌-◌, ◌<◌, ℕ, List, [], ◌∷◌, ◌++◌, map, flat_map, get_or, set, length, bytes_eq, codes}
use Rattle.std.specs.Prelude.{Bool, true, false, if◌then◌else◌, None}
use Rattle.std.specs.List.{list_all}
use Rattle.message_pattern.specs.declared.part.ArgumentKind.TheVariants.{Select}
use Rattle.message_pattern.specs.PatternParts.{Part, PatternPiece, Begin, Branch, Exactly, Keyword}
use Rattle.packed_list.specs.ListBytes.{two_bytes}
use Rattle.packed_pattern.specs.declared.ahead.Ahead.{Ahead}
use Rattle.packed_pattern.specs.declared.walk.Walk.{Walk}
use Rattle.packed_part.specs.PartOrder.{depth_behind, ends_branch, first_misplaced, is_begin}
use Rattle.packed_part.specs.PartPlaces.{AnyNumber, Word, argument_length, branch_length, branch_place, or_place, PlacedPart}
use Rattle.packed_part.specs.PackedParts.{is_packable, is_packable_piece, own_bytes, part_items_of}
use Rattle.packed_part.specs.Inner.PartReading.{part_in, item_places}
use Rattle.packed_part.specs.Inner.PartViews.{behind}
use Rattle.packed_pattern.specs.declared.placed.PlacedPart as placed

-- ---- a placed part, as contracts see it

-- the part that an item holds, with its places
abbrev pub placed_view : placed.PlacedPart → PlacedPart
placed_view p = record { part = part_in p.item.now; places = item_places p.item.now }

-- what stands ahead at a depth in parts of which the first is at an index
abbrev pub ahead_of : ℕ → ℕ → List Part → Ahead
ahead_of start depth parts = record {
  argument = start + argument_length depth parts;
  branch = start + branch_length depth parts;
  number = behind start (branch_place AnyNumber depth parts);
  zero = behind start (branch_place (Word (codes "zero")) depth parts);
  one = behind start (branch_place (Word (codes "one")) depth parts);
  two = behind start (branch_place (Word (codes "two")) depth parts);
  few = behind start (branch_place (Word (codes "few")) depth parts);
  many = behind start (branch_place (Word (codes "many")) depth parts);
  other = behind start (branch_place (Word (codes "other")) depth parts);
}

-- everything ends at an index
abbrev pub ended_at : ℕ → Ahead
ended_at index = record {
  argument = index;
  branch = index;
  number = 0;
  zero = 0;
  one = 0;
  two = 0;
  few = 0;
  many = 0;
  other = 0;
}

-- the branch of a keyword, which is that of a selector at an index if this is the keyword
abbrev pub found_at : List ℕ → List ℕ → ℕ → ℕ → ℕ
found_at word sought index later = if bytes_eq word sought then index + 1 else later

-- what stands ahead from a piece at an index on, if that is ahead of it
abbrev pub passed : PatternPiece → ℕ → Ahead → Ahead
passed (Branch (Exactly number)) index a = record {
  argument = a.argument;
  branch = index;
  number = index + 1;
  zero = a.zero;
  one = a.one;
  two = a.two;
  few = a.few;
  many = a.many;
  other = a.other;
}
passed (Branch (Keyword word)) index a = record {
  argument = a.argument;
  branch = index;
  number = a.number;
  zero = found_at word (codes "zero") index a.zero;
  one = found_at word (codes "one") index a.one;
  two = found_at word (codes "two") index a.two;
  few = found_at word (codes "few") index a.few;
  many = found_at word (codes "many") index a.many;
  other = found_at word (codes "other") index a.other;
}
passed _ index a = ended_at index

-- the places of a plural that they are ahead of, counted from a start
abbrev pub plural_ahead : ℕ → Ahead → List ℕ
plural_ahead start a =
    (a.argument - start) ∷ (a.number - start)
    ∷ or_place (a.zero - start) (a.other - start) ∷ or_place (a.one - start) (a.other - start)
    ∷ or_place (a.two - start) (a.other - start) ∷ or_place (a.few - start) (a.other - start)
    ∷ or_place (a.many - start) (a.other - start) ∷ (a.other - start) ∷ []

-- those of a piece
abbrev pub places_ahead : PatternPiece → ℕ → Ahead → List ℕ
places_ahead (Begin Select name offset) start a = (a.argument - start) ∷ (a.other - start) ∷ []
places_ahead (Begin kind name offset) start a = plural_ahead start a
places_ahead (Branch (Exactly number)) start a = (a.branch - start) ∷ (a.number - start) ∷ []
places_ahead (Branch (Keyword word)) start a = (a.branch - start) ∷ []
places_ahead _ start a = []

-- a part has places: it begins an argument that chooses, or a branch
abbrev pub has_places : PatternPiece → Bool
has_places (Begin kind name offset) = true
has_places (Branch selector) = true
has_places _ = false

-- behind its depth an item at an index has the places of a piece that these are ahead of, and what the
-- piece has of its own, and it can be packed
pub record IsContent (piece : PatternPiece) (index : ℕ) (ahead : Ahead) (content : List ℕ) : Type 0 where
  pub fits : is_packable_piece piece ≡ true
  pub bytes : content ≡ flat_map two_bytes (places_ahead piece (index + 1) ahead) ++ own_bytes piece

-- ---- the check

-- a part may stand before the parts that were looked at: it leaves as many arguments open as these close,
-- and behind a beginning stands a selector or an end
abbrev pub MayStandBefore : Part → Walk → Type 0
MayStandBefore p w = (depth_behind p ≡ w.count) × (is_begin p.piece ≡ true → w.ends_branch ≡ true)

-- what stands ahead at a depth
abbrev pub level : Walk → ℕ → Ahead
level w depth = get_or w.levels depth (ended_at 0)

-- the walk that has gone on to a part at an index
abbrev pub gone_on : Part → ℕ → Walk → Walk
gone_on p index w = record {
  levels = if ends_branch p.piece then set w.levels p.depth (passed p.piece index (level w p.depth)) else w.levels;
  count = if ends_branch p.piece then p.depth + 1 else p.depth;
  ends_branch = ends_branch p.piece;
}

-- it goes on to a part at an index, behind whose depth its item has these bytes
pub record GoesOnTo (p : Part) (index : ℕ) (bytes : List ℕ) (old new : Walk) : Type 0 where
  pub content : IsContent p.piece index (level old p.depth) bytes
  pub before : MayStandBefore p old
  pub walk : new ≡ gone_on p index old

-- The items from an index on are those of the parts that they hold, and in their order behind what may
-- stand before them; at each depth at which an argument is open there this is what stands ahead.
pub record AreWalked (walk : Walk) (index : ℕ) (items : List (List ℕ)) : Type 0 where
  pub packable : list_all is_packable (map part_in items) ≡ true
  pub packed : part_items_of (map part_in items) ≡ items
  pub nested : (place : ℕ) (before : Part) → MayStandBefore before walk → first_misplaced place before (map part_in items) ≡ None
  pub ahead : (depth : ℕ) → depth < walk.count → level walk depth ≡ ahead_of index depth (map part_in items)
  pub all : length walk.levels ≡ 33
