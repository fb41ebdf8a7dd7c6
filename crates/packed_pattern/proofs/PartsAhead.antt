-- What stands ahead from a part on, by what stands ahead behind it.
use Rattle.std.proofs.Common.{◌≡◌, ◌∙◌, ◌+◌, ◌-◌, ℕ, List, [], ◌∷◌, refl, ap, sym, arith, true, false, Bool}
use Rattle.std.specs.Prelude.{nat_lt, bytes_eq, codes, flat_map, if◌then◌else◌, ◌||◌}
use Rattle.message_pattern.specs.declared.part.ArgumentKind.TheVariants.{Plural, Ordinal, Select}
use Rattle.packed_list.specs.ListBytes.{two_bytes}
use Rattle.message_pattern.specs.PatternParts.{Part, PatternPiece, Text, Hash, Argument, Begin, Branch, End, Exactly, Keyword}
use Rattle.packed_part.specs.PartOrder.{is_selector}
use Rattle.packed_part.specs.PartPlaces.{Sought, AnyNumber, Word, argument_length, argument_places, branch_length, branch_place, one_more}
use Rattle.packed_part.specs.PartPlaces.{is_sought_branch, or_place, piece_places}
use Rattle.packed_part.specs.PackedParts.{place_bytes}
use Rattle.packed_part.specs.Inner.PartViews.{behind}
use Rattle.packed_pattern.specs.Inner.PlacesAhead.{ahead_of, ended_at, found_at, has_places, passed, places_ahead, plural_ahead}
use Rattle.packed_pattern.specs.declared.ahead.Ahead.{Ahead}
use Rattle.packed_pattern.proofs.BehindPlaces.{behind_less, behind_more}

-- what stands ahead is the same if it is in each field
same : (a b : Ahead) → a.argument ≡ b.argument → a.branch ≡ b.branch → a.number ≡ b.number → a.zero ≡ b.zero → a.one ≡ b.one
    → a.two ≡ b.two → a.few ≡ b.few → a.many ≡ b.many → a.other ≡ b.other → a ≡ b
same a b e0 e1 e2 e3 e4 e5 e6 e7 e8 =
    ap (λ x. record {
      argument = x;
      branch = a.branch;
      number = a.number;
      zero = a.zero;
      one = a.one;
      two = a.two;
      few = a.few;
      many =
          a.many;
      other = a.other;
    }) e0
    ∙ ap (λ x. record {
      argument = b.argument;
      branch = x;
      number = a.number;
      zero = a.zero;
      one = a.one;
      two = a.two;
      few = a.few;
      many =
          a.many;
      other = a.other;
    }) e1
    ∙ ap (λ x. record {
      argument = b.argument;
      branch = b.branch;
      number = x;
      zero = a.zero;
      one = a.one;
      two = a.two;
      few = a.few;
      many =
          a.many;
      other = a.other;
    }) e2
    ∙ ap (λ x. record {
      argument = b.argument;
      branch = b.branch;
      number = b.number;
      zero = x;
      one = a.one;
      two = a.two;
      few = a.few;
      many =
          a.many;
      other = a.other;
    }) e3
    ∙ ap (λ x. record {
      argument = b.argument;
      branch = b.branch;
      number = b.number;
      zero = b.zero;
      one = x;
      two = a.two;
      few = a.few;
      many = a.many;
      other = a.other;
    }) e4
    ∙ ap (λ x. record {
      argument = b.argument;
      branch = b.branch;
      number = b.number;
      zero = b.zero;
      one = b.one;
      two = x;
      few = a.few;
      many = a.many;
      other = a.other;
    }) e5
    ∙ ap (λ x. record {
      argument = b.argument;
      branch = b.branch;
      number = b.number;
      zero = b.zero;
      one = b.one;
      two = b.two;
      few = x;
      many = a.many;
      other = a.other;
    }) e6
    ∙ ap (λ x. record {
      argument = b.argument;
      branch = b.branch;
      number = b.number;
      zero = b.zero;
      one = b.one;
      two = b.two;
      few = b.few;
      many = x;
      other = a.other;
    }) e7
    ∙ ap (λ x. record {
      argument = b.argument;
      branch = b.branch;
      number = b.number;
      zero = b.zero;
      one = b.one;
      two = b.two;
      few = b.few;
      many = b.many;
      other = x;
    }) e8

-- ---- a part that is deeper is passed over

deeper_place : (sought : Sought) (index depth : ℕ) (p : Part) (ps : List Part) → nat_lt depth p.depth ≡ true
    → behind index (branch_place sought depth (p ∷ ps)) ≡ behind (index + 1) (branch_place sought depth ps)
deeper_place sought index depth p ps h = rw h (sym (behind_more index (branch_place sought depth ps)))

deeper_argument : (index depth : ℕ) (p : Part) (ps : List Part) → nat_lt depth p.depth ≡ true
    → index + argument_length depth (p ∷ ps) ≡ index + 1 + argument_length depth ps
deeper_argument index depth p ps h = rw h (omega arith)

deeper_branch : (index depth : ℕ) (p : Part) (ps : List Part) → nat_lt depth p.depth ≡ true
    → index + branch_length depth (p ∷ ps) ≡ index + 1 + branch_length depth ps
deeper_branch index depth p ps h = rw h (omega arith)

pub deeper : (index depth : ℕ) (p : Part) (ps : List Part) → nat_lt depth p.depth ≡ true
    → ahead_of index depth (p ∷ ps) ≡ ahead_of (index + 1) depth ps
deeper index depth p ps h =
    same (ahead_of index depth (p ∷ ps)) (ahead_of (index + 1) depth ps) (deeper_argument index depth p ps h)
    (deeper_branch index depth p ps h)
    (deeper_place AnyNumber index depth p ps h) (deeper_place (Word (codes "zero")) index depth p ps h)
    (deeper_place (Word (codes "one")) index depth p ps h) (deeper_place (Word (codes "two")) index depth p ps h)
    (deeper_place (Word (codes "few")) index depth p ps h) (deeper_place (Word (codes "many")) index depth p ps h)
    (deeper_place (Word (codes "other")) index depth p ps h)

-- ---- a part that isn't

abbrev at : ℕ → PatternPiece → Part
at depth piece = record { depth = depth; piece = piece }

not_sought : (sought : Sought) (piece : PatternPiece) → is_selector piece ≡ false → is_sought_branch sought piece ≡ false
not_sought AnyNumber (Text text) s = refl
not_sought AnyNumber Hash s = refl
not_sought AnyNumber (Argument name) s = refl
not_sought AnyNumber (Begin kind name offset) s = refl
not_sought AnyNumber (Branch selector) s = cc
not_sought AnyNumber End s = refl
not_sought (Word word) (Text text) s = refl
not_sought (Word word) Hash s = refl
not_sought (Word word) (Argument name) s = refl
not_sought (Word word) (Begin kind name offset) s = refl
not_sought (Word word) (Branch selector) s = cc
not_sought (Word word) End s = refl

-- there is no branch behind what is none
no_place : (sought : Sought) (index depth own : ℕ) (piece : PatternPiece) (ps : List Part) → nat_lt depth own ≡ false
    → is_selector piece ≡ false
    → 0 ≡ behind index (branch_place sought depth (at own piece ∷ ps))
no_place sought index depth own piece ps h s = rw (h, not_sought sought piece s, s) refl

ended_argument : (index depth own : ℕ) (piece : PatternPiece) (ps : List Part) → nat_lt depth own ≡ false → is_selector piece ≡ false
    → index ≡ index + argument_length depth (at own piece ∷ ps)
ended_argument index depth own piece ps h s = rw (h, s) (omega arith)

ended_branch : (index depth own : ℕ) (piece : PatternPiece) (ps : List Part) → nat_lt depth own ≡ false
    → index ≡ index + branch_length depth (at own piece ∷ ps)
ended_branch index depth own piece ps h = rw h (omega arith)

ended : (index depth own : ℕ) (piece : PatternPiece) (ps : List Part) → nat_lt depth own ≡ false → is_selector piece ≡ false
    → ended_at index ≡ ahead_of index depth (at own piece ∷ ps)
ended index depth own piece ps h s =
    same (ended_at index) (ahead_of index depth (at own piece ∷ ps)) (ended_argument index depth own piece ps h s)
    (ended_branch index depth own piece ps h) (no_place AnyNumber index depth own piece ps h s)
    (no_place (Word (codes "zero")) index depth own piece ps h s) (no_place (Word (codes "one")) index depth own piece ps h s)
    (no_place (Word (codes "two")) index depth own piece ps h s) (no_place (Word (codes "few")) index depth own piece ps h s)
    (no_place (Word (codes "many")) index depth own piece ps h s) (no_place (Word (codes "other")) index depth own piece ps h s)

-- nothing is ahead where the parts end
pub nothing_ahead : (index depth : ℕ) → ended_at index ≡ ahead_of index depth []
nothing_ahead index depth =
    same (ended_at index) (ahead_of index depth []) (omega arith) (omega arith) refl refl refl refl refl refl refl

selector_argument : (index depth own : ℕ) (p : Part) (ps : List Part) → is_selector p.piece ≡ true
    → index + 1 + argument_length depth ps ≡ index + argument_length depth (p ∷ ps)
selector_argument index depth own p ps s = here (nat_lt depth p.depth)
  where
    here : (b : Bool) → index + 1 + argument_length depth ps
        ≡ index + (if b || is_selector p.piece then argument_length depth ps + 1 else 0)
    here true = omega arith
    here false = rw s (omega arith)

-- a selector that is a number
number_word : (number word : List ℕ) (index depth own : ℕ) (ps : List Part) → nat_lt depth own ≡ false
    → behind (index + 1) (branch_place (Word word) depth ps)
    ≡ behind index (branch_place (Word word) depth (at own (Branch (Exactly number)) ∷ ps))
number_word number word index depth own ps h = rw h (behind_more index (branch_place (Word word) depth ps))

number_place : (number : List ℕ) (index depth own : ℕ) (ps : List Part) → nat_lt depth own ≡ false
    → index + 1 ≡ behind index (branch_place AnyNumber depth (at own (Branch (Exactly number)) ∷ ps))
number_place number index depth own ps h = rw h refl

exactly : (number : List ℕ) (index depth own : ℕ) (ps : List Part) → nat_lt depth own ≡ false
    → passed (Branch (Exactly number)) index (ahead_of (index + 1) depth ps) ≡ ahead_of index depth (at own (Branch (Exactly number)) ∷ ps)
exactly number index depth own ps h =
    let p = at own (Branch (Exactly number)) in
    same (passed (Branch (Exactly number)) index (ahead_of (index + 1) depth ps)) (ahead_of index depth (p ∷ ps))
    (selector_argument index depth own p ps refl) (ended_branch index depth own (Branch (Exactly number)) ps h)
    (number_place number index depth own ps h)
    (number_word number (codes "zero") index depth own ps h) (number_word number (codes "one") index depth own ps h)
    (number_word number (codes "two") index depth own ps h) (number_word number (codes "few") index depth own ps h)
    (number_word number (codes "many") index depth own ps h) (number_word number (codes "other") index depth own ps h)

-- a selector that is a keyword
word_place : (word sought : List ℕ) (index depth own : ℕ) (ps : List Part) → nat_lt depth own ≡ false
    → found_at word sought index (behind (index + 1) (branch_place (Word sought) depth ps))
    ≡ behind index (branch_place (Word sought) depth (at own (Branch (Keyword word)) ∷ ps))
word_place word sought index depth own ps h = rw h (here (bytes_eq word sought))
  where
    here : (b : Bool) → (if b then index + 1 else behind (index + 1) (branch_place (Word sought) depth ps))
        ≡ behind index (if b then 1 else one_more (branch_place (Word sought) depth ps))
    here true = refl
    here false = behind_more index (branch_place (Word sought) depth ps)

word_number : (word : List ℕ) (index depth own : ℕ) (ps : List Part) → nat_lt depth own ≡ false
    → behind (index + 1) (branch_place AnyNumber depth ps)
    ≡ behind index (branch_place AnyNumber depth (at own (Branch (Keyword word)) ∷ ps))
word_number word index depth own ps h = rw h (behind_more index (branch_place AnyNumber depth ps))

keyword : (word : List ℕ) (index depth own : ℕ) (ps : List Part) → nat_lt depth own ≡ false
    → passed (Branch (Keyword word)) index (ahead_of (index + 1) depth ps) ≡ ahead_of index depth (at own (Branch (Keyword word)) ∷ ps)
keyword word index depth own ps h =
    let p = at own (Branch (Keyword word)) in
    same (passed (Branch (Keyword word)) index (ahead_of (index + 1) depth ps)) (ahead_of index depth (p ∷ ps))
    (selector_argument index depth own p ps refl) (ended_branch index depth own (Branch (Keyword word)) ps h)
    (word_number word index depth own ps h)
    (word_place word (codes "zero") index depth own ps h) (word_place word (codes "one") index depth own ps h)
    (word_place word (codes "two") index depth own ps h) (word_place word (codes "few") index depth own ps h)
    (word_place word (codes "many") index depth own ps h) (word_place word (codes "other") index depth own ps h)

passed_piece : (piece : PatternPiece) (index depth own : ℕ) (ps : List Part) (a : Ahead) → nat_lt depth own ≡ false
    → (has_places piece ≡ true → a ≡ ahead_of (index + 1) depth ps) → passed piece index a ≡ ahead_of index depth (at own piece ∷ ps)
passed_piece (Text text) index depth own ps a h e = ended index depth own (Text text) ps h refl
passed_piece Hash index depth own ps a h e = ended index depth own Hash ps h refl
passed_piece (Argument name) index depth own ps a h e = ended index depth own (Argument name) ps h refl
passed_piece (Begin kind name offset) index depth own ps a h e = ended index depth own (Begin kind name offset) ps h refl
passed_piece (Branch (Exactly number)) index depth own ps a h e =
    ap (passed (Branch (Exactly number)) index) (e refl) ∙ exactly number index depth own ps h
passed_piece (Branch (Keyword word)) index depth own ps a h e =
    ap (passed (Branch (Keyword word)) index) (e refl) ∙ keyword word index depth own ps h
passed_piece End index depth own ps a h e = ended index depth own End ps h refl

pub passed_ahead : (p : Part) (index depth : ℕ) (ps : List Part) (a : Ahead) → nat_lt depth p.depth ≡ false
    → (has_places p.piece ≡ true → a ≡ ahead_of (index + 1) depth ps) → passed p.piece index a ≡ ahead_of index depth (p ∷ ps)
passed_ahead p index depth ps a h e = passed_piece p.piece index depth p.depth ps a h e

-- ---- the places of a part that these parts follow

cons8 : (a b c d e f g h i j k l m n o p : ℕ) → a ≡ i → b ≡ j → c ≡ k → d ≡ l → e ≡ m → f ≡ n → g ≡ o → h ≡ p
    → a ∷ b ∷ c ∷ d ∷ e ∷ f ∷ g ∷ h ∷ [] ≡ i ∷ j ∷ k ∷ l ∷ m ∷ n ∷ o ∷ p ∷ []
cons8 a b c d e f g h i j k l m n o p e0 e1 e2 e3 e4 e5 e6 e7 = cc

less : (start n : ℕ) → start + n - start ≡ n
less start n = omega arith

or_less : (start n m : ℕ) → or_place (behind start n - start) (behind start m - start) ≡ or_place n m
or_less start n m = ap (λ x. or_place x (behind start m - start)) (behind_less start n) ∙ ap (or_place n) (behind_less start m)

plural_there : (start depth : ℕ) (ps : List Part) → plural_ahead start (ahead_of start depth ps) ≡ argument_places Plural depth ps
plural_there start depth ps =
    let other = branch_place (Word (codes "other")) depth ps in
    cons8 _ _ _ _ _ _ _ _ _ _ _ _ _ _ _ _ (less start (argument_length depth ps)) (behind_less start (branch_place AnyNumber depth ps))
    (or_less start (branch_place (Word (codes "zero")) depth ps) other) (or_less start (branch_place (Word (codes "one")) depth ps) other)
    (or_less start (branch_place (Word (codes "two")) depth ps) other) (or_less start (branch_place (Word (codes "few")) depth ps) other)
    (or_less start (branch_place (Word (codes "many")) depth ps) other) (behind_less start other)

cons2 : (a b c d : ℕ) → a ≡ c → b ≡ d → a ∷ b ∷ [] ≡ c ∷ d ∷ []
cons2 a b c d e f = cc

piece_there : (piece : PatternPiece) (start depth : ℕ) (ps : List Part) (a : Ahead)
    → (has_places piece ≡ true → a ≡ ahead_of start depth ps) → places_ahead piece start a ≡ piece_places depth piece ps
piece_there (Text text) start depth ps a e = refl
piece_there Hash start depth ps a e = refl
piece_there (Argument name) start depth ps a e = refl
piece_there (Begin Plural name offset) start depth ps a e = ap (plural_ahead start) (e refl) ∙ plural_there start depth ps
piece_there (Begin Ordinal name offset) start depth ps a e = ap (plural_ahead start) (e refl) ∙ plural_there start depth ps
piece_there (Begin Select name offset) start depth ps a e =
    ap (places_ahead (Begin Select name offset) start) (e refl)
    ∙ cons2 _ _ _ _ (less start (argument_length depth ps)) (behind_less start (branch_place (Word (codes "other")) depth ps))
piece_there (Branch (Exactly number)) start depth ps a e =
    ap (places_ahead (Branch (Exactly number)) start) (e refl)
    ∙ cons2 _ _ _ _ (less start (branch_length depth ps)) (behind_less start (branch_place AnyNumber depth ps))
piece_there (Branch (Keyword word)) start depth ps a e =
    ap (places_ahead (Branch (Keyword word)) start) (e refl) ∙ ap (λ n. n ∷ []) (less start (branch_length depth ps))
piece_there End start depth ps a e = refl

pub places_there : (p : Part) (start : ℕ) (ps : List Part) (a : Ahead)
    → (has_places p.piece ≡ true → a ≡ ahead_of start p.depth ps) → flat_map two_bytes (places_ahead p.piece start a) ≡ place_bytes p ps
places_there p start ps a e = ap (flat_map two_bytes) (piece_there p.piece start p.depth ps a e)
