-- Steps of a walk over the branches of an argument.
use Rattle.std.proofs.Common.{◌≡◌, ◌∙◌, ◌+◌, ◌≤◌, ◌<◌, ℕ, List, [], ◌∷◌, drop, Bor, refl, sym, ap, arith, nat_lt, true, false}
use Rattle.std.proofs.lemmas.Bool.Decides.{nat_tests}
use Rattle.message_pattern.specs.declared.part.Selector as selectors
use Rattle.message_pattern.specs.declared.part.Selector.TheVariants as selector
use Rattle.message_pattern.specs.PatternParts.{Part, PatternPiece, Selector, Text, Hash, Argument, Begin, Branch, End, selector_view}
use Rattle.message_pattern.specs.PatternParts.{branches_of}
use Rattle.message_format.specs.FormatBranches.{is_keyword}
use Rattle.packed_pattern.specs.PartPlaces.{PlacedPart, IsPlaced}
use Rattle.packed_format.proofs.BehindParts.{from_place}

-- the part at a place, its depth, and those behind it
module _ (placed : PlacedPart) (ps : List Part) (at : ℕ) (h : IsPlaced placed ps at) (d : ℕ) (is : d ≡ placed.part.depth) where
  begun : drop at ps ≡ placed.part ∷ drop (at + 1) ps
  begun = from_place ps at placed.part h.part

  -- what is deeper is in a branch
  pub deeper_there : (depth : ℕ) → depth < d → branches_of depth (drop at ps) ≡ branches_of depth (drop (at + 1) ps)
  deeper_there depth deeper =
      let t : nat_lt depth placed.part.depth ≡ true = grind (arith, nat_tests, sym is) in
      ap (branches_of depth) begun ∙ rw t refl

  -- a selector is that of a branch
  pub selector_there : (depth : ℕ) (s : Selector) → d ≤ depth → placed.part.piece ≡ Branch s
      → branches_of depth (drop at ps) ≡ record { selector = s; parts = drop (at + 1) ps } ∷ branches_of depth (drop (at + 1) ps)
  selector_there depth s within e =
      let f : nat_lt depth placed.part.depth ≡ false = grind (arith, nat_tests, sym is) in
      ap (branches_of depth) begun ∙ rw (f, e) refl

  -- there is no branch behind another piece
  pub none_there : (depth : ℕ) → d ≤ depth → ((s : Selector) → placed.part.piece ≡ Branch s → ⊥)
      → branches_of depth (drop at ps) ≡ []
  none_there depth within never =
      let f : nat_lt depth placed.part.depth ≡ false = grind (arith, nat_tests, sym is) in
      ap (branches_of depth) begun ∙ other f placed.part.piece refl never
    where
      other : nat_lt depth placed.part.depth ≡ false → (q : PatternPiece) → placed.part.piece ≡ q
          → ((s : Selector) → placed.part.piece ≡ Branch s → ⊥) → branches_of depth (placed.part ∷ drop (at + 1) ps) ≡ []
      other f (Text text) e never = rw (f, e) refl
      other f Hash e never = rw (f, e) refl
      other f (Argument name) e never = rw (f, e) refl
      other f (Begin kind name offset) e never = rw (f, e) refl
      other f (Branch s) e never = absurd (never s e)
      other f End e never = rw (f, e) refl

-- another selector isn't a keyword
pub no_keyword : (word : List ℕ) (s : selectors.Selector) → ((other : Bor (List ℕ)) → s ≡ selector.Keyword other → ⊥)
    → is_keyword word (selector_view s) ≡ false
no_keyword word (selector.Exactly number) never = refl
no_keyword word (selector.Keyword other) never = absurd (never other refl)
