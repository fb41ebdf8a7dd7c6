-- What is found of an argument from its place on.
use Rattle.std.proofs.Common.{◌≡◌, ◌+◌, ◌≤◌, ◌<◌, ℕ, List, [], ◌∷◌, drop, length, refl, sym, ap, subst, arith, None, length-drop}
use Rattle.message_pattern.specs.PatternParts.{Part, Selector, branches_of}
use Rattle.message_format.specs.FormatBranches.{behind_end, branch_or_other}
use Rattle.message_format.specs.FormatParts.{branches_at, first_depth, AreLeftOf, IsFirstChosen}
use Rattle.packed_pattern.specs.PartPlaces.{PlacedPart, IsPlaced}
use Rattle.packed_format.proofs.BehindParts.{from_place}

-- ---- no part is there

module _ (ps : List Part) (none : ps ≡ []) where
  pub ended_word : (word : List ℕ) → ps ≡ branch_or_other word (branches_at ps)
  ended_word word = subst (λ (l : List Part). l ≡ branch_or_other word (branches_at l)) (sym none) refl

  pub ended_shorter : length ps ≤ length (drop 1 ps)
  ended_shorter = subst (λ (l : List Part). length l ≤ length (drop 1 l)) (sym none) (omega arith)

  pub ended_left : AreLeftOf ps ps
  ended_left = subst (λ (l : List Part). AreLeftOf l l) (sym none) (record { behind = refl; fewer = omega arith })

  pub ended_first : (P : Selector → Type 0) → IsFirstChosen P (branches_at ps) None
  ended_first P = subst (λ (l : List Part). IsFirstChosen P (branches_at l) None) (sym none) refl

-- ---- the part at a place, and others behind it

module _ (placed : PlacedPart) (ps : List Part) (index : ℕ) (h : IsPlaced placed ps index) where
  begun : drop index ps ≡ placed.part ∷ drop (index + 1) ps
  begun = from_place ps index placed.part h.part

  -- the branches behind the place are those of the argument that begins there
  pub branches_begun : branches_of placed.part.depth (drop (index + 1) ps) ≡ branches_at (drop index ps)
  branches_begun = sym (ap branches_at begun)

  pub shorter_begun : (at : ℕ) → index < at → length (drop at ps) ≤ length (drop 1 (drop index ps))
  shorter_begun at behind = omega (arith, length-drop at ps, length-drop index ps, length-drop 1 (drop index ps))

  pub left_begun : AreLeftOf (drop index ps) (drop (index + 1) ps)
  left_begun = record {
    behind = subst (λ (l : List Part). behind_end (first_depth l) (drop (index + 1) ps)
        ≡ behind_end (first_depth l) (drop 1 l)) (sym begun) refl;
    fewer = shorter_begun (index + 1) (omega arith);
  }
