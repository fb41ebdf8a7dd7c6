-- What is found of an argument in the parts from its beginning on.
use Rattle.std.specs.Prelude.{◌≡◌, ◌≤◌, ◌⊎◌, ℕ, List, [], ◌∷◌, drop, length, Option, Some, None}
use Rattle.message_pattern.specs.PatternParts.{Part, PatternPiece, Begin, Selector, Branching, branches_of}
use Rattle.message_format.specs.FormatBranches.{behind_end}

-- the depth of the first part
abbrev pub first_depth : List Part → ℕ
first_depth [] = 0
first_depth (p ∷ ps) = p.depth

-- the branches of the argument that the first part begins
abbrev pub branches_at : List Part → List Branching
branches_at ps = branches_of (first_depth ps) (drop 1 ps)

-- an argument that chooses begins
abbrev pub BeginsChoice : PatternPiece → Type 0
BeginsChoice (Begin kind name offset) = Unit {0}
BeginsChoice _ = ⊥

-- the first part begins one
abbrev pub BeginWithChoice : List Part → Type 0
BeginWithChoice [] = ⊥
BeginWithChoice (p ∷ ps) = BeginsChoice p.piece

-- Parts that are left of such an argument: behind its end stand the same as from its beginning on.
-- They are no more than those behind the beginning.
pub record AreLeftOf (ps left : List Part) : Type 0 where
  pub behind : behind_end (first_depth ps) left ≡ behind_end (first_depth ps) (drop 1 ps)
  pub fewer : length left ≤ length (drop 1 ps)

-- the parts from a branch on, if there is one, are no more than those either
abbrev pub AreWithin : List Part → Option (List Part) → Type 0
AreWithin ps None = Unit {0}
AreWithin ps (Some branch) = length branch ≤ length (drop 1 ps)

-- the first branch whose selector is chosen, or none
abbrev pub IsFirstChosen : (Selector → Type 0) → List Branching → Option (List Part) → Type 0
IsFirstChosen IsChosen [] parts = parts ≡ None
IsFirstChosen IsChosen (b ∷ bs) parts = (IsChosen b.selector × (parts ≡ Some b.parts)) ⊎ ((IsChosen b.selector → ⊥) × IsFirstChosen IsChosen bs parts)
