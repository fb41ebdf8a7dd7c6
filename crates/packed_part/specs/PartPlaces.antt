-- Where an argument ends, and where its branches are, counted in parts from the part on that says so.
use Rattle.std.specs.Prelude.{◌≡◌, ℕ, ◌+◌, List, [], ◌∷◌, Bool, true, false, ◌||◌, nat_lt, nat_eq, bytes_eq, slice_get, drop, Some, codes, if◌then◌else◌}
use Rattle.message_pattern.specs.declared.part.ArgumentKind.{ArgumentKind}
use Rattle.message_pattern.specs.declared.part.ArgumentKind.TheVariants.{Select}
use Rattle.message_pattern.specs.PatternParts.{Part, PatternPiece, Selector, Exactly, Keyword, Begin, Branch}
use Rattle.packed_part.specs.PartOrder.{is_selector}

-- ---- where branches and arguments end

-- how many parts at the front are in a branch at a depth: they are deeper
abbrev pub branch_length : ℕ → List Part → ℕ
branch_length depth [] = 0
branch_length depth (p ∷ ps) = if nat_lt depth p.depth then branch_length depth ps + 1 else 0

-- how many parts stand before the end of an argument at a depth: its selectors, and what is deeper
abbrev pub argument_length : ℕ → List Part → ℕ
argument_length depth [] = 0
argument_length depth (p ∷ ps) = if nat_lt depth p.depth || is_selector p.piece then argument_length depth ps + 1 else 0

-- ---- where branches begin

-- a branch that is sought: the next one by a number, or that of a keyword
pub data Sought : Type 0 where
  AnyNumber : Sought
  Word : List ℕ → Sought

abbrev pub is_sought_branch : Sought → PatternPiece → Bool
is_sought_branch AnyNumber (Branch (Exactly number)) = true
is_sought_branch (Word word) (Branch (Keyword other)) = bytes_eq other word
is_sought_branch _ _ = false

-- one part more, if there is a place
abbrev pub one_more : ℕ → ℕ
one_more place = if nat_eq place 0 then 0 else place + 1

-- The place of the first branch at a depth that is sought: of these parts, how many stand before those
-- of the branch; its selector is the last of them. It is 0 if there is none.
abbrev pub branch_place : Sought → ℕ → List Part → ℕ
branch_place sought depth [] = 0
branch_place sought depth (p ∷ ps) =
    if nat_lt depth p.depth then one_more (branch_place sought depth ps)
    else if is_sought_branch sought p.piece then 1
    else if is_selector p.piece then one_more (branch_place sought depth ps)
    else 0

-- a place, or another one if there is none
abbrev pub or_place : ℕ → ℕ → ℕ
or_place place other = if nat_eq place 0 then other else place

-- the place of the branch of a keyword, or of `other` if there is none
abbrev pub place_or_other : List ℕ → ℕ → List Part → ℕ
place_or_other word depth rest = or_place (branch_place (Word word) depth rest) (branch_place (Word (codes "other")) depth rest)

-- ---- the places that a part has, which these parts follow

-- of an argument: how many parts stand before its end; of a plural the first branch by a number, and
-- the branch of each category; of a select the branch `other`
abbrev pub argument_places : ArgumentKind → ℕ → List Part → List ℕ
argument_places Select depth rest = argument_length depth rest ∷ branch_place (Word (codes "other")) depth rest ∷ []
argument_places _ depth rest =
    argument_length depth rest ∷ branch_place AnyNumber depth rest
    ∷ place_or_other (codes "zero") depth rest ∷ place_or_other (codes "one") depth rest
    ∷ place_or_other (codes "two") depth rest ∷ place_or_other (codes "few") depth rest
    ∷ place_or_other (codes "many") depth rest ∷ branch_place (Word (codes "other")) depth rest ∷ []

-- of a selector: how many parts its branch has; and by a number, the next branch by a number
abbrev pub selector_places : Selector → ℕ → List Part → List ℕ
selector_places (Exactly number) depth rest = branch_length depth rest ∷ branch_place AnyNumber depth rest ∷ []
selector_places (Keyword word) depth rest = branch_length depth rest ∷ []

abbrev pub piece_places : ℕ → PatternPiece → List Part → List ℕ
piece_places depth (Begin kind name offset) rest = argument_places kind depth rest
piece_places depth (Branch selector) rest = selector_places selector depth rest
piece_places depth _ rest = []

-- a part, with its places
pub record PlacedPart : Type 0 where
  pub part : Part
  pub places : List ℕ

-- the part at a place of a list of parts, with its places
pub record IsPlaced (placed : PlacedPart) (parts : List Part) (index : ℕ) : Type 0 where
  pub part : slice_get parts index ≡ Some placed.part
  pub places : placed.places ≡ piece_places placed.part.depth placed.part.piece (drop (index + 1) parts)
