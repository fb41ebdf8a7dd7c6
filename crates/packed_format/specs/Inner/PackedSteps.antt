-- Steps from a part of a block to what stands behind it.
use Rattle.std.specs.Prelude.{◌≡◌, ◌+◌, ◌<◌, ◌≤◌, ℕ, List, [], ◌∷◌, drop, nat_eq, Bool, true, if◌then◌else◌, Option, Some, None}
use Rattle.message_pattern.specs.PatternParts.{Part, PatternPiece, Branch, Exactly, Keyword, Branching, branches_of}
use Rattle.packed_pattern.specs.Inner.PartReading.{is_plural}

-- the branches by a number
abbrev pub numbers_of : List Branching → List Branching
numbers_of [] = []
numbers_of (b ∷ bs) = elim b.selector as (λ _. List Branching) [
  | Exactly number ↦ b ∷ numbers_of bs
  | Keyword word ↦ numbers_of bs
]

-- those at a depth, from a place on
abbrev pub numbers_from : ℕ → List Part → ℕ → List Branching
numbers_from depth parts at = numbers_of (branches_of depth (drop at parts))

-- From this place on the branches by a number are the same as from behind the part at another place,
-- or there are none.
abbrev pub AreNext : ℕ → List Part → ℕ → Option ℕ → Type 0
AreNext depth parts index None = numbers_from depth parts (index + 1) ≡ []
AreNext depth parts index (Some at) =
    (index < at) × (at ≤ index + 65536) × (numbers_from depth parts at ≡ numbers_from depth parts (index + 1))

-- a part has the place of the first branch by a number, or of the next
abbrev pub has_next_number : PatternPiece → Bool
has_next_number (Branch (Exactly number)) = true
has_next_number piece = is_plural piece

-- the parts from a place on, and none if it is 0
abbrev pub parts_behind : ℕ → List Part → List Part
parts_behind place ps = if nat_eq place 0 then [] else drop place ps
