-- The parts of a pattern, as a flat list with depths.
use Rattle.std.specs.Prelude.{ℕ, List, map, Option, Some, None, [], ◌∷◌, nat_lt, if◌then◌else◌}
use Rattle.std.specs.Borrow.{Bor}
use Rattle.message_pattern.specs.declared.part.ArgumentKind.{ArgumentKind}
use Rattle.message_pattern.specs.declared.part.Part as parts
use Rattle.message_pattern.specs.declared.part.Piece as pieces
use Rattle.message_pattern.specs.declared.part.Piece.TheVariants as piece
use Rattle.message_pattern.specs.declared.part.Selector as selectors
use Rattle.message_pattern.specs.declared.part.Selector.TheVariants as selector

-- what a branch is for: a number, as it is written, or a keyword
pub data Selector : Type 0 where
  Exactly : List ℕ → Selector
  Keyword : List ℕ → Selector

-- a piece of a pattern, its texts as bytes
pub data PatternPiece : Type 0 where
  -- text that stands for itself
  Text : List ℕ → PatternPiece
  -- `#`: the number less the offset
  Hash : PatternPiece
  -- `{name}`; where simple formats are read, all that stands between the braces
  Argument : List ℕ → PatternPiece
  -- the beginning of an argument that chooses: its kind, its name, and the digits of its offset
  Begin : ArgumentKind → List ℕ → Option (List ℕ) → PatternPiece
  -- the selector of a branch, whose parts follow it one level deeper
  Branch : Selector → PatternPiece
  -- the end of an argument that chooses
  End : PatternPiece

-- a piece at a depth
pub record Part : Type 0 where
  pub depth : ℕ
  pub piece : PatternPiece

-- ---- the same of the types of the code

abbrev pub selector_view : selectors.Selector → Selector
selector_view (selector.Exactly number) = Exactly number.now
selector_view (selector.Keyword word) = Keyword word.now

-- the digits of an offset, or none
abbrev pub offset_view : Option (Bor (List ℕ)) → Option (List ℕ)
offset_view None = None
offset_view (Some digits) = Some digits.now

abbrev pub piece_view : pieces.Piece → PatternPiece
piece_view (piece.Text text) = Text text.now
piece_view piece.Hash = Hash
piece_view (piece.Argument name) = Argument name.now
piece_view (piece.Begin kind name offset) = Begin kind name.now (offset_view offset)
piece_view (piece.Branch s) = Branch (selector_view s)
piece_view piece.End = End

abbrev pub part_view : parts.Part → Part
part_view p = record { depth = p.depth; piece = piece_view p.piece }

abbrev pub parts_view : List parts.Part → List Part
parts_view ps = map part_view ps

-- ---- The branches of an argument that chooses

-- a selector, and the parts from its branch on
pub record Branching : Type 0 where
  pub selector : Selector
  pub parts : List Part

-- The branches of an argument at a depth, of which these parts follow its beginning: their
-- selectors have its depth, and what is deeper is in a branch.
abbrev pub branches_of : ℕ → List Part → List Branching
branches_of depth [] = []
branches_of depth (p ∷ ps) =
    if nat_lt depth p.depth then branches_of depth ps
    else elim p.piece as (λ _. List Branching) [
      | Branch selector ↦ record { selector = selector; parts = ps } ∷ branches_of depth ps
      | _ ↦ []
    ]
