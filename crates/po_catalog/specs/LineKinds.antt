-- The kinds of lines of a catalog: empty, a comment, or keywords and texts.
use Rattle.std.specs.Prelude.{ℕ, ◌==◌, ◌||◌, Bool, true, false, List, [], ◌∷◌, if◌then◌else◌}
use Rattle.po_catalog.specs.PoBytes.{is_white, behind_catalog_run}

pub data PoLine : Type 0 where
  Empty : PoLine
  -- what stands behind the `#` of a comment, and the flags in it
  Comment : List ℕ → List ℕ → PoLine
  -- whether the line is obsolete, and what stands in it
  Fields : Bool → List ℕ → PoLine

-- behind `#~`: a previous id, or an obsolete line
abbrev pub obsolete_line : List ℕ → List ℕ → PoLine
obsolete_line comment [] = Fields true []
obsolete_line comment (b ∷ s) = if b == 124 then Comment comment [] else Fields true (b ∷ s)

-- behind `#`: flags stand behind `,` and `=`
abbrev pub hash_line : List ℕ → PoLine
hash_line [] = Comment [] []
hash_line (b ∷ s) = if b == 126 then obsolete_line (b ∷ s) s else (if b == 44 || b == 61 then Comment (b ∷ s) s else Comment (b ∷ s) [])

abbrev pub line_at : List ℕ → PoLine
line_at [] = Empty
line_at (b ∷ s) = if b == 35 then hash_line s else Fields false (b ∷ s)

-- behind white space
abbrev pub line_of : List ℕ → PoLine
line_of line = line_at (behind_catalog_run is_white line)
