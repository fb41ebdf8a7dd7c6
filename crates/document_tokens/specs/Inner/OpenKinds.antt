-- Not a definition of the subject: what is open at a place of a JSON text, the innermost first.
use Rattle.std.specs.Prelude.{ℕ, zero, suc, ◌/◌, ◌%◌, ◌==◌, List, [], ◌∷◌, Bool, true, false, not, Option, Some, None}

-- as many bits, the lowest first: an object is true
abbrev pub open_of : ℕ → ℕ → List Bool
open_of zero objects = []
open_of (suc count) objects = (objects % 2 == 1) ∷ open_of count (objects / 2)

abbrev pub innermost : List Bool → Option Bool
innermost [] = None
innermost (first ∷ opened) = Some first

-- the innermost is an object, if this is true, or an array
abbrev pub is_innermost_kind : Bool → List Bool → Bool
is_innermost_kind is_object [] = false
is_innermost_kind true (first ∷ opened) = first
is_innermost_kind false (first ∷ opened) = not first
