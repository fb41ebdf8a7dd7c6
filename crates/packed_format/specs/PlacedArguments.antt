-- Arguments by place: the names that a pattern uses, and values at the places of these names.
use Rattle.std.specs.Prelude.{ℕ, List, [], ◌∷◌, map, flat_map, bytes_eq, if◌then◌else◌}
use Rattle.std.specs.Borrow.{Bor}
use Rattle.message_pattern.specs.PatternParts.{Part, PatternPiece, Argument, Begin}
use Rattle.message_format.specs.declared.arguments.Value as values
use Rattle.message_format.specs.FormatArguments as arguments
use Rattle.message_format.specs.FormatArguments.{Value, value_view}

-- the name that a piece uses
abbrev pub names_in : PatternPiece → List (List ℕ)
names_in (Argument name) = name ∷ []
names_in (Begin kind name offset) = name ∷ []
names_in _ = []

-- the names that parts use, in their order
abbrev pub used_in : List Part → List (List ℕ)
used_in ps = flat_map (λ p. names_in p.piece) ps

-- the other names
abbrev pub without : List ℕ → List (List ℕ) → List (List ℕ)
without name [] = []
without name (n ∷ ns) = if bytes_eq n name then without name ns else n ∷ without name ns

-- each name once, where it is first
abbrev pub once : List (List ℕ) → List (List ℕ)
once [] = []
once (n ∷ ns) = n ∷ without n (once ns)

-- the names of a pattern's arguments, each once, in the order in which they are first used
abbrev pub names_of : List Part → List (List ℕ)
names_of ps = once (used_in ps)

-- the values under the names at their places
abbrev pub at_places : List (List ℕ) → List Value → List arguments.Argument
at_places [] vs = []
at_places (n ∷ ns) [] = []
at_places (n ∷ ns) (v ∷ vs) = record { name = n; value = v } ∷ at_places ns vs

-- ---- the same of the types of the code

abbrev pub names_view : List (Bor (List ℕ)) → List (List ℕ)
names_view names = map (λ n. n.now) names

abbrev pub values_view : List values.Value → List Value
values_view values = map value_view values
