-- Values at places, as contracts see them; and names that are found one after another.
use Rattle.std.specs.Prelude.{ℕ, List, [], ◌∷◌, ◌++◌, Bool, true, false, bytes_eq, if◌then◌else◌}
use Rattle.message_format.specs.FormatArguments.{Argument}
use Rattle.packed_format.specs.declared.by_place.PlacedValues.{PlacedValues}
use Rattle.packed_format.specs.PlacedArguments.{at_places, names_view, values_view}

-- the arguments that have these names and values
abbrev pub placed_arguments : PlacedValues → List Argument
placed_arguments p = at_places (names_view p.names.now) (values_view p.values.now)

-- a name is among others
abbrev pub is_name_among : List ℕ → List (List ℕ) → Bool
is_name_among name [] = false
is_name_among name (n ∷ ns) = if bytes_eq n name then true else is_name_among name ns

-- with a name behind them that isn't among them
abbrev pub with_name : List (List ℕ) → List ℕ → List (List ℕ)
with_name found name = if is_name_among name found then found else found ++ name ∷ []

-- with several
abbrev pub with_names : List (List ℕ) → List (List ℕ) → List (List ℕ)
with_names found [] = found
with_names found (n ∷ ns) = with_names (with_name found n) ns
