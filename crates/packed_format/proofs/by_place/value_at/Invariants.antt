use Rattle.std.proofs.Common.{◌≡◌, length}
use Rattle.message_format.specs.FormatArguments.{value_named}
use Rattle.packed_format.specs.PlacedArguments.{at_places, names_view, values_view}
use Rattle.packed_format.proofs.by_place.value_at.Given as goal

-- the value is that among those that are left
abbrev pub invariant-names : goal.invariant-names
invariant-names l = value_named l.name (at_places (names_view l.left) (values_view l.others))
    ≡ value_named l.name (at_places (names_view l.names) (values_view l.values))

abbrev pub decreases-names : goal.decreases-names
decreases-names l = length l.left
