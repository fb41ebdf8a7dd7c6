use Rattle.std.proofs.Common.{◌≡◌, length}
use Rattle.packed_format.specs.PlacedArguments.{names_view}
use Rattle.packed_format.specs.Inner.FoundNames.{is_name_among}
use Rattle.packed_format.proofs.by_place.has_name.Given as goal

-- it isn't among those that were passed
abbrev pub invariant-names : goal.invariant-names
invariant-names l = is_name_among l.name (names_view l.left) ≡ is_name_among l.name (names_view l.names)

abbrev pub decreases-names : goal.decreases-names
decreases-names l = length l.left
