use Rattle.std.proofs.Common.{◌≡◌, [], drop, length}
use Rattle.packed_format.specs.PlacedArguments.{names_view, used_in}
use Rattle.packed_format.specs.Inner.FoundNames.{with_names}
use Rattle.packed_format.proofs.by_place.argument_names.Given as goal

-- with the names of the parts that are left, those that were found are all
abbrev pub invariant-loop-part : goal.invariant-loop-part
invariant-loop-part l = with_names (names_view l.names.items) (used_in (drop l.left.next l.left.pattern.now))
    ≡ with_names [] (used_in l.pattern)

abbrev pub decreases-loop-part : goal.decreases-loop-part
decreases-loop-part l = length (drop l.left.next l.left.pattern.now)
