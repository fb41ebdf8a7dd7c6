use Rattle.std.proofs.Common.{◌≡◌}
use Rattle.plural_base.specs.RangesJson.{members_meant}
use Rattle.plural_base.specs.Ranges.{no_ranges}
use Rattle.serde_json.specs.View.{members_view}
use Rattle.plural_base.proofs.json.ranges.read_members.Given as goal

-- the ranges so far, followed by the ranges of the remaining members
abbrev pub invariant-loop-key : goal.invariant-loop-key
invariant-loop-key l =
    members_meant no_ranges (members_view l.members.entries) ≡ members_meant l.ranges (members_view l.key-iterator)
