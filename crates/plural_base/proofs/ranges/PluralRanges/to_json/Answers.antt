use Rattle.std.proofs.Common.{ap, ◌∙◌}
use Rattle.plural_base.specs.RangesJson.{object_under}
use Rattle.plural_base.specs.Inner.JsonSteps.{range_members}
use Rattle.serde_json.specs.Data.{object}
use Rattle.serde_json.proofs.Views.{view-Object}
use Rattle.plural_base.proofs.pairs.RangeMembers.{are_members}
use Rattle.plural_base.proofs.ranges.PluralRanges.to_json.Goals as goal

pub returns-clause-written : goal.returns-clause-written
returns-clause-written c = (
  range_members c.args.self.now,
  c.in_ok-under_ranges.ensures ∙ ap object_under (view-Object c.in_ok-members.members ∙ ap object c.in_ok-members.ensures),
  are_members c.args.self.now,
)
