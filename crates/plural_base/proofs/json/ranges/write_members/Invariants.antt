use Rattle.std.proofs.Common.{◌≡◌, drop, fold}
use Rattle.plural_base.specs.Categories.{all_raw_categories}
use Rattle.plural_base.specs.Inner.JsonSteps.{put_row, range_members}
use Rattle.serde_json.specs.View.{members_view}
use Rattle.plural_base.proofs.json.ranges.write_members.Given as goal

-- the remaining rows are put after those so far
abbrev pub invariant-loop-start : goal.invariant-loop-start
invariant-loop-start l =
    fold (put_row l.ranges) (members_view l.members.entries) (drop l.start-index all_raw_categories) ≡ range_members l.ranges
