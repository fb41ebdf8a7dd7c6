use Rattle.std.proofs.Common.{◌≡◌, drop, fold}
use Rattle.plural_base.specs.Categories.{all_raw_categories}
use Rattle.plural_base.specs.Inner.JsonSteps.{put_range, put_row}
use Rattle.plural_base.specs.Ranges.{category_at}
use Rattle.serde_json.specs.View.{members_view}
use Rattle.plural_base.proofs.json.ranges.write_row.Given as goal

-- the remaining ends are put after those so far
abbrev pub invariant-loop-end : goal.invariant-loop-end
invariant-loop-end l =
    fold (λ ms end. put_range l.start end ms (category_at l.ranges l.start end)) (members_view l.members.entries)
    (drop l.end-index all_raw_categories)
    ≡ put_row l.ranges (members_view l.fn.members.entries) l.start
