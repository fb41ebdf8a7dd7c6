use Rattle.std.proofs.Common.{refl, ◌∙◌}
use Rattle.plural_base.specs.declared.category.raw.RawPluralCategory.TheVariants.{Other}
use Rattle.plural_base.specs.Categories.{all_raw_categories}
use Rattle.plural_base.specs.Inner.JsonSteps.{put_row}
use Rattle.serde_json.specs.View.{members_view}
use Rattle.plural_base.proofs.pairs.RangesWritten.{next_fold}
use Rattle.plural_base.proofs.json.ranges.write_members.Goals as goal

pub loop-start-init : goal.loop-start-init
loop-start-init c = rw c.new-members.ensures.empty refl

pub loop-start-preserved : goal.loop-start-preserved
loop-start-preserved c =
    next_fold (put_row c.args.ranges.now) all_raw_categories c.loop-start.start-index Other (members_view c.loop-start.members.entries)
    (members_view c.write_row.new.members.entries)
    c.loop-start-test.true c.in_ok-write_row.ensures
    ∙ c.loop-start.invariant
