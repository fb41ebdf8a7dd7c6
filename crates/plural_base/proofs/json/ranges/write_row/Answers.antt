use Rattle.std.proofs.Common.{get_or, ap, ◌∙◌}
use Rattle.plural_base.specs.declared.category.raw.RawPluralCategory.TheVariants.{Other}
use Rattle.plural_base.specs.Categories.{all_raw_categories}
use Rattle.plural_base.specs.Inner.JsonSteps.{put_range}
use Rattle.plural_base.specs.Ranges.{category_at}
use Rattle.serde_json.specs.View.{members_view}
use Rattle.plural_base.proofs.pairs.RangesWritten.{next_fold}
use Rattle.plural_base.proofs.json.ranges.write_row.Goals as goal

pub loop-end-preserved : goal.loop-end-preserved
loop-end-preserved c =
    let start = c.args.start in
    let end = get_or all_raw_categories c.loop-end.end-index Other in
    let before = members_view c.loop-end.members.entries in
    next_fold (λ ms e. put_range start e ms (category_at c.args.ranges.now start e)) all_raw_categories c.loop-end.end-index Other before
    (members_view c.write_range.new.members.entries)
    c.loop-end-test.true (c.in_ok-write_range.ensures ∙ ap (put_range start end before) c.get.ensures)
    ∙ c.loop-end.invariant
