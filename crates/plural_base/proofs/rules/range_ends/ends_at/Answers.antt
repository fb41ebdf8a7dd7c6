use Rattle.std.proofs.Common.{◌∙◌}
use Rattle.plural_runtime.specs.Inner.RuleViews.{lent_relation}
use Rattle.plural_base.proofs.integers.Lists.{range_at}
use Rattle.plural_base.proofs.rules.range_ends.ends_at.Goals as goal

pub returns : goal.returns
returns c =
    let ranges = (lent_relation c.args.relation.now).meaning.ranges in
    c.ends_of.ensures ∙ range_at ranges c.args.place c.in-Some.range (0, 0) c.in-Some.ensures
