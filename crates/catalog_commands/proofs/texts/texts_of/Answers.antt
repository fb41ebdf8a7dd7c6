use Rattle.std.proofs.Common.{map, subst}
use Rattle.catalog_commands.specs.Inner.KeyedViews.{keyed_view}
use Rattle.catalog_commands.proofs.PatternTexts.{Completes, ends}
use Rattle.catalog_commands.proofs.texts.texts_of.Goals as goal
use Rattle.serde_json.specs.View.{members_view}

pub returns-clause-texts : goal.returns-clause-texts
returns-clause-texts c =
    let all = members_view c.args.members.now.entries in
    let found = map keyed_view c.loop-key.texts.items in
    ends all found (subst (λ es. Completes (members_view es) all found) c.in-None.ensures.steps.0 c.loop-key.invariant)
