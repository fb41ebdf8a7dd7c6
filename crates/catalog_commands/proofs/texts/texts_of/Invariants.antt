use Rattle.std.proofs.Common.{map}
use Rattle.catalog_commands.specs.Inner.KeyedViews.{keyed_view}
use Rattle.catalog_commands.proofs.PatternTexts.{Completes}
use Rattle.catalog_commands.proofs.texts.texts_of.Given as goal
use Rattle.serde_json.specs.View.{members_view}

-- the texts of the remaining members complete those so far
abbrev pub invariant-loop-key : goal.invariant-loop-key
invariant-loop-key l = Completes (members_view l.key-iterator) (members_view l.members.entries) (map keyed_view l.texts.items)
