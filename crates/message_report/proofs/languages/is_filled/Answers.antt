use Rattle.std.proofs.Common.{ap, ◌∙◌}
use Rattle.message_report.specs.Inner.NeededRules.{is_filled}
use Rattle.message_report.proofs.PartLemmas.{filled_if}
use Rattle.message_report.proofs.languages.is_filled.Goals as goal

pub returns-in-Some : goal.returns-in-Some
returns-in-Some c = filled_if c.in-Some.members.now.entries c.is_empty.result c.is_empty.ensures ∙ ap is_filled c.in-Some.ensures
