use Rattle.std.proofs.Common.{ap, ◌∙◌}
use Rattle.catalog_commands.specs.LocaleMessages.{has_members}
use Rattle.catalog_commands.proofs.LocaleParts.{members_if}
use Rattle.catalog_commands.proofs.locales.has_members.Goals as goal

pub returns-in-Some : goal.returns-in-Some
returns-in-Some c = members_if c.in-Some.members.now.entries c.is_empty.result c.is_empty.ensures ∙ ap has_members c.in-Some.ensures
