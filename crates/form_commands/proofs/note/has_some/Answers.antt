use Rattle.std.proofs.Common.{ap, ◌∙◌}
use Rattle.form_commands.specs.KeyNotes.{has_any_member}
use Rattle.form_commands.proofs.NoteLemmas.{some_there}
use Rattle.form_commands.proofs.note.has_some.Goals as goal

pub returns-in-Some : goal.returns-in-Some
returns-in-Some c =
    some_there c.in-Some.members.now.entries c.is_empty.result c.is_empty.ensures.1 c.is_empty.ensures.0
    ∙ ap has_any_member c.in-Some.ensures
