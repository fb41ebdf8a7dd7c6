use Rattle.form_commands.proofs.note.push_if.Goals as goal

pub returns-then-asked : goal.returns-then-asked
returns-then-asked c = rw c.if-asked.true c.push_note.ensures
