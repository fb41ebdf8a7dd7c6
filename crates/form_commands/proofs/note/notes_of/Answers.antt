use Rattle.std.proofs.Common.{string_bytes}
use Rattle.serde_json.specs.View.{view}
use Rattle.form_commands.specs.KeyNotes.{AreFileNotes}
use Rattle.form_commands.proofs.NoteLemmas.{from_nothing}
use Rattle.form_commands.proofs.note.notes_of.Goals as goal

pub returns : goal.returns
returns c =
    from_nothing (AreFileNotes (view c.args.document.now) c.args.files.now) (string_bytes c.new-notes.result)
    (string_bytes c.push_files.new.notes) c.new-notes.ensures.bytes c.in_ok-push_files.ensures
