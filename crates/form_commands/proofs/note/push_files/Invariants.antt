use Rattle.std.proofs.Common.{drop, string_bytes}
use Rattle.serde_json.specs.View.{view}
use Rattle.form_commands.proofs.NoteLemmas.{FilesLeft}
use Rattle.form_commands.proofs.note.push_files.Given as goal

-- the notes of the remaining files complete those so far
abbrev pub invariant-loop-file : goal.invariant-loop-file
invariant-loop-file l =
    FilesLeft (view l.document) (drop l.file-index l.files) l.files (string_bytes l.notes) (string_bytes l.initial.notes)
