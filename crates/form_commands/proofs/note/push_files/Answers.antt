use Rattle.std.proofs.Common.{drop, string_bytes, subst}
use Rattle.std.proofs.lemmas.List.{drop_all}
use Rattle.message_report.specs.declared.file.MessageFile.{MessageFile}
use Rattle.serde_json.specs.View.{view}
use Rattle.form_commands.specs.Inner.ConditionSteps.{Grows}
use Rattle.form_commands.specs.KeyNotes.{IsFileNote}
use Rattle.form_commands.proofs.NoteLemmas.{files_begin, files_end, files_go_on}
use Rattle.form_commands.proofs.note.push_files.Goals as goal

pub loop-file-init : goal.loop-file-init
loop-file-init c = files_begin (view c.args.document.now) c.args.files.now (string_bytes c.args.notes.now)

pub loop-file-preserved : goal.loop-file-preserved
loop-file-preserved c =
    let document = view c.args.document.now in
    files_go_on document c.args.files.now (string_bytes c.args.notes.now) c.loop-file.file-index c.file-item.result
    (string_bytes c.loop-file.notes) (string_bytes c.push_file.new.notes) c.loop-file-test.true c.loop-file.invariant
    (subst (λ (file : MessageFile). Grows (IsFileNote document file) (string_bytes c.loop-file.notes) (string_bytes c.push_file.new.notes))
    c.file-item.is c.in_ok-push_file.ensures)

pub returns : goal.returns
returns c =
    files_end (view c.args.document.now) c.args.files.now (drop c.loop-file.file-index c.args.files.now) (string_bytes c.args.notes.now)
    (string_bytes c.loop-file.notes) (drop_all c.loop-file.file-index c.args.files.now c.loop-file-test.false) c.loop-file.invariant
