use Rattle.std.proofs.Common.{◌≡◌}
use Rattle.serde_json.specs.View.{members_view}
use Rattle.translation_files.specs.MessageDocuments.{have_forms}
use Rattle.translation_files.proofs.json_file.document_shape.have_forms.Given as goal

-- one of the messages that are left has forms, if one has
abbrev pub invariant-loop-message : goal.invariant-loop-message
invariant-loop-message l = have_forms (members_view l.messages.entries) ≡ have_forms (members_view l.message-iterator)
