use Rattle.std.proofs.Common.{◌≡◌}
use Rattle.serde_json.specs.View.{members_view}
use Rattle.translation_files.specs.MessageDocuments.{is_message_part, some_member}
use Rattle.translation_files.proofs.json_file.document_shape.some_part.Given as goal

-- one of the members that are left is a part, if one is
abbrev pub invariant-loop-key : goal.invariant-loop-key
invariant-loop-key l =
    some_member (is_message_part l.named) (members_view l.parts.entries) ≡ some_member (is_message_part l.named) (members_view l.key-iterator)
