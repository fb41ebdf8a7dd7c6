use Rattle.std.proofs.Common.{◌≡◌}
use Rattle.serde_json.specs.View.{members_view}
use Rattle.translation_files.specs.MessageDocuments.{is_other_member, some_member}
use Rattle.translation_files.proofs.json_file.document_shape.have_other.Given as goal

-- one of the members that are left is no part, if one is
abbrev pub invariant-loop-key : goal.invariant-loop-key
invariant-loop-key l = some_member is_other_member (members_view l.parts.entries) ≡ some_member is_other_member (members_view l.key-iterator)
