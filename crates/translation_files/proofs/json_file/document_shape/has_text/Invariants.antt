use Rattle.std.proofs.Common.{◌≡◌}
use Rattle.serde_json.specs.View.{members_view}
use Rattle.translation_files.specs.MessageDocuments.{has_text}
use Rattle.translation_files.proofs.json_file.document_shape.has_text.Given as goal

-- one of the members that are left is a text, if one is
abbrev pub invariant-loop-member : goal.invariant-loop-member
invariant-loop-member l = has_text (members_view l.members.entries) ≡ has_text (members_view l.member-iterator)
