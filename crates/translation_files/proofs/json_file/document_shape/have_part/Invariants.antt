use Rattle.std.proofs.Common.{◌≡◌}
use Rattle.serde_json.specs.View.{members_view}
use Rattle.translation_files.specs.MessageDocuments.{has_part, some_member}
use Rattle.translation_files.proofs.json_file.document_shape.have_part.Given as goal

-- one of the locales that are left has messages, if one has
abbrev pub invariant-loop-key : goal.invariant-loop-key
invariant-loop-key l = some_member has_part (members_view l.locales.entries) ≡ some_member has_part (members_view l.key-iterator)
