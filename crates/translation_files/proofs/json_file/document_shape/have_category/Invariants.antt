use Rattle.std.proofs.Common.{◌≡◌}
use Rattle.serde_json.specs.View.{members_view}
use Rattle.translation_files.specs.MessageDocuments.{is_form, some_member}
use Rattle.translation_files.proofs.json_file.document_shape.have_category.Given as goal

-- one of the forms that are left is the text of a category, if one is
abbrev pub invariant-loop-name : goal.invariant-loop-name
invariant-loop-name l = some_member is_form (members_view l.forms.entries) ≡ some_member is_form (members_view l.name-iterator)
