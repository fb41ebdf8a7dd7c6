-- Not a definition of the subject: what is told of a key, by how many that name no form come before
-- it.
use Rattle.std.specs.Prelude.{ℕ, ◌+◌, nat_lt, List, [], ◌∷◌, if◌then◌else◌}
use Rattle.message_report.specs.FoundInMessages.{MessageFound, nothing_found_in_messages}
use Rattle.message_report.specs.MessageForms.{is_form_name}
use Rattle.message_report.specs.MessagePlaces.{MessagePlace}
use Rattle.message_report.specs.MessagesReport.{key_finding}
use Rattle.plural_documents.specs.PrintedKeys.{most_told}

-- of one that names no form
abbrev pub told_key : MessagePlace → ℕ → List ℕ → MessageFound
told_key place before key = record {
  findings = if nat_lt before most_told then key_finding place key ∷ [] else [];
  faults = 1;
  notes = 0;
  messages = 0;
  forms = 0;
}

abbrev pub told_unless_form : MessagePlace → ℕ → List ℕ → MessageFound
told_unless_form place before key = if is_form_name key then nothing_found_in_messages else told_key place before key

abbrev pub count_at : ℕ → List ℕ → ℕ
count_at before key = if is_form_name key then before else before + 1
