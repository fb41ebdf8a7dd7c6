use Rattle.std.proofs.Common.{◌≡◌}
use Rattle.std.specs.Prelude.{IsFalse}
use Rattle.serde_json.specs.Find.{get_member}
use Rattle.serde_json.specs.View.{members_view}
use Rattle.message_report.specs.Inner.FormValues.{first_of, value_of_form}
use Rattle.message_report.specs.MessageForms.{form_name}
use Rattle.message_report.specs.MessagesReport.{other_keys}
use Rattle.message_report.specs.declared.form.Form.{Form}
use Rattle.message_report.proofs.form_values.FormValues.of.Given as goal

-- what is found so far, and then in the remaining members, is what is found in all
abbrev pub invariant-loop-key : goal.invariant-loop-key
invariant-loop-key l =
    let left = members_view l.key-iterator in
    let all = members_view l.members.entries in
    ((form : Form) → first_of (value_of_form form l.values) (get_member (form_name form) left) ≡ get_member (form_name form) all)
    × (IsFalse l.values.has_other_keys → other_keys left ≡ other_keys all)
